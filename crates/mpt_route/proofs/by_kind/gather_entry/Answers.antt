use Rattle.std.proofs.Common.{ap}
use Rattle.mpt_route.specs.Platform.{processor_in, bus_in, io_in, int_in, lint_in}
use Rattle.mpt_route.proofs.KindLemmas.{gathers, leaves}
use Rattle.mpt_route.proofs.by_kind.gather_entry.Goals as goal

pub returns-in-Ok : goal.returns-in-Ok
returns-in-Ok c es h = record {
  processors = gathers processor_in es c.args.entry c.in-Processor.e _ _ (ap processor_in c.in-Processor.is) h.processors c.in-Ok.ensures.items;
  buses = leaves bus_in es c.args.entry _ (ap bus_in c.in-Processor.is) h.buses;
  ios = leaves io_in es c.args.entry _ (ap io_in c.in-Processor.is) h.ios;
  ints = leaves int_in es c.args.entry _ (ap int_in c.in-Processor.is) h.ints;
  lints = leaves lint_in es c.args.entry _ (ap lint_in c.in-Processor.is) h.lints;
}

pub returns-in-Ok-push : goal.returns-in-Ok-push
returns-in-Ok-push c es h = record {
  processors = leaves processor_in es c.args.entry _ (ap processor_in c.in-Bus.is) h.processors;
  buses = gathers bus_in es c.args.entry c.in-Bus.e _ _ (ap bus_in c.in-Bus.is) h.buses c.in-Ok-push.ensures.items;
  ios = leaves io_in es c.args.entry _ (ap io_in c.in-Bus.is) h.ios;
  ints = leaves int_in es c.args.entry _ (ap int_in c.in-Bus.is) h.ints;
  lints = leaves lint_in es c.args.entry _ (ap lint_in c.in-Bus.is) h.lints;
}

pub returns-in-Ok-push-2 : goal.returns-in-Ok-push-2
returns-in-Ok-push-2 c es h = record {
  processors = leaves processor_in es c.args.entry _ (ap processor_in c.in-IoApic.is) h.processors;
  buses = leaves bus_in es c.args.entry _ (ap bus_in c.in-IoApic.is) h.buses;
  ios = gathers io_in es c.args.entry c.in-IoApic.e _ _ (ap io_in c.in-IoApic.is) h.ios c.in-Ok-push-2.ensures.items;
  ints = leaves int_in es c.args.entry _ (ap int_in c.in-IoApic.is) h.ints;
  lints = leaves lint_in es c.args.entry _ (ap lint_in c.in-IoApic.is) h.lints;
}

pub returns-in-Ok-push-3 : goal.returns-in-Ok-push-3
returns-in-Ok-push-3 c es h = record {
  processors = leaves processor_in es c.args.entry _ (ap processor_in c.in-IoInt.is) h.processors;
  buses = leaves bus_in es c.args.entry _ (ap bus_in c.in-IoInt.is) h.buses;
  ios = leaves io_in es c.args.entry _ (ap io_in c.in-IoInt.is) h.ios;
  ints = gathers int_in es c.args.entry c.in-IoInt.e _ _ (ap int_in c.in-IoInt.is) h.ints c.in-Ok-push-3.ensures.items;
  lints = leaves lint_in es c.args.entry _ (ap lint_in c.in-IoInt.is) h.lints;
}

pub returns-in-Ok-push-4 : goal.returns-in-Ok-push-4
returns-in-Ok-push-4 c es h = record {
  processors = leaves processor_in es c.args.entry _ (ap processor_in c.in-LocalInt.is) h.processors;
  buses = leaves bus_in es c.args.entry _ (ap bus_in c.in-LocalInt.is) h.buses;
  ios = leaves io_in es c.args.entry _ (ap io_in c.in-LocalInt.is) h.ios;
  ints = leaves int_in es c.args.entry _ (ap int_in c.in-LocalInt.is) h.ints;
  lints = gathers lint_in es c.args.entry c.in-LocalInt.e _ _ (ap lint_in c.in-LocalInt.is) h.lints c.in-Ok-push-4.ensures.items;
}
