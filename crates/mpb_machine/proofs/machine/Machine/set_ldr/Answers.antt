use Rattle.std.proofs.Common.{◌∙◌}
use Rattle.std.proofs.lemmas.List.{with_items_is}
use Rattle.mpb_machine.proofs.Views.{processor_set}
use Rattle.mpb_machine.proofs.machine.Machine.set_ldr.Goals as goal

pub returns : goal.returns
returns c = processor_set _ _ c.args.id _ _ _ _ c.self.view_is c.as_mut_slice.ensures.value c.set_ldr.ensures (with_items_is c.self.inside.cpus _ (c.set_ldr.auto.cpus ∙ c.as_mut_slice.ensures.len))
