use Rattle.std.proofs.Common.{ap, ◌∙◌}
use Rattle.std.proofs.lemmas.List.{with_items_is}
use Rattle.mpb_spec.specs.Outcomes.{taken_by}
use Rattle.mpb_machine.proofs.Views.{processor_set, processor_read}
use Rattle.mpb_machine.proofs.machine.Machine.take.Goals as goal

pub returns-clause-state : goal.returns-clause-state
returns-clause-state c = processor_set _ _ c.args.id _ _ _ _ c.self.view_is c.as_mut_slice.ensures.value c.take.ensures.state (with_items_is c.self.inside.cpus _ (c.take.auto.cpus ∙ c.as_mut_slice.ensures.len))

pub returns-clause-outcome : goal.returns-clause-outcome
returns-clause-outcome c = c.take.ensures.outcome ∙ ap taken_by (processor_read _ _ c.args.id _ c.self.view_is c.as_mut_slice.ensures.value)
