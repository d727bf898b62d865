use Rattle.std.proofs.Common.{ap, ◌∙◌}
use Rattle.std.proofs.lemmas.List.{with_items_is}
use Rattle.mpb_spec.specs.Outcomes.{of_line}
use Rattle.mpb_machine.proofs.Views.{place_set, place_read}
use Rattle.mpb_machine.proofs.machine.Machine.drive.Goals as goal

pub returns-clause-state : goal.returns-clause-state
returns-clause-state c = place_set _ _ c.args.at _ _ _ _ _ c.self.view_is c.as_mut_slice.ensures.value c.from.ensures c.drive.ensures.state (with_items_is c.self.inside.places _ (c.drive.auto.places ∙ c.as_mut_slice.ensures.len))

pub returns-clause-outcome : goal.returns-clause-outcome
returns-clause-outcome c = c.drive.ensures.outcome ∙ ap (of_line c.args.pin c.args.high) (place_read _ _ c.args.at _ _ c.self.view_is c.as_mut_slice.ensures.value c.from.ensures)
