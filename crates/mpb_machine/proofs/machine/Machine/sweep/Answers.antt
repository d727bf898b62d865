use Rattle.std.proofs.Common.{◌∙◌}
use Rattle.std.proofs.lemmas.List.{with_items_is}
use Rattle.mpb_machine.proofs.Views.{place_set}
use Rattle.mpb_machine.proofs.machine.Machine.sweep.Goals as goal

pub returns : goal.returns
returns c = place_set _ _ c.args.at _ _ _ _ _ c.self.view_is c.as_mut_slice.ensures.value c.from.ensures c.sweep.ensures (with_items_is c.self.inside.places _ (c.sweep.auto.places ∙ c.as_mut_slice.ensures.len))
