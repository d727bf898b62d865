use Rattle.std.proofs.Common.{◌∙◌}
use Rattle.std.proofs.lemmas.List.{with_items_is}
use Rattle.mpb_machine.proofs.Views.{place_set}
use Rattle.mpb_machine.proofs.machine.Machine.select.Goals as goal

pub returns : goal.returns
returns c = place_set _ _ c.args.at _ _ _ _ _ c.self.view_is c.as_mut_slice.ensures.value c.from.ensures c.select.ensures (with_items_is c.self.inside.places _ (c.select.auto.places ∙ c.as_mut_slice.ensures.len))
