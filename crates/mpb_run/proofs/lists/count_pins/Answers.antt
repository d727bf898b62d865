use Rattle.std.proofs.Common.{length, ap, ◌∙◌}
use Rattle.std.proofs.lemmas.List.{with_items_is}
use Rattle.mpb_spec.specs.Pulses.{with_pins}
use Rattle.mpb_spec.proofs.Logs.{length-add}
use Rattle.mpb_run.proofs.ListLemmas.{map_changes}
use Rattle.mpb_run.proofs.lists.count_pins.Goals as goal

pub returns : goal.returns
returns c =
    let vs = c.args.counts.now.items in
    let v = c.index_mut.result.now in
    let row = c.deref_mut.ensures.value in
    map_changes (λ l. l.items) (with_pins c.args.pins) c.args.place vs _ v c.requires.there
    (with_items_is v c.add_pins.new.counts (ap (λ xs. length xs) c.add_pins.ensures ∙ length-add c.args.pins 0 c.deref_mut.result.now ∙ c.deref_mut.ensures.len)
    ∙ c.add_pins.ensures ∙ ap (with_pins c.args.pins) (row ∙ ap (λ u. u.items) c.index_mut.ensures.value))
