use Rattle.std.proofs.Common.{arith, ◌≡◌, length, slice_index, subst, sym, ap, ◌∙◌, map, refl, eqb}
use mathlib.Core.Option.{some}
use lib.ListN.{get_elem?}
use Rattle.atomic_table.specs.Table.{keeps}
use Rattle.mpb_latch.specs.Rule.{collector_of, collector, after_look}
use Rattle.mpb_latch.proofs.Others.{looks}
use Rattle.mpb_latch.proofs.latch.Latch.ended.Goals as goal

pub load-found-requires : goal.load-found-requires
load-found-requires c =
    let seat = c.col.inside in
    let x = collector_of seat.seat.me.0 in
    let key = c.self.inside.table.shared.key in
    let plans = map (λ p. p.items) key.1.value.items in (
      ap (λ s. s.latch) c.col.view_is ∙ c.requires.seat ∙ sym (ap (λ s. s.latch) c.self.view_is),
      (let w = c.self.invariant.0.0 in omega arith),
      λ s ok slots at word. (
        collector (after_look (eqb (slice_index s.words 0) (length x.plans)) x),
        keeps,
        tt,
        looks key.0 plans s seat.seat.id ok x (subst (λ m. get_elem? s.views seat.seat.id ≡ some m.0) c.col.invariant.0 at),
        ap (λ m. (collector (after_look (eqb (slice_index s.words 0) (length x.plans)) x), m)) refl,
      ),
    )
