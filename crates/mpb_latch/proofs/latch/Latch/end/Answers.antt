use Rattle.std.proofs.Common.{arith, ◌≡◌, length, subst, sym, ap, ◌∙◌, map, refl}
use mathlib.Core.Option.{some}
use lib.ListN.{get_elem?}
use Rattle.atomic_table.specs.Table.{keeps}
use Rattle.mpb_latch.specs.Rule.{device_of, device, after_end}
use Rattle.mpb_latch.proofs.Others.{ends}
use Rattle.mpb_latch.proofs.latch.Latch.end.Goals as goal

pub fetch_add-requires : goal.fetch_add-requires
fetch_add-requires c =
    let seat = c.seat.inside in
    let d = device_of seat.seat.me.0 in
    let shown = c.seat.view_is in
    let key = c.self.inside.table.shared.key in
    let plans = map (λ p. p.items) key.1.value.items in
    let going = ap (λ s. s.ended) shown ∙ c.requires.going in
    let done = ap (λ s. length s.log) shown ∙ c.requires.done ∙ sym (ap (λ s. length s.plan) shown) in (
      ap (λ s. s.latch) shown ∙ c.requires.seat ∙ sym (ap (λ s. s.latch) c.self.view_is),
      (let w = c.self.invariant.0.0 in omega arith),
      λ s ok slots at word. (
        device (after_end d),
        keeps,
        tt,
        ends key.0 plans s seat.seat.id ok d (subst (λ m. get_elem? s.views seat.seat.id ≡ some m.0) c.seat.invariant.0 at) going done,
        ap (λ m. (device (after_end d), m)) refl,
      ),
    )
