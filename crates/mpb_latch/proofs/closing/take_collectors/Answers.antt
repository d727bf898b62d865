use Rattle.std.proofs.Common.{◌≡◌, ◌∙◌, ap, ℕ, List, Vec, Global, All, length, sym, subst, arith}
use Rattle.std.proofs.lemmas.Grind.{common_steps}
use Rattle.std.proofs.lemmas.List.{append-nil}
use Rattle.std.proofs.lemmas.List.Elements.{All-push}
use Rattle.mpb_latch.proofs.closing.take_collectors.Goals as goal

pub loop-seat-preserved : goal.loop-seat-preserved
loop-seat-preserved c =
    let i = c.loop-seat.invariant in
    let taken = c.take_collector-counts.ensures.taken in
    let wide = λ (x : Vec ℕ Global). length x.items ≡ 24 in (
      taken.0 ∙ i.0,
      ap (λ m. m.1) taken.1 ∙ i.1,
      ap (λ m. m.0.devices) taken.1 ∙ append-nil c.loop-seat.all.me.0.devices ∙ i.2,
      grind (arith, common_steps),
      grind (arith, common_steps),
      subst (λ (xs : List (Vec ℕ Global)). All wide xs) (sym c.in-Ok.ensures.items) (All-push wide c.loop-seat.collected.items c.take_collector-counts.result i.5 c.take_collector-counts.ensures.wide),
      grind (arith, common_steps),
    )
