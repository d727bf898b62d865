use Rattle.std.proofs.Common.{◌≡◌, ◌∙◌, List, All, get_or, length, map, refl, sym, ap, subst, arith}
use Rattle.std.specs.List.{range_with_len}
use Rattle.mpb_latch.specs.Seats.{CollectorSeat, fresh_collector_seat}
use Rattle.mpb_bus_rows.proofs.Lists.{written_back, made_places, kept_places}
use Rattle.mpb_bus_rows.proofs.latch_crew.account_of.Goals as goal

pub close-requires-clause-collectors : goal.close-requires-clause-collectors
close-requires-clause-collectors g c =
    let made = c.in_ok-latch.ensures in
    let old = c.in_ok-latch.cols in
    let shown : c.as_mut_slice-2.result.now ≡ old.items = c.as_mut_slice-2.ensures.value in
    let new = c.run_both.new.cols in
    let long = ap (λ (l : List CollectorSeat). length l) shown in
    let same : length new ≡ length old.items = (let a = c.run_both.auto.cols in omega arith) in
    let places = kept_places new old.items same (λ i d l. c.run_both.ensures.places i d (omega arith) ∙ ap (λ (xs : List CollectorSeat). (get_or xs i d).io) shown) in
    subst (λ (l : List CollectorSeat). (map (λ x. x.io) l ≡ range_with_len 0 c.in_ok-latch.latch.ios) × All (λ x. x.latch ≡ c.in_ok-latch.latch.latch) l) (sym (written_back new old.items old.len same old.ok.0)) (
      places ∙ ap (λ (l : List CollectorSeat). map (λ x. x.io) l) made.collectors ∙ made_places (fresh_collector_seat c.in_ok-latch.latch.latch c.in_ok-latch.latch.plans) (λ n. refl) (range_with_len 0 c.args.ios) ∙ ap (λ n. range_with_len 0 n) (sym made.latch.0),
      λ k d l. (c.run_both.ensures.latch k d l).0,
    )
