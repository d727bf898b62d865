use Rattle.std.proofs.Common.{arith, length, ◌≡◌, ◌<◌, ◌≤◌, ◌^◌, ◌+◌, ℕ, List, slice_index, subst, sym, ap, ◌∙◌, map, set, sum_by}
use mathlib.Core.Option.{some}
use lib.ListN.{get_elem?}
use Rattle.atomic_table.specs.Table.{keeps}
use Rattle.std.specs.Int.{bit_at}
use Rattle.mpb_spec.specs.Pulses.{with_pins_from, planned_in}
use Rattle.mpb_latch.specs.Rule.{IsBalanced, collector_of, collector, after_collect}
use Rattle.mpb_spec.proofs.Logs.{add_at}
use Rattle.mpb_latch.proofs.Starts.{all_planned-le}
use Rattle.mpb_latch.proofs.Others.{collects, mine, counted_are_planned}
use Rattle.mpb_latch.proofs.latch.Latch.collect.Goals as goal

pub swap-found-requires : goal.swap-found-requires
swap-found-requires c =
    let seat = c.col.inside in
    let x = collector_of seat.seat.me.0 in
    let key = c.self.inside.table.shared.key in
    let plans = map (λ p. p.items) key.1.value.items in
    let ios = key.0 in
    let same_latch = ap (λ s. s.latch) c.col.view_is ∙ c.requires.seat ∙ sym (ap (λ s. s.latch) c.self.view_is) in
    let same_words = ap (λ t. t.words) same_latch in
    let wide = c.self.invariant.0.0 in
    let place = c.col.invariant.1 in (
      same_latch,
      (let p = place.1 in omega arith),
      λ s ok slots at word.
          let at' = subst (λ m. get_elem? s.views seat.seat.id ≡ some m.0) c.col.invariant.0 at in
          let here : x.io < ios = (let p = place.0 in let q = place.1 in omega arith) in
          let w = slice_index s.words (x.io + 1) in
          let word_is : slice_index s.words (seat.io + 1) ≡ w = ap (λ (i : ℕ). slice_index s.words (i + 1)) place.0 in (
            collector (after_collect w x),
            keeps,
            tt,
            subst (λ (i : ℕ). IsBalanced ios plans record { words = set s.words (i + 1) 0; homes = s.homes; views = set s.views seat.seat.id (collector (after_collect w x)) }) (sym place.0) (collects ios plans s seat.seat.id ok x at' here),
            (
              ap (λ (k : ℕ). (collector (after_collect k x), seat.seat.me.1)) (sym word_is),
              subst (λ k. k < 2 ^ 24) (sym word_is) (ok.narrow x.io here),
              (λ dry. word_is ∙ ((mine ios plans s seat.seat.id ok x at').3 dry).1),
              subst (λ (k : ℕ). (pin : ℕ) → pin < 24 → slice_index (with_pins_from k 0 x.counts) pin ≤ sum_by (planned_in x.io pin) x.plans) (sym word_is) (counted_are_planned ios plans s seat.seat.id ok x at' here),
            ),
          ),
    )

pub add_pins-requires : goal.add_pins-requires
add_pins-requires c =
    let col = c.col.inside in
    let x = collector_of col.seat.me.0 in
    let n = c.swap-found.result in
    let here = c.deref_mut.ensures.value in
    let counted = c.col.invariant.3 in
    let len : length col.counts.items ≡ 24 = counted.1 in
    let told = c.swap-found.ensures.2.3 in
    record {
      wide = ap (λ (l : List ℕ). length l) here ∙ len;
      low = λ pin l.
          (let now = ap (λ (xs : List ℕ). slice_index xs pin) (here ∙ counted.0) in
          let len' = ap (λ (xs : List ℕ). length xs) counted.0 in
          let sum = add_at n 0 x.counts pin (omega arith) in
          let bit : bit_at n (0 + pin) ≡ bit_at n pin = ap (bit_at n) (omega arith) in
          let t = told pin l in
          let all = all_planned-le x.io pin x.plans in
          let few = c.col.invariant.4 in
          omega arith);
    }

pub returns-clause-counts : goal.returns-clause-counts
returns-clause-counts c pin l =
    let x = collector_of c.col.inside.seat.me.0 in
    let n = c.swap-found.result in
    let counted = c.col.invariant.3 in
    let len' = ap (λ (xs : List ℕ). length xs) counted.0 in
    ap (λ m. slice_index (collector_of m.0).counts pin) c.swap-found.ensures.2.0
    ∙ add_at n 0 x.counts pin (let w = counted.1 in omega arith)
    ∙ ap (λ (j : ℕ). slice_index x.counts pin + bit_at n j) (omega arith)
    ∙ ap (λ s. slice_index s.counts pin + bit_at n pin) c.col.view_is
