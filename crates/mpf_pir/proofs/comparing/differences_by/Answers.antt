use Rattle.std.proofs.Common.{◌≡◌, ◌+◌, ◌/◌, ◌<◌, ℕ, List, [], ◌∷◌, ◌++◌, length, get_or, ap, sym, subst, ◌∙◌, arith}
use Rattle.std.specs.Prelude.{Option, Some, None, IfSome}
use Rattle.mpf_pir.specs.declared.pins.Wire.{Wire}
use Rattle.mpf_pir.specs.declared.comparing.Seen.{Seen}
use Rattle.mpf_pir.specs.Pins.{wire_at}
use Rattle.mpf_pir.specs.Index.{wire_by}
use Rattle.mpf_pir.specs.Differences.{link_at}
use Rattle.mpf_pir.specs.Progress.{links_of, pin_at, seen_at, IsSeen, AreDifferencesBelow}
use Rattle.mpf_pir.proofs.WiringLemmas.{wire_by-at}
use Rattle.mpf_pir.proofs.ComparisonLemmas.{length-seen, own_number, link_by_number, seen_step, odd_here, even_here, found, passed}
use Rattle.mpf_pir.proofs.comparing.differences_by.Goals as goal
use Rattle.mpf_pir.proofs.comparing.differences_by.Goals.{in-Some+in_ok-push, in_default}

pub loop-number-preserved : goal.loop-number-preserved
loop-number-preserved c =
    let p = c.args.p.now in
    let t = c.args.t.now in
    let n = c.loop-number.number in
    let small : n < 32768 = c.loop-number-test.true in
    let s : List Seen = c.loop-number.seen in
    let link : Option ℕ = c.link_at-link.result in
    let wire : Option Wire = c.wire_at-wire.result in
    let wired : wire_at p (pin_at n) ≡ wire = sym (c.wire_at-wire.ensures ∙ ap (λ es. wire_by es n) c.requires.pins ∙ wire_by-at p (pin_at n) n (omega arith) (omega arith) (own_number n)) in
    let table : get_or c.args.slots.now (n / 4) None ≡ links_of t.slots (n / 4) = c.requires.slots.members (n / 4) (omega arith) in
    let linked : link_at t (pin_at n) ≡ link =
    sym (c.link_at-link.ensures.value ∙ link_by_number t n (get_or c.args.slots.now (n / 4) None) table) in
    let long : length s ≡ 256 = sym (length-seen link wire s) ∙ sym (ap length c.odd_of.ensures.seen) ∙ c.odd_of.array_long in
    let byte : (l : ℕ) → link ≡ Some l → l < length s = λ l e. let below : l < 256 = subst (λ o. IfSome o (λ x. x < 256)) e c.link_at-link.ensures.byte in omega (arith, below, long) in
    let seen : (l : ℕ) → IsSeen p t (n + 1) l (seen_at c.odd_of.new.seen l) =
    subst (λ xs. (l : ℕ) → IsSeen p t (n + 1) l (seen_at xs l)) (sym c.odd_of.ensures.seen) (seen_step p t n link wire s linked wired byte c.loop-number.invariant.seen) in
    elim c.match-odd_of.branch [
      | in-Some+in_ok-push w ↦ record {
        below = subst (AreDifferencesBelow p t (n + 1)) (sym (ap (λ v. v.items) w.found-is ∙ w.in_ok-push.ensures.items ∙ ap (λ d. c.loop-number.found.items ++ d ∷ []) w.difference_at.ensures))
            (found p t n c.loop-number.found.items c.loop-number.invariant.below w.in-Some.why small (odd_here p t n link wire s w.in-Some.why linked wired small c.loop-number.invariant.seen (sym c.odd_of.ensures.odd ∙ w.in-Some.is)));
        seen = seen;
      }
      | in_default w ↦ record {
        below = subst (AreDifferencesBelow p t (n + 1)) (sym (ap (λ v. v.items) w.found-is))
            (passed p t n c.loop-number.found.items c.loop-number.invariant.below (even_here p t n link wire s linked wired c.loop-number.invariant.seen (sym c.odd_of.ensures.odd ∙ w.in_default.is)));
        seen = seen;
      }
    ]
