-- A platform and a table have a list of differences.
use Rattle.std.proofs.Common.{◌≡◌, ◌≢◌, ℕ, zero, suc, ◌+◌, ◌<◌, ◌≤◌, ◌⊎◌, Bool, true, false, List, [], ◌∷◌, ◌++◌, sym, refl, ap, ◌∙◌, subst, inl, inr, arith}
use Rattle.std.specs.Prelude.{Option, Some, None}
use Rattle.mpt_route.specs.declared.platform.Platform.{Platform}
use Rattle.mpf_pir.specs.declared.pins.Pin.{Pin}
use Rattle.mpf_pir.specs.declared.pins.Wire.{Wire}
use Rattle.mpf_pir.specs.declared.table.Pir.{Pir}
use Rattle.mpf_pir.specs.declared.comparing.Odd.{Odd}
use Rattle.mpf_pir.specs.declared.comparing.Odd.TheVariants as odd
use Rattle.mpf_pir.specs.declared.comparing.Difference.{Difference}
use Rattle.mpf_pir.specs.Pins.{is_wire, wire_at}
use Rattle.mpf_pir.specs.Differences.{link_at, HasOtherWireBefore, IsOdd}
use Rattle.mpf_pir.specs.Progress.{pin_at, pin_number, difference_at, HasBoth, AreDifferencesBelow}
use Rattle.mpf_pir.proofs.ComparisonLemmas.{own_number, pin_of_number, number_ascends, pin_ascends, IsPin-at, same_wire, two_wires, no_differences, found, passed, whole}
use Rattle.mpt_laws.proofs.EntryJudgment.{Decided, decided-eq}
use Rattle.mpf_laws.specs.Laws.{HasDifferences}

module _ (p : Platform) (t : Pir) where
  -- a pin below number n has this link and another wire
  record HasOtherBelow (link : ℕ) (wire : Wire) (n : ℕ) : Type 0 where
    number : ℕ
    below : number < n
    its_wire : Wire
    both : HasBoth p t number link its_wire
    differs : its_wire ≢ wire

  -- the pin with a number has this link and another wire, or hasn't
  other_here : (link : ℕ) (wire : Wire) (k : ℕ) → Decided ((w : Wire) × HasBoth p t k link w × (w ≢ wire))
  other_here link wire k = by_parts (link_at t (pin_at k)) (wire_at p (pin_at k)) refl refl
    where
      other_link : (l : ℕ) → link_at t (pin_at k) ≡ Some l → l ≢ link → (w : Wire) × HasBoth p t k link w × (w ≢ wire) → ⊥
      other_link l e n (w, b, d) = n (let all : Some l ≡ Some link = sym e ∙ b.links in cc)

      same_link : (l : ℕ) (v : Wire) → link_at t (pin_at k) ≡ Some l → wire_at p (pin_at k) ≡ Some v → Decided (l ≡ link) → (b : Bool) → is_wire v wire ≡ b → Decided ((w : Wire) × HasBoth p t k link w × (w ≢ wire))
      same_link l v e f (inr n) b q = inr (other_link l e n)
      same_link l v e f (inl s) true q = inr (λ h. h.2 (let all : Some v ≡ Some h.0 = sym f ∙ h.1.wires in let one : v ≡ h.0 = cc in sym one ∙ same_wire v wire q))
      same_link l v e f (inl s) false q = inl (v, record { links = e ∙ ap (λ x. Some x) s; wires = f }, two_wires v wire q)

      by_parts : (o : Option ℕ) (w : Option Wire) → link_at t (pin_at k) ≡ o → wire_at p (pin_at k) ≡ w → Decided ((v : Wire) × HasBoth p t k link v × (v ≢ wire))
      by_parts None w e f = inr (λ h. let wrong : None ≡ Some link = sym e ∙ h.1.links in cc)
      by_parts (Some l) None e f = inr (λ h. let wrong : None ≡ Some h.0 = sym f ∙ h.1.wires in cc)
      by_parts (Some l) (Some v) e f = same_link l v e f (decided-eq l link) (is_wire v wire) refl

  split : (k n : ℕ) → k < suc n → (k < n) ⊎ (k ≡ n)
  split k n l = grind arith

  other_below : (link : ℕ) (wire : Wire) (n : ℕ) → Decided (HasOtherBelow link wire n)
  other_below link wire zero = inr (λ h. omega (arith, h.below))
  other_below link wire (suc n) = by_parts (other_below link wire n) (other_here link wire n)
    where
      neither : ¬ HasOtherBelow link wire n → ¬ ((w : Wire) × HasBoth p t n link w × (w ≢ wire)) → (h : HasOtherBelow link wire (suc n)) → (h.number < n) ⊎ (h.number ≡ n) → ⊥
      neither a b h (inl l) = a (record { number = h.number; below = l; its_wire = h.its_wire; both = h.both; differs = h.differs })
      neither a b h (inr e) = b (h.its_wire, subst (λ k. HasBoth p t k link h.its_wire) e h.both, h.differs)

      by_parts : Decided (HasOtherBelow link wire n) → Decided ((w : Wire) × HasBoth p t n link w × (w ≢ wire)) → Decided (HasOtherBelow link wire (suc n))
      by_parts (inl h) d = inl (record { number = h.number; below = omega (arith, h.below); its_wire = h.its_wire; both = h.both; differs = h.differs })
      by_parts (inr a) (inl (w, b, d)) = inl (record { number = n; below = omega arith; its_wire = w; both = b; differs = d })
      by_parts (inr a) (inr b) = inr (λ h. neither a b h (split h.number n h.below))

  -- by numbers, or by pins
  other_before : (n link : ℕ) (wire : Wire) → n < 32768 → HasOtherBelow link wire n → HasOtherWireBefore p t (pin_at n) link wire
  other_before n link wire small h = record {
    other = pin_at h.number;
    is_pin = IsPin-at h.number (omega (arith, h.below));
    before = pin_ascends h.number n h.below;
    link_same = h.both.links;
    its_wire = h.its_wire;
    has_wire = h.both.wires;
    differs = h.differs;
  }

  other_of : (n link : ℕ) (wire : Wire) → HasOtherWireBefore p t (pin_at n) link wire → HasOtherBelow link wire n
  other_of n link wire o =
      let at : pin_at (pin_number o.other) ≡ o.other = pin_of_number o.other o.is_pin in
      record {
        number = pin_number o.other;
        below = subst (λ m. pin_number o.other < m) (sym (own_number n)) (number_ascends o.other (pin_at n) o.is_pin o.before);
        its_wire = o.its_wire;
        both = record { links = ap (link_at t) at ∙ o.link_same; wires = ap (wire_at p) at ∙ o.has_wire };
        differs = o.differs;
      }

  -- a pin is odd for a reason, or for none
  odd_or_even : (n : ℕ) → n < 32768 → ((why : Odd) × IsOdd p t (pin_at n) why) ⊎ ((why : Odd) → IsOdd p t (pin_at n) why → ⊥)
  odd_or_even n small = by_parts (link_at t (pin_at n)) (wire_at p (pin_at n)) refl refl
    where
      even_nothing : link_at t (pin_at n) ≡ None → wire_at p (pin_at n) ≡ None → (why : Odd) → IsOdd p t (pin_at n) why → ⊥
      even_nothing e f odd.OnlyPir (l, a, b) = let wrong : None ≡ Some l = sym e ∙ a in cc
      even_nothing e f odd.OnlyMp (w, a, b) = let wrong : None ≡ Some w = sym f ∙ a in cc
      even_nothing e f odd.Link (l, w, a, b, o) = let wrong : None ≡ Some l = sym e ∙ a in cc

      even_both : (l : ℕ) (w : Wire) → link_at t (pin_at n) ≡ Some l → wire_at p (pin_at n) ≡ Some w → ¬ HasOtherBelow l w n → (why : Odd) → IsOdd p t (pin_at n) why → ⊥
      even_both l w e f none odd.OnlyPir (m, a, b) = let wrong : Some w ≡ None = sym f ∙ b in cc
      even_both l w e f none odd.OnlyMp (v, a, b) = let wrong : Some l ≡ None = sym e ∙ b in cc
      even_both l w e f none odd.Link (m, v, a, b, o) =
          let all : Some m ≡ Some l = sym a ∙ e in
          let one : m ≡ l = cc in
          let alls : Some v ≡ Some w = sym b ∙ f in
          let same : v ≡ w = cc in
          none (subst (λ k. HasOtherBelow k w n) one (subst (λ u. HasOtherBelow m u n) same (other_of n m v o)))

      by_other : (l : ℕ) (w : Wire) → link_at t (pin_at n) ≡ Some l → wire_at p (pin_at n) ≡ Some w → Decided (HasOtherBelow l w n) → ((why : Odd) × IsOdd p t (pin_at n) why) ⊎ ((why : Odd) → IsOdd p t (pin_at n) why → ⊥)
      by_other l w e f (inl h) = inl (odd.Link, (l, w, e, f, other_before n l w small h))
      by_other l w e f (inr none) = inr (even_both l w e f none)

      by_parts : (o : Option ℕ) (w : Option Wire) → link_at t (pin_at n) ≡ o → wire_at p (pin_at n) ≡ w → ((why : Odd) × IsOdd p t (pin_at n) why) ⊎ ((why : Odd) → IsOdd p t (pin_at n) why → ⊥)
      by_parts None None e f = inr (even_nothing e f)
      by_parts None (Some w) e f = inl (odd.OnlyMp, (w, f, e))
      by_parts (Some l) None e f = inl (odd.OnlyPir, (l, e, f))
      by_parts (Some l) (Some w) e f = by_other l w e f (other_below l w n)

  -- the differences below a number
  differences_below : (n : ℕ) → n ≤ 32768 → (ds : List Difference) × AreDifferencesBelow p t n ds
  differences_below zero small = ([], no_differences p t)
  differences_below (suc n) small = by_pin (differences_below n (omega arith)) (odd_or_even n (omega arith))
    where
      next : n + 1 ≡ suc n
      next = omega arith

      by_pin : ((ds : List Difference) × AreDifferencesBelow p t n ds) → ((why : Odd) × IsOdd p t (pin_at n) why) ⊎ ((why : Odd) → IsOdd p t (pin_at n) why → ⊥) → (ds : List Difference) × AreDifferencesBelow p t (suc n) ds
      by_pin (ds, h) (inl (why, o)) = (ds ++ difference_at n why ∷ [], subst (λ m. AreDifferencesBelow p t m (ds ++ difference_at n why ∷ [])) next (found p t n ds h why (omega arith) o))
      by_pin (ds, h) (inr none) = (ds, subst (λ m. AreDifferencesBelow p t m ds) next (passed p t n ds h none))

-- a platform and a table have a list of differences
pub differences-there : (p : Platform) (t : Pir) → HasDifferences p t
differences-there p t = let all = differences_below p t 32768 (omega arith) in (all.0, whole p t 32768 all.0 all.1 refl)
