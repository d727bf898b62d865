-- The greatest vector, and what the priorities let pass.
use Rattle.std.proofs.Common.{◌≡◌, ◌≢◌, ◌==◌, ℕ, suc, ◌-◌, ◌*◌, ◌/◌, ◌<◌, ◌≤◌, Bool, true, false, cond, List, [], ◌∷◌, ◌++◌, Option, Some, None, length, nat_lt, nat_le, refl, ap, ◌∙◌, arith}
use Rattle.std.specs.List.{AllByRecursion}
use Rattle.std.proofs.lemmas.Bool.{cond-true, cond-false, leb-true, leb-false, ltb-true, ltb-false, lt-ltb, le-ltb, eq-eqb, ne_eqb, or_left, or_right}
use Rattle.std.proofs.lemmas.Option.{slice_get-get_or}
use Rattle.mpb_spec.specs.Numbers.{has, with_number, without, greatest, IsAscending}
use Rattle.mpb_spec.specs.LocalApic.{LocalApic, reset, priority_over, ppr, above, next_vector, accepted, taken_from, taken, ended_of, ended, after_end_of, after_end}
use Rattle.mpb_spec.proofs.NumberLemmas.{AllBelow, IsAscending-with, IsAscending-without, has-with_itself, has-with_other, has-without_itself, has-without_other}
use Rattle.mpb_core_laws.specs.Words.{IsOrdered, IsGreatest}

-- the greatest of an ascending list
pub greatest-some : (xs : List ℕ) (v : ℕ) → IsAscending xs → greatest xs ≡ Some v → IsGreatest v xs
greatest-some [] v up e = cc
greatest-some (x ∷ []) v up e = let is : x ≡ v = cc in record { member = or_left (x == v) false (eq-eqb x v is); above_all = (omega (arith, is), tt) }
greatest-some (x ∷ y ∷ ys) v up e =
    let last : suc (suc (length ys)) - 1 ≡ suc (suc (length ys) - 1) = omega arith in
    let h = greatest-some (y ∷ ys) v up.1 (rw last at e) in
    record { member = or_right (x == v) (has v (y ∷ ys)) h.member; above_all = (omega (arith, up.0.0, h.above_all.0), h.above_all) }

pub greatest-none : (xs : List ℕ) → greatest xs ≡ None → xs ≡ []
greatest-none [] e = refl
greatest-none (x ∷ xs) e = let some = slice_get-get_or (x ∷ xs) (length (x ∷ xs) - 1) 0 (omega arith) in cc

-- lists stay ascending
pub ordered-reset : IsOrdered reset
ordered-reset = record { irr = tt; isr = tt; tmr = tt }

pub ordered-accepted : (a : LocalApic) (v : ℕ) (level : Bool) → IsOrdered a → IsOrdered (accepted v level a)
ordered-accepted a v level o = go (nat_lt v 16) where
  trigger : (level : Bool) → IsAscending (cond level (with_number v a.tmr) (without v a.tmr))
  trigger true = IsAscending-with v a.tmr o.tmr
  trigger false = IsAscending-without v a.tmr o.tmr

  go : (b : Bool) → IsOrdered (cond b a (record a { irr = with_number v a.irr; tmr = cond level (with_number v a.tmr) (without v a.tmr) }))
  go true = o
  go false = record { irr = IsAscending-with v a.irr o.irr; isr = o.isr; tmr = trigger level }

pub ordered-taken : (a : LocalApic) → IsOrdered a → IsOrdered (taken a)
ordered-taken a o = go (next_vector a) where
  go : (r : Option ℕ) → IsOrdered (taken_from a r)
  go None = o
  go (Some v) = record { irr = IsAscending-without v a.irr o.irr; isr = IsAscending-with v a.isr o.isr; tmr = o.tmr }

pub ordered-after_end : (a : LocalApic) → IsOrdered a → IsOrdered (after_end a)
ordered-after_end a o = go (greatest a.isr) where
  go : (r : Option ℕ) → IsOrdered (after_end_of a r)
  go None = o
  go (Some v) = record { irr = o.irr; isr = IsAscending-without v a.isr o.isr; tmr = o.tmr }

-- the processor priority
pub above_task : (tpr : ℕ) (top : Option ℕ) → tpr ≤ priority_over tpr top
above_task tpr None = omega arith
above_task tpr (Some v) = go (nat_le (v / 16) (tpr / 16)) refl where
  go : (b : Bool) → nat_le (v / 16) (tpr / 16) ≡ b → tpr ≤ cond b tpr (v / 16 * 16)
  go true e = omega arith
  go false e = omega (arith, leb-false (v / 16) (tpr / 16) e)

pub task_priority : (a : LocalApic) → a.tpr ≤ ppr a
task_priority a = above_task a.tpr (greatest a.isr)

class_in_service : (tpr v : ℕ) → v / 16 ≤ priority_over tpr (Some v) / 16
class_in_service tpr v = go (nat_le (v / 16) (tpr / 16)) refl where
  go : (b : Bool) → nat_le (v / 16) (tpr / 16) ≡ b → v / 16 ≤ cond b tpr (v / 16 * 16) / 16
  go true e = leb-true (v / 16) (tpr / 16) e
  go false e = omega arith

classes_below : (c top : ℕ) (xs : List ℕ) → top / 16 ≤ c → AllByRecursion (λ u. u ≤ top) xs → AllByRecursion (λ u. u / 16 ≤ c) xs
classes_below c top [] le all = tt
classes_below c top (x ∷ xs) le all = (omega (arith, all.0, le), classes_below c top xs le all.1)

pub service_priority : (a : LocalApic) → IsOrdered a → AllByRecursion (λ v. v / 16 ≤ ppr a / 16) a.isr
service_priority a o = go (greatest a.isr) refl where
  go : (r : Option ℕ) → greatest a.isr ≡ r → AllByRecursion (λ v. v / 16 ≤ priority_over a.tpr r / 16) a.isr
  go None e = rw (greatest-none a.isr e) tt
  go (Some v) e = classes_below (priority_over a.tpr (Some v) / 16) v a.isr (class_in_service a.tpr v) (greatest-some a.isr v o.isr e).above_all

-- what passes it
above-some : (p : ℕ) (top : Option ℕ) (v : ℕ) → above p top ≡ Some v → (top ≡ Some v) × (p / 16 < v / 16)
above-some p None v e = cc
above-some p (Some u) v e = go (nat_lt (p / 16) (u / 16)) refl e where
  go : (b : Bool) → nat_lt (p / 16) (u / 16) ≡ b → cond b (Some u) None ≡ Some v → (Some u ≡ Some v) × (p / 16 < v / 16)
  go true w e = let is : u ≡ v = cc in (e, rw is at (ltb-true (p / 16) (u / 16) w))
  go false w e = cc

above-none : (p : ℕ) (xs : List ℕ) → IsAscending xs → above p (greatest xs) ≡ None → AllByRecursion (λ v. v / 16 ≤ p / 16) xs
above-none p xs up e = go (greatest xs) refl e where
  go : (r : Option ℕ) → greatest xs ≡ r → above p r ≡ None → AllByRecursion (λ v. v / 16 ≤ p / 16) xs
  go None w e = rw (greatest-none xs w) tt
  go (Some v) w e = one (nat_lt (p / 16) (v / 16)) refl e where
    one : (b : Bool) → nat_lt (p / 16) (v / 16) ≡ b → cond b (Some v) None ≡ None → AllByRecursion (λ u. u / 16 ≤ p / 16) xs
    one true t e = cc
    one false t e = classes_below (p / 16) v xs (ltb-false (p / 16) (v / 16) t) (greatest-some xs v up w).above_all

pub next-greatest : (a : LocalApic) (v : ℕ) → IsOrdered a → next_vector a ≡ Some v → IsGreatest v a.irr
next-greatest a v o e = greatest-some a.irr v o.irr (above-some (ppr a) (greatest a.irr) v e).0

pub next-class : (a : LocalApic) (v : ℕ) → next_vector a ≡ Some v → ppr a / 16 < v / 16
next-class a v e = (above-some (ppr a) (greatest a.irr) v e).1

pub next-none : (a : LocalApic) → IsOrdered a → next_vector a ≡ None → AllByRecursion (λ v. v / 16 ≤ ppr a / 16) a.irr
next-none a o e = above-none (ppr a) a.irr o.irr e

-- accepting
lawful : (a : LocalApic) (v : ℕ) (level : Bool) → 16 ≤ v → accepted v level a ≡ record a { irr = with_number v a.irr; tmr = cond level (with_number v a.tmr) (without v a.tmr) }
lawful a v level le = cond-false (nat_lt v 16) a (record a { irr = with_number v a.irr; tmr = cond level (with_number v a.tmr) (without v a.tmr) }) (le-ltb v 16 le)

pub accepted-irr : (a : LocalApic) (v : ℕ) (level : Bool) → 16 ≤ v → has v (accepted v level a).irr ≡ true
accepted-irr a v level le = ap (λ (b : LocalApic). has v b.irr) (lawful a v level le) ∙ has-with_itself v a.irr

pub accepted-tmr : (a : LocalApic) (v : ℕ) (level : Bool) → 16 ≤ v → has v (accepted v level a).tmr ≡ level
accepted-tmr a v level le = ap (λ (b : LocalApic). has v b.tmr) (lawful a v level le) ∙ trigger level where
  trigger : (level : Bool) → has v (cond level (with_number v a.tmr) (without v a.tmr)) ≡ level
  trigger true = has-with_itself v a.tmr
  trigger false = has-without_itself v a.tmr

pub accepted-others : (a : LocalApic) (u v : ℕ) (level : Bool) → u ≢ v → has u (accepted v level a).irr ≡ has u a.irr
accepted-others a u v level ne = go (nat_lt v 16) where
  go : (b : Bool) → has u (cond b a (record a { irr = with_number v a.irr; tmr = cond level (with_number v a.tmr) (without v a.tmr) })).irr ≡ has u a.irr
  go true = refl
  go false = has-with_other u v a.irr ne

pub accepted-triggers : (a : LocalApic) (u v : ℕ) (level : Bool) → u ≢ v → has u (accepted v level a).tmr ≡ has u a.tmr
accepted-triggers a u v level ne = go (nat_lt v 16) level where
  go : (b level : Bool) → has u (cond b a (record a { irr = with_number v a.irr; tmr = cond level (with_number v a.tmr) (without v a.tmr) })).tmr ≡ has u a.tmr
  go true level = refl
  go false true = has-with_other u v a.tmr ne
  go false false = has-without_other u v a.tmr ne

pub accepted-illegal : (a : LocalApic) (v : ℕ) (level : Bool) → v < 16 → accepted v level a ≡ a
accepted-illegal a v level lt = cond-true (nat_lt v 16) a (record a { irr = with_number v a.irr; tmr = cond level (with_number v a.tmr) (without v a.tmr) }) (lt-ltb v 16 lt)

accepting : (a : LocalApic) (v : ℕ) (level b : Bool) → let after = cond b a (record a { irr = with_number v a.irr; tmr = cond level (with_number v a.tmr) (without v a.tmr) }) in (after.isr ≡ a.isr) × (after.tpr ≡ a.tpr)
accepting a v level true = (refl, refl)
accepting a v level false = (refl, refl)

pub accepting-isr : (a : LocalApic) (v : ℕ) (level : Bool) → (accepted v level a).isr ≡ a.isr
accepting-isr a v level = (accepting a v level (nat_lt v 16)).0

pub accepting-tpr : (a : LocalApic) (v : ℕ) (level : Bool) → (accepted v level a).tpr ≡ a.tpr
accepting-tpr a v level = (accepting a v level (nat_lt v 16)).1

-- a number above all members comes last, is the greatest, and goes again
with_last : (v : ℕ) (xs : List ℕ) → AllBelow v xs → with_number v xs ≡ xs ++ v ∷ []
with_last v [] all = refl
with_last v (x ∷ xs) all = rw (lt-ltb x v all.0, le-ltb v x (omega (arith, all.0))) (ap (λ (l : List ℕ). x ∷ l) (with_last v xs all.1))

last_is_greatest : (v : ℕ) (xs : List ℕ) → greatest (xs ++ v ∷ []) ≡ Some v
last_is_greatest v [] = refl
last_is_greatest v (x ∷ []) = refl
last_is_greatest v (x ∷ y ∷ ys) =
    let last : suc (suc (length (ys ++ v ∷ []))) - 1 ≡ suc (suc (length (ys ++ v ∷ [])) - 1) = omega arith in
    rw last (last_is_greatest v (y ∷ ys))

last_goes : (v : ℕ) (xs : List ℕ) → AllBelow v xs → without v (xs ++ v ∷ []) ≡ xs
last_goes v [] all = rw (eq-eqb v v refl) refl
last_goes v (x ∷ xs) all = rw (ne_eqb x v (λ e. omega (arith, all.0, e))) (ap (λ (l : List ℕ). x ∷ l) (last_goes v xs all.1))

below_by_class : (c v : ℕ) (xs : List ℕ) → c < v / 16 → AllByRecursion (λ u. u / 16 ≤ c) xs → AllBelow v xs
below_by_class c v [] lt all = tt
below_by_class c v (x ∷ xs) lt all = (omega (arith, lt, all.0), below_by_class c v xs lt all.1)

in_service_below : (a : LocalApic) (v : ℕ) → IsOrdered a → next_vector a ≡ Some v → AllBelow v a.isr
in_service_below a v o e = below_by_class (ppr a / 16) v a.isr (next-class a v e) (service_priority a o)

top_after : (a : LocalApic) (v : ℕ) → IsOrdered a → next_vector a ≡ Some v → greatest (with_number v a.isr) ≡ Some v
top_after a v o e = ap greatest (with_last v a.isr (in_service_below a v o e)) ∙ last_is_greatest v a.isr

pub ended-taken : (a : LocalApic) (v : ℕ) → IsOrdered a → next_vector a ≡ Some v → ended (taken a) ≡ Some (v, has v a.tmr)
ended-taken a v o e = ap (λ (r : Option ℕ). ended (taken_from a r)) e ∙ ap (λ (r : Option ℕ). ended_of (taken_from a (Some v)) r) (top_after a v o e)

pub service-taken : (a : LocalApic) (v : ℕ) → IsOrdered a → next_vector a ≡ Some v → (after_end (taken a)).isr ≡ a.isr
service-taken a v o e =
    ap (λ (r : Option ℕ). (after_end (taken_from a r)).isr) e
    ∙ ap (λ (r : Option ℕ). (after_end_of (taken_from a (Some v)) r).isr) (top_after a v o e)
    ∙ ap (λ (l : List ℕ). without v l) (with_last v a.isr (in_service_below a v o e))
    ∙ last_goes v a.isr (in_service_below a v o e)
