-- The members of words by their bits.
use Rattle.std.proofs.Common.{◌≡◌, ◌==◌, ℕ, zero, suc, ◌+◌, ◌*◌, ◌/◌, ◌%◌, ◌<◌, ◌≤◌, Bool, true, false, cond, ◌&&◌, ◌||◌, List, [], ◌∷◌, length, refl, sym, ap, ◌∙◌, arith, filter, inl, inr}
use Rattle.std.specs.List.{range_with_len}
use Rattle.std.proofs.lemmas.Bool.{ne_eqb, eq-eqb, eqb-true, cases_lt, cases_eq}
use Rattle.std.proofs.lemmas.List.{get_or_past}
use Rattle.std.proofs.lemmas.Nat.Bits.{bit_at-zero}
use Rattle.mpb_spec.specs.Numbers.{has, IsAscending}
use Rattle.mpb_spec.proofs.NumberLemmas.{AllAbove, AllBelow, IsAscending-filter}
use Rattle.mpb_bits.specs.Sets.{is_set, members, IsSetBelow}

-- a row of numbers
AllAbove-row : (v m k : ℕ) → v < m → AllAbove v (range_with_len m k)
AllAbove-row v m zero lt = tt
AllAbove-row v m (suc k) lt = (lt, AllAbove-row v (m + 1) k (omega arith))

IsAscending-row : (m k : ℕ) → IsAscending (range_with_len m k)
IsAscending-row m zero = tt
IsAscending-row m (suc k) = (AllAbove-row m (m + 1) k (omega arith), IsAscending-row (m + 1) k)

AllBelow-row : (n m k : ℕ) → m + k ≤ n → AllBelow n (range_with_len m k)
AllBelow-row n m zero le = tt
AllBelow-row n m (suc k) le = (omega arith, AllBelow-row n (m + 1) k (omega arith))

has-row_inside : (v m k : ℕ) → m ≤ v → v < m + k → has v (range_with_len m k) ≡ true
has-row_inside v m zero le lt = absurd (omega arith)
has-row_inside v m (suc k) le lt = elim (cases_eq m v) [
  | inl e ↦ rw (eq-eqb m v e) refl
  | inr ne ↦ rw (ne_eqb m v ne) (has-row_inside v (m + 1) k (omega arith) (omega arith))
]

has-row_past : (v m k : ℕ) → m + k ≤ v → has v (range_with_len m k) ≡ false
has-row_past v m zero le = refl
has-row_past v m (suc k) le = rw (ne_eqb m v (λ e. omega arith)) (has-row_past v (m + 1) k (omega arith))

-- a filter
AllBelow-filter : (n : ℕ) (p : ℕ → Bool) (xs : List ℕ) → AllBelow n xs → AllBelow n (filter p xs)
AllBelow-filter n p [] all = tt
AllBelow-filter n p (x ∷ xs) all =
    elim (p x) as (λ b. AllBelow n (cond b (x ∷ filter p xs) (filter p xs))) [ true ↦ (all.0, AllBelow-filter n p xs all.1) | false ↦ AllBelow-filter n p xs all.1 ]

has-filter : (v : ℕ) (p : ℕ → Bool) (xs : List ℕ) → has v (filter p xs) ≡ (p v && has v xs)
has-filter v p [] = elim (p v) as (λ b. false ≡ (b && false)) [ true ↦ refl | false ↦ refl ]
has-filter v p (x ∷ xs) = go (p x) refl (x == v) refl (has-filter v p xs) where
  go : (a : Bool) → p x ≡ a → (b : Bool) → (x == v) ≡ b → has v (filter p xs) ≡ (p v && has v xs) → has v (cond a (x ∷ filter p xs) (filter p xs)) ≡ (p v && (b || has v xs))
  go true pa true e h = let same : x ≡ v = eqb-true x v e in let pv : p v ≡ true = ap p (sym same) ∙ pa in rw pv (rw e refl)
  go true pa false e h = rw e h
  go false pa true e h = let same : x ≡ v = eqb-true x v e in let pv : p v ≡ false = ap p (sym same) ∙ pa in rw pv (h ∙ ap (λ b. b && has v xs) pv)
  go false pa false e h = h

and_true : (b : Bool) → (b && true) ≡ b
and_true true = refl
and_true false = refl

-- past the last word no bit is set
pub is_set-past : (words : List ℕ) (v : ℕ) → 64 * length words ≤ v → is_set words v ≡ false
unfolding is_set
is_set-past words v le =
    let far : length words ≤ v / 64 = omega arith in
    rw (get_or_past words (v / 64) 0 far, bit_at-zero (v % 64)) refl

-- a number is a member where its bit is set
pub has-members : (words : List ℕ) (v : ℕ) → has v (members words) ≡ is_set words v
unfolding members
has-members words v = elim (cases_lt v (64 * length words)) [
  | inl lt ↦ has-filter v (is_set words) (range_with_len 0 (64 * length words)) ∙ ap (λ b. is_set words v && b) (has-row_inside v 0 (64 * length words) (omega arith) (omega arith)) ∙ and_true (is_set words v)
  | inr ge ↦ has-filter v (is_set words) (range_with_len 0 (64 * length words)) ∙ rw (is_set-past words v ge) refl
]

-- the members are a set
pub IsSetBelow-members : (words : List ℕ) → IsSetBelow (64 * length words) (members words)
unfolding members
IsSetBelow-members words = record {
  ascending = IsAscending-filter (is_set words) (range_with_len 0 (64 * length words)) (IsAscending-row 0 (64 * length words));
  below = AllBelow-filter (64 * length words) (is_set words) (range_with_len 0 (64 * length words)) (AllBelow-row (64 * length words) 0 (64 * length words) (omega arith));
}
