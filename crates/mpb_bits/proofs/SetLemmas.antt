-- Strictly ascending lists: one list for one set, its greatest member, and the members of two sets together.
use Rattle.std.proofs.Common.{◌≡◌, ◌==◌, ℕ, suc, ◌-◌, ◌<◌, Bool, true, false, ◌||◌, List, [], ◌∷◌, length, refl, sym, ap, ap₂, ◌∙◌, arith, inl, inr, Some, subst}
use Rattle.std.proofs.lemmas.Bool.{ne_eqb, eq-eqb, cases_lt, cases_eq}
use Rattle.mpb_spec.specs.Numbers.{has, with_number, greatest, IsAscending}
use Rattle.mpb_spec.proofs.NumberLemmas.{AllAbove, AllAbove-weaker, filter_above, IsAscending-with, has-with_itself, has-with_other}
use Rattle.mpb_bits.specs.Sets.{united}

pub has-head : (x : ℕ) (xs : List ℕ) → has x (x ∷ xs) ≡ true
has-head x xs = rw (eq-eqb x x refl) refl

has-above : (v : ℕ) (xs : List ℕ) → AllAbove v xs → has v xs ≡ false
has-above v xs all = (filter_above v xs all).3

-- the least member of one set is not below the least of the other
not_lower : (x y : ℕ) (xs ys : List ℕ) → AllAbove y ys → ((v : ℕ) → has v (x ∷ xs) ≡ has v (y ∷ ys)) → x < y → ⊥
not_lower x y xs ys above same lt =
    let there = has-head x xs in
    let absent = has-above x (y ∷ ys) (lt, AllAbove-weaker x y ys (omega arith) above) in
    let both = same x in
    cc

same_tails : (x : ℕ) (xs ys : List ℕ) → AllAbove x xs → AllAbove x ys → ((v : ℕ) → has v (x ∷ xs) ≡ has v (x ∷ ys)) → (v : ℕ) → has v xs ≡ has v ys
same_tails x xs ys ax ay same v = elim (cases_eq x v) [
  | inl e ↦ subst (λ (u : ℕ). has u xs ≡ has u ys) e (has-above x xs ax ∙ sym (has-above x ys ay))
  | inr ne ↦ rw (ne_eqb x v ne) at (same v)
]

-- two strictly ascending lists with the same members are one
pub same_sets : (xs ys : List ℕ) → IsAscending xs → IsAscending ys → ((v : ℕ) → has v xs ≡ has v ys) → xs ≡ ys
same_sets [] [] ux uy same = refl
same_sets [] (y ∷ ys) ux uy same = let there = has-head y ys in let both = same y in cc
same_sets (x ∷ xs) [] ux uy same = let there = has-head x xs in let both = same x in cc
same_sets (x ∷ xs) (y ∷ ys) ux uy same =
    let e : x ≡ y = elim (cases_lt x y) [
      | inl lt ↦ absurd (not_lower x y xs ys uy.0 same lt)
      | inr ge ↦ elim (cases_lt y x) [ inl gt ↦ absurd (not_lower y x ys xs ux.0 (λ v. sym (same v)) gt) | inr le ↦ omega arith ]
    ] in
    let above : AllAbove x ys = subst (λ (u : ℕ). AllAbove u ys) (sym e) uy.0 in
    let heads : (v : ℕ) → has v (x ∷ xs) ≡ has v (x ∷ ys) = λ v. same v ∙ subst (λ (u : ℕ). has v (y ∷ ys) ≡ has v (u ∷ ys)) (sym e) refl in
    ap₂ ◌∷◌ e (same_sets xs ys ux.1 uy.1 (same_tails x xs ys ux.0 above heads))

or_right : (a b : Bool) → (a || b) ≡ false → b ≡ false
or_right true b h = cc
or_right false b h = h

-- the member is not the first of two, since the second is above it
member_later : (x y n : ℕ) (ys : List ℕ) → x < y → has n (x ∷ y ∷ ys) ≡ true → ((v : ℕ) → n < v → has v (x ∷ y ∷ ys) ≡ false) → has n (y ∷ ys) ≡ true
member_later x y n ys lt there above = elim (cases_eq x n) [
  | inl e ↦ let gone = or_right (x == y) (has y (y ∷ ys)) (above y (omega arith)) in let here = has-head y ys in cc
  | inr ne ↦ rw (ne_eqb x n ne) at there
]

-- a member with none above it is the greatest
pub greatest_is : (xs : List ℕ) (n : ℕ) → IsAscending xs → has n xs ≡ true → ((v : ℕ) → n < v → has v xs ≡ false) → greatest xs ≡ Some n
greatest_is [] n up there above = cc
greatest_is (x ∷ []) n up there above = elim (cases_eq x n) [
  | inl e ↦ ap Some e
  | inr ne ↦ let no = rw (ne_eqb x n ne) at there in cc
]
greatest_is (x ∷ y ∷ ys) n up there above =
    let last : length (x ∷ y ∷ ys) - 1 ≡ suc (length (y ∷ ys) - 1) = omega arith in
    rw last (greatest_is (y ∷ ys) n up.1 (member_later x y n ys up.0.0 there above) (λ v lt. or_right (x == v) (has v (y ∷ ys)) (above v lt)))

-- a set with no member is empty
pub no_members : (xs : List ℕ) → ((v : ℕ) → has v xs ≡ false) → xs ≡ []
no_members [] none = refl
no_members (x ∷ xs) none = let there = has-head x xs in let absent = none x in cc

-- the members of two sets together
or_false : (b : Bool) → (b || false) ≡ b
or_false true = refl
or_false false = refl

or_true : (b : Bool) → (b || true) ≡ true
or_true true = refl
or_true false = refl

pub has-united : (v : ℕ) (xs ys : List ℕ) → has v (united xs ys) ≡ (has v xs || has v ys)
has-united v xs [] = sym (or_false (has v xs))
has-united v xs (y ∷ ys) = elim (cases_eq v y) [
  | inl e ↦ subst (λ (u : ℕ). has v (with_number u (united xs ys)) ≡ (has v xs || has v (u ∷ ys))) e (has-with_itself v (united xs ys) ∙ sym (ap (λ b. has v xs || b) (has-head v ys) ∙ or_true (has v xs)))
  | inr ne ↦ has-with_other v y (united xs ys) ne ∙ has-united v xs ys ∙ sym (ap (λ b. has v xs || (b || has v ys)) (ne_eqb y v (λ e. ne (sym e))))
]

pub IsAscending-united : (xs ys : List ℕ) → IsAscending xs → IsAscending (united xs ys)
IsAscending-united xs [] up = up
IsAscending-united xs (y ∷ ys) up = IsAscending-with y (united xs ys) (IsAscending-united xs ys up)
