-- What a call does to the members: a bit set, a bit cleared, the highest word, two sets together.
use Rattle.std.proofs.Common.{◌≡◌, ◌≢◌, ◌==◌, ℕ, zero, suc, ◌+◌, ◌*◌, ◌/◌, ◌%◌, ◌^◌, ◌<◌, ◌≤◌, max, false, ◌||◌, List, [], length, get_or, set, replicate, refl, sym, ap, ap₂, ◌∙◌, arith, inl, inr, Some, None, subst}
use Rattle.std.specs.Prelude.{bit_and, bit_or}
use Rattle.std.specs.Int.{bit_at, bit_not, w64}
use Rattle.std.proofs.lemmas.Bool.{eq-eqb, cases_lt, cases_eq}
use Rattle.std.proofs.lemmas.List.{get_or_past, get_or-set_same, get_or-set_other, get_or-replicate, length-replicate}
use Rattle.std.proofs.Math.Nat.{pow-suc}
use Rattle.std.proofs.lemmas.Nat.{pow_pos, le-div, div_below}
use Rattle.std.proofs.lemmas.Nat.Bits.{shr_and_one, bit_at-zero, bit_at-lt, bit_at_or, bit_at_above, bit_at_set_same, bit_at_set_other, bit_at_clear_same, bit_at_clear_other}
use Rattle.mpb_spec.specs.Numbers.{has, with_number, without, greatest, IsAscending}
use Rattle.mpb_spec.proofs.NumberLemmas.{IsAscending-with, IsAscending-without, has-with_itself, has-with_other, has-without_itself, has-without_other}
use Rattle.mpb_bits.specs.Sets.{is_set, members, united, IsSetBelow}
use Rattle.mpb_bits.proofs.SetLemmas.{same_sets, greatest_is, no_members, has-united, IsAscending-united}
use Rattle.mpb_bits.proofs.BitLemmas.{has-members, IsSetBelow-members}

pub IsAscending-members : (words : List ℕ) → IsAscending (members words)
IsAscending-members words = (IsSetBelow-members words).ascending

-- what a closed set tells of its members
pub IsSetBelow-view : (words xs : List ℕ) (n : ℕ) → length words ≡ n → members words ≡ xs → IsSetBelow (64 * n) xs
IsSetBelow-view words xs n long same =
    subst (λ (ys : List ℕ). IsSetBelow (64 * n) ys) same (subst (λ (k : ℕ). IsSetBelow (64 * k) (members words)) long (IsSetBelow-members words))

is_set-bit : (words : List ℕ) (n : ℕ) → is_set words n ≡ (bit_at (get_or words (n / 64) 0) (n % 64) == 1)
unfolding is_set
is_set-bit words n = refl

-- one word is written
module _ (words : List ℕ) (n : ℕ) (inside : n < 64 * length words) (x : ℕ) where
  is_set-written : is_set (set words (n / 64) x) n ≡ (bit_at x (n % 64) == 1)
  unfolding is_set
  is_set-written = let lt : n / 64 < length words = omega arith in ap (λ w. bit_at w (n % 64) == 1) (get_or-set_same words (n / 64) x 0 lt)

  is_set-beside : ((i : ℕ) → i < 64 → i ≢ n % 64 → bit_at x i ≡ bit_at (get_or words (n / 64) 0) i) → (v : ℕ) → v ≢ n → is_set (set words (n / 64) x) v ≡ is_set words v
  unfolding is_set
  is_set-beside others v ne = elim (cases_eq (v / 64) (n / 64)) [
    | inl same ↦
        let lt : n / 64 < length words = omega arith in
        rw (same, get_or-set_same words (n / 64) x 0 lt) (ap (λ b. b == 1) (others (v % 64) (omega arith) (λ index. ne (omega arith))))
    | inr other ↦ ap (λ w. bit_at w (v % 64) == 1) (get_or-set_other words (n / 64) (v / 64) x 0 other)
  ]

-- whether a number is a member, from its word shifted
pub has-shifted : (words : List ℕ) (n : ℕ) → (bit_and (get_or words (n / 64) 0 / 2 ^ (n % 64)) 1 == 1) ≡ has n (members words)
has-shifted words n = ap (λ b. b == 1) (shr_and_one (get_or words (n / 64) 0) (n % 64)) ∙ sym (is_set-bit words n) ∙ sym (has-members words n)

-- a number's bit is set
module _ (words : List ℕ) (n : ℕ) (inside : n < 64 * length words) (x : ℕ) (others : (i : ℕ) → i < 64 → i ≢ n % 64 → bit_at x i ≡ bit_at (get_or words (n / 64) 0) i) where
  has-put : bit_at x (n % 64) ≡ 1 → (v : ℕ) → is_set (set words (n / 64) x) v ≡ has v (with_number n (members words))
  has-put one v = elim (cases_eq v n) [
    | inl e ↦ subst (λ (u : ℕ). is_set (set words (n / 64) x) u ≡ has u (with_number n (members words))) (sym e) (is_set-written words n inside x ∙ eq-eqb (bit_at x (n % 64)) 1 one ∙ sym (has-with_itself n (members words)))
    | inr ne ↦ is_set-beside words n inside x others v ne ∙ sym (has-members words v) ∙ sym (has-with_other v n (members words) ne)
  ]

  has-take : bit_at x (n % 64) ≡ 0 → (v : ℕ) → is_set (set words (n / 64) x) v ≡ has v (without n (members words))
  has-take none v = elim (cases_eq v n) [
    | inl e ↦ subst (λ (u : ℕ). is_set (set words (n / 64) x) u ≡ has u (without n (members words))) (sym e) (is_set-written words n inside x ∙ ap (λ b. b == 1) none ∙ sym (has-without_itself n (members words)))
    | inr ne ↦ is_set-beside words n inside x others v ne ∙ sym (has-members words v) ∙ sym (has-without_other v n (members words) ne)
  ]

pub members-put : (words : List ℕ) (n : ℕ) → n < 64 * length words → members (set words (n / 64) (bit_or (get_or words (n / 64) 0) (1 * 2 ^ (n % 64) % 2 ^ 64))) ≡ with_number n (members words)
members-put words n lt =
    let old = get_or words (n / 64) 0 in
    let x = bit_or old (1 * 2 ^ (n % 64) % 2 ^ 64) in
    let new = set words (n / 64) x in
    let index : n % 64 < 64 = omega arith in
    same_sets (members new) (with_number n (members words)) (IsAscending-members new) (IsAscending-with n (members words) (IsAscending-members words)) (λ v.
    has-members new v ∙ has-put words n lt x (λ i below other. bit_at_set_other w64 old (n % 64) index i other) (bit_at_set_same w64 old (n % 64) index) v
    )

-- a number's bit is cleared
pub members-take : (words : List ℕ) (n : ℕ) → n < 64 * length words → members (set words (n / 64) (bit_and (get_or words (n / 64) 0) (bit_not w64 (1 * 2 ^ (n % 64) % 2 ^ 64)))) ≡ without n (members words)
members-take words n lt =
    let old = get_or words (n / 64) 0 in
    let x = bit_and old (bit_not w64 (1 * 2 ^ (n % 64) % 2 ^ 64)) in
    let new = set words (n / 64) x in
    let index : n % 64 < 64 = omega arith in
    same_sets (members new) (without n (members words)) (IsAscending-members new) (IsAscending-without n (members words) (IsAscending-members words)) (λ v.
    has-members new v ∙ has-take words n lt x (λ i below other. bit_at_clear_other w64 old (n % 64) index i below other) (bit_at_clear_same w64 old (n % 64) index) v
    )

-- words that are all 0 have no member
is_set-none : (words : List ℕ) (v : ℕ) → get_or words (v / 64) 0 ≡ 0 → is_set words v ≡ false
unfolding is_set
is_set-none words v e = rw (e, bit_at-zero (v % 64)) refl

pub members-none : (words : List ℕ) → ((k : ℕ) → get_or words k 0 ≡ 0) → members words ≡ []
members-none words zeros = no_members (members words) (λ v. has-members words v ∙ is_set-none words v (zeros (v / 64)))

pub members-zeros : (n : ℕ) → members (replicate {A = ℕ} n 0) ≡ []
members-zeros n = members-none (replicate {A = ℕ} n 0) zero_at where
  zero_at : (k : ℕ) → ◌≡◌ {A = ℕ} (get_or {A = ℕ} (replicate {A = ℕ} n 0) k 0) 0
  zero_at k = elim (cases_lt k n) [
    | inl lt ↦ get_or-replicate {A = ℕ} n k 0 0 lt
    | inr ge ↦ let far : length (replicate {A = ℕ} n 0) ≤ k = omega (arith, length-replicate {A = ℕ} n 0) in get_or_past (replicate {A = ℕ} n 0) k 0 far
  ]

pub greatest-none : (words : List ℕ) → ((k : ℕ) → get_or words k 0 ≡ 0) → None ≡ greatest (members words)
greatest-none words zeros = sym (ap greatest (members-none words zeros))

-- the highest bit of the highest word that is not 0 is the greatest member
pub is_set-at : (words : List ℕ) (k j : ℕ) → j < 64 → is_set words (64 * k + j) ≡ (bit_at (get_or words k 0) j == 1)
unfolding is_set
is_set-at words k j lt =
    let row : (64 * k + j) / 64 ≡ k = omega arith in
    let column : (64 * k + j) % 64 ≡ j = omega arith in
    rw (row, column) refl

is_set-above : (words : List ℕ) (k j v : ℕ) → j < 64 → ((i : ℕ) → j < i → bit_at (get_or words k 0) i ≡ 0) → ((m : ℕ) → k < m → get_or words m 0 ≡ 0) → 64 * k + j < v → is_set words v ≡ false
unfolding is_set
is_set-above words k j v lt high zeros above = elim (cases_lt k (v / 64)) [
  | inl higher ↦ is_set-none words v (zeros (v / 64) (omega arith))
  | inr le ↦
      let same : v / 64 ≡ k = omega arith in
      rw (same, high (v % 64) (omega arith)) refl
]

quotient_one : (w p : ℕ) → 0 < p → p ≤ w → w < 2 * p → w / p ≡ 1
quotient_one w p pos low high =
    let one_or_more : 1 ≤ w / p = le-div 1 w p pos (omega arith) in
    let below_two : w / p < 2 = div_below w p 2 pos (omega arith) in
    omega arith

highest_bit : (w j : ℕ) → 2 ^ j ≤ w → w < 2 * 2 ^ j → bit_at w j ≡ 1
highest_bit w j low high = rw (quotient_one w (2 ^ j) (pow_pos j) low high) refl

no_higher_bit : (w j i : ℕ) → w < 2 * 2 ^ j → j < i → bit_at w i ≡ 0
no_higher_bit w j i high lt = let double = pow-suc 2 j in bit_at_above w (suc j) i (omega arith) (omega arith)

pub greatest-members : (words : List ℕ) (k j : ℕ) → j < 64 → 2 ^ j ≤ get_or words k 0 → get_or words k 0 < 2 * 2 ^ j → ((m : ℕ) → k < m → get_or words m 0 ≡ 0) → Some (64 * k + j) ≡ greatest (members words)
greatest-members words k j lt low high zeros =
    let one = highest_bit (get_or words k 0) j low high in
    sym (
    greatest_is (members words) (64 * k + j) (IsAscending-members words)
    (has-members words (64 * k + j) ∙ is_set-at words k j lt ∙ eq-eqb (bit_at (get_or words k 0) j) 1 one)
    (λ v above. has-members words v ∙ is_set-above words k j v lt (λ i. no_higher_bit (get_or words k 0) j i high) zeros above)
    )

-- both sets' members
bit_max : (a b : ℕ) → a < 2 → b < 2 → (max a b == 1) ≡ ((a == 1) || (b == 1))
bit_max zero zero la lb = refl
bit_max zero (suc zero) la lb = refl
bit_max (suc zero) zero la lb = refl
bit_max (suc zero) (suc zero) la lb = refl
bit_max (suc (suc a)) b la lb = absurd (omega arith)
bit_max zero (suc (suc b)) la lb = absurd (omega arith)
bit_max (suc zero) (suc (suc b)) la lb = absurd (omega arith)

is_set-both : (words xs ys : List ℕ) (v : ℕ) → get_or words (v / 64) 0 ≡ bit_or (get_or xs (v / 64) 0) (get_or ys (v / 64) 0) → is_set words v ≡ (is_set xs v || is_set ys v)
unfolding is_set
is_set-both words xs ys v e =
    ap (λ w. bit_at w (v % 64) == 1) e
    ∙ ap (λ b. b == 1) (bit_at_or (get_or xs (v / 64) 0) (get_or ys (v / 64) 0) (v % 64))
    ∙ bit_max (bit_at (get_or xs (v / 64) 0) (v % 64)) (bit_at (get_or ys (v / 64) 0) (v % 64)) (bit_at-lt (get_or xs (v / 64) 0) (v % 64)) (bit_at-lt (get_or ys (v / 64) 0) (v % 64))

pub members-united : (words xs ys : List ℕ) → ((k : ℕ) → get_or words k 0 ≡ bit_or (get_or xs k 0) (get_or ys k 0)) → members words ≡ united (members xs) (members ys)
members-united words xs ys each =
    same_sets (members words) (united (members xs) (members ys)) (IsAscending-members words) (IsAscending-united (members xs) (members ys) (IsAscending-members xs)) (λ v.
    has-members words v ∙ is_set-both words xs ys v (each (v / 64)) ∙ sym (has-united v (members xs) (members ys) ∙ ap₂ ◌||◌ (has-members xs v) (has-members ys v))
    )

-- as far as one of the sets has words, word by word
pub members-united_words : (words xs ys : List ℕ) (n : ℕ) → length xs ≤ n → length ys ≡ length xs → ((k : ℕ) → k < n → get_or words k 0 ≡ bit_or (get_or xs k 0) (get_or ys k 0)) → ((k : ℕ) → n ≤ k → get_or words k 0 ≡ get_or xs k 0) → members words ≡ united (members xs) (members ys)
members-united_words words xs ys n all long done rest = members-united words xs ys (λ k. each k) where
  each : (k : ℕ) → get_or words k 0 ≡ bit_or (get_or xs k 0) (get_or ys k 0)
  each k = elim (cases_lt k n) [
    | inl lt ↦ done k lt
    | inr ge ↦
        let far : length xs ≤ k = omega arith in
        let far_too : length ys ≤ k = omega arith in
        rest k ge ∙ rw (get_or_past xs k 0 far, get_or_past ys k 0 far_too) refl
  ]
