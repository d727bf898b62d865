-- A mask of which bit n says whether a property holds of n, one number at a time.
use Rattle.std.proofs.Common.{◌≡◌, ◌≢◌, ℕ, ◌+◌, ◌^◌, ◌<◌, ◌≤◌, ◌↔◌, sym, ap, ◌∙◌, subst, inl, inr, arith}
use Rattle.std.specs.Prelude.{bit_or, max}
use Rattle.std.specs.Int.{bit_at}
use Rattle.std.proofs.lemmas.Bool.{cases_lt}
use Rattle.std.proofs.lemmas.Nat.Bits.{bit_at_or, bit_at-pow_same, bit_at-pow_other}

-- the bits below a number say whether the property holds, and above there is none
pub record IsMaskBelow (P : ℕ → Type 0) (mask k : ℕ) : Type 0 where
  pub below : (n : ℕ) → n < k → (bit_at mask n ≡ 1) ↔ P n
  pub above : (n : ℕ) → k ≤ n → bit_at mask n ≡ 0

same_bit : (mask k n : ℕ) → n ≢ k → bit_at (bit_or mask (2 ^ k)) n ≡ bit_at mask n
same_bit mask k n other = bit_at_or mask (2 ^ k) n ∙ ap (λ b. max (bit_at mask n) b) (bit_at-pow_other k n other) ∙ omega arith

-- a number of which it holds
pub bit_noted : (P : ℕ → Type 0) (old new k : ℕ) → P k → new ≡ bit_or old (2 ^ k) → IsMaskBelow P old k → IsMaskBelow P new (k + 1)
bit_noted P old new k here now was = record {
  below = λ n l. elim (cases_lt n k) [
    | inl low ↦
        let same : bit_at new n ≡ bit_at old n = ap (λ m. bit_at m n) now ∙ same_bit old k n (λ e. omega (arith, e)) in
        (λ h. (was.below n low).0 (sym same ∙ h), λ h. same ∙ (was.below n low).1 h)
    | inr high ↦
        let at : n ≡ k = omega arith in
        let set : bit_at new n ≡ 1 = ap (λ m. bit_at m n) now ∙ bit_at_or old (2 ^ k) n ∙ (let top : bit_at (2 ^ k) n ≡ 1 = ap (bit_at (2 ^ k)) at ∙ bit_at-pow_same k in omega (arith, top, was.above n high)) in
        (λ h. subst P (sym at) here, λ h. set)
  ];
  above = λ n l. ap (λ m. bit_at m n) now ∙ same_bit old k n (λ e. omega (arith, e)) ∙ was.above n (omega arith);
}

-- and one of which it doesn't
pub bit_passed : (P : ℕ → Type 0) (old new k : ℕ) → (P k → ⊥) → new ≡ old → IsMaskBelow P old k → IsMaskBelow P new (k + 1)
bit_passed P old new k not_here now was = record {
  below = λ n l. elim (cases_lt n k) [
    | inl low ↦
        let same : bit_at new n ≡ bit_at old n = ap (λ m. bit_at m n) now in
        (λ h. (was.below n low).0 (sym same ∙ h), λ h. same ∙ (was.below n low).1 h)
    | inr high ↦
        let at : n ≡ k = omega arith in
        let clear : bit_at new n ≡ 0 = ap (λ m. bit_at m n) now ∙ was.above n high in
        (λ h. absurd (omega (arith, h, clear)), λ h. absurd (not_here (subst P at h)))
  ];
  above = λ n l. ap (λ m. bit_at m n) now ∙ was.above n (omega arith);
}
