-- Logical destinations by their bits.
use Rattle.std.proofs.Common.{◌≡◌, ◌≢◌, ◌==◌, ◌↔◌, ℕ, zero, suc, ◌*◌, ◌/◌, ◌%◌, ◌<◌, ◌^◌, Bool, true, false, not, ◌&&◌, ◌||◌, refl, sym, ap, ◌∙◌, arith, bit_and, min, pow-suc}
use Rattle.std.specs.Int.{bit_at}
use Rattle.std.proofs.lemmas.Bool.{eq-eqb, eqb-true, eqb-false, ne_eqb}
use Rattle.std.proofs.lemmas.Nat.{and_le_l}
use Rattle.std.proofs.lemmas.Nat.Bits.{bit_at_lowest, bit_at-suc, bit_at-zero, bit_at-lt, bit_at_and}
use Rattle.mpb_spec.specs.LocalApic.{LocalApic, matches}
use Rattle.mpb_core_laws.specs.Words.{has_bit, SharesBit}

-- a number that isn't 0 has a bit, and one with a bit isn't 0
abbrev HasBitBelow : ℕ → ℕ → Type 0
HasBitBelow k n = (i : ℕ) × (i < k) × (bit_at n i ≡ 1)

one-bit : (k n : ℕ) → n < 2 ^ k → n ≢ 0 → HasBitBelow k n
one-bit zero n lt ne = absurd (ne (omega arith))
one-bit (suc k) n lt ne = go (n % 2 == 1) refl (one-bit k (n / 2)) where
  go : (b : Bool) → (n % 2 == 1) ≡ b → (n / 2 < 2 ^ k → n / 2 ≢ 0 → HasBitBelow k (n / 2)) → HasBitBelow (suc k) n
  go true e rest = (0, omega arith, bit_at_lowest n ∙ eqb-true (n % 2) 1 e)
  go false e rest =
      let odd = eqb-false (n % 2) 1 e in
      let twice : 2 ^ suc k ≡ 2 ^ k * 2 = pow-suc 2 k in
      let h = rest (omega (arith, lt, twice)) (λ z. ne (omega (arith, odd, z))) in
      (suc h.0, omega (arith, h.1), bit_at-suc n h.0 ∙ h.2)

some-bit : (n i : ℕ) → bit_at n i ≡ 1 → n ≢ 0
some-bit n i e z =
    let none : bit_at n i ≡ 0 = ap (λ m. bit_at m i) z ∙ bit_at-zero i in
    absurd (omega (arith, e, none))

not-true : (b : Bool) → not b ≡ true → b ≡ false
not-true true e = cc
not-true false e = refl

-- two numbers share a bit where their conjunction isn't 0
shares : (k x y : ℕ) → x < 2 ^ k → (not (bit_and x y == 0) ≡ true) ↔ SharesBit k x y
shares k x y lt = (to, from) where
  to : not (bit_and x y == 0) ≡ true → SharesBit k x y
  to e =
      let ne = eqb-false (bit_and x y) 0 (not-true (bit_and x y == 0) e) in
      let h = one-bit k (bit_and x y) (omega (arith, and_le_l x y)) ne in
      let both : min (bit_at x h.0) (bit_at y h.0) ≡ 1 = sym (bit_at_and x y h.0) ∙ h.2 in
      (h.0, h.1, eq-eqb (bit_at x h.0) 1 (omega (arith, both, bit_at-lt x h.0, bit_at-lt y h.0)), eq-eqb (bit_at y h.0) 1 (omega (arith, both, bit_at-lt x h.0, bit_at-lt y h.0)))

  from : SharesBit k x y → not (bit_and x y == 0) ≡ true
  from h =
      let one = eqb-true (bit_at x h.0) 1 h.2 in
      let two = eqb-true (bit_at y h.0) 1 h.3 in
      let both : bit_at (bit_and x y) h.0 ≡ 1 = bit_at_and x y h.0 ∙ omega (arith, one, two) in
      rw (ne_eqb (bit_and x y) 0 (some-bit (bit_and x y) h.0 both)) refl

-- the lowest four bits
low-2 : (n i : ℕ) → i < 1 → bit_at (n % 2) i ≡ bit_at n i
low-2 n zero lt = bit_at_lowest (n % 2) ∙ omega arith ∙ sym (bit_at_lowest n)
low-2 n (suc i) lt = absurd (omega arith)

low-4 : (n i : ℕ) → i < 2 → bit_at (n % 4) i ≡ bit_at n i
low-4 n zero lt = bit_at_lowest (n % 4) ∙ omega arith ∙ sym (bit_at_lowest n)
low-4 n (suc i) lt = bit_at-suc (n % 4) i ∙ ap (λ v. bit_at v i) (omega arith) ∙ low-2 (n / 2) i (omega arith) ∙ sym (bit_at-suc n i)

low-8 : (n i : ℕ) → i < 3 → bit_at (n % 8) i ≡ bit_at n i
low-8 n zero lt = bit_at_lowest (n % 8) ∙ omega arith ∙ sym (bit_at_lowest n)
low-8 n (suc i) lt = bit_at-suc (n % 8) i ∙ ap (λ v. bit_at v i) (omega arith) ∙ low-4 (n / 2) i (omega arith) ∙ sym (bit_at-suc n i)

low-16 : (n i : ℕ) → i < 4 → bit_at (n % 16) i ≡ bit_at n i
low-16 n zero lt = bit_at_lowest (n % 16) ∙ omega arith ∙ sym (bit_at_lowest n)
low-16 n (suc i) lt = bit_at-suc (n % 16) i ∙ ap (λ v. bit_at v i) (omega arith) ∙ low-8 (n / 2) i (omega arith) ∙ sym (bit_at-suc n i)

low-shares : (x y : ℕ) → SharesBit 4 (x % 16) (y % 16) ↔ SharesBit 4 x y
low-shares x y = (λ h. (h.0, h.1, there x h.0 h.1 ∙ h.2, there y h.0 h.1 ∙ h.3), λ h. (h.0, h.1, sym (there x h.0 h.1) ∙ h.2, sym (there y h.0 h.1) ∙ h.3)) where
  there : (n i : ℕ) → i < 4 → has_bit n i ≡ has_bit (n % 16) i
  there n i lt = ap (λ (b : ℕ). b == 1) (sym (low-16 n i lt))

-- the two models
pub match-everyone : (a : LocalApic) → matches 255 a ≡ true
match-everyone a = refl

same-flat : (a : LocalApic) (dest : ℕ) → dest < 255 → a.dfr ≡ 15 → matches dest a ≡ not (bit_and dest a.ldr == 0)
same-flat a dest lt model = rw (ne_eqb dest 255 (λ e. absurd (omega (arith, e))), eq-eqb a.dfr 15 model, ne_eqb a.dfr 0 (λ e. absurd (omega (arith, e, model)))) (or-false (not (bit_and dest a.ldr == 0))) where
  or-false : (b : Bool) → (b || false) ≡ b
  or-false true = refl
  or-false false = refl

pub match-flat : (a : LocalApic) (dest : ℕ) → dest < 255 → a.dfr ≡ 15 → (matches dest a ≡ true) ↔ SharesBit 8 dest a.ldr
match-flat a dest lt model =
    let same = same-flat a dest lt model in
    let s = shares 8 dest a.ldr (omega arith) in
    (λ m. s.0 (sym same ∙ m), λ h. same ∙ s.1 h)

same-cluster : (a : LocalApic) (dest : ℕ) → dest < 255 → a.dfr ≡ 0 → matches dest a ≡ ((dest / 16 == a.ldr / 16) && not (bit_and (dest % 16) (a.ldr % 16) == 0))
same-cluster a dest lt model = rw (ne_eqb dest 255 (λ e. absurd (omega (arith, e))), ne_eqb a.dfr 15 (λ e. absurd (omega (arith, e, model))), eq-eqb a.dfr 0 model) refl

and-both : (b c : Bool) → (b && c) ≡ true → (b ≡ true) × (c ≡ true)
and-both true c e = (refl, e)
and-both false c e = cc

pub match-cluster : (a : LocalApic) (dest : ℕ) → dest < 255 → a.dfr ≡ 0 → (matches dest a ≡ true) ↔ ((dest / 16 ≡ a.ldr / 16) × SharesBit 4 dest a.ldr)
match-cluster a dest lt model =
    let same = same-cluster a dest lt model in
    let s = shares 4 (dest % 16) (a.ldr % 16) (omega arith) in
    let l = low-shares dest a.ldr in (
      λ m. (let parts = and-both (dest / 16 == a.ldr / 16) (not (bit_and (dest % 16) (a.ldr % 16) == 0)) (sym same ∙ m) in (eqb-true (dest / 16) (a.ldr / 16) parts.0, l.0 (s.0 parts.1))),
      λ h. same ∙ rw (eq-eqb (dest / 16) (a.ldr / 16) h.0) (s.1 (l.1 h.1)),
    )
