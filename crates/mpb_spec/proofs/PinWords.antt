-- The words of a latch of one thread, and the pins in them.
use Rattle.std.proofs.Common.{◌≡◌, ◌≢◌, ℕ, zero, suc, ◌*◌, ◌^◌, ◌%◌, ◌<◌, ◌≤◌, List, ◌∷◌, length, get_or, set, take, replicate, cond, max, bit_or, refl, sym, ap, ◌∙◌, subst, arith, mod-eq_of_lt}
use Rattle.std.specs.Int.{bit_at}
use Rattle.std.proofs.Math.Seq.{take-set-lt}
use Rattle.std.proofs.lemmas.List.{get_or-set_same, get_or-set_other, get_or-take}
use Rattle.std.proofs.lemmas.Nat.{or_lt, pow_below}
use Rattle.std.proofs.lemmas.Nat.Bits.{bit_at-lt, bit_at_or, bit_at-pow_same, bit_at-pow_other}
use mathlib.Core.Logic.{dite}
use native.Mathlib.Decide.{ℕ_discrete}
use Rattle.mpb_spec.specs.declared.pulse.Pulse.{Pulse}
use Rattle.mpb_spec.specs.Pulses.{is_on}
use Rattle.mpb_spec.proofs.Logs.{on_same, off_io, off_pin}

pub take-zeros : (n m : ℕ) → n ≤ m → ◌≡◌ {A = List ℕ} (take n (replicate m 0)) (replicate n 0)
take-zeros zero m le = refl
take-zeros (suc n) zero le = absurd (omega arith)
take-zeros (suc n) (suc m) le = ap (λ (l : List ℕ). 0 ∷ l) (take-zeros n m (omega arith))

-- a shifted 1 is the power
pub shifted : (pin : ℕ) → pin < 24 → 1 * 2 ^ pin % 2 ^ 32 ≡ 2 ^ pin
shifted pin small = (let b = pow_below pin 24 small in let e : 1 * 2 ^ pin ≡ 2 ^ pin = omega arith in ap (λ (n : ℕ). n % 2 ^ 32) e ∙ mod-eq_of_lt (omega arith))

-- a word of pins stays one with a further pin
pub with_pin_lt : (word pin : ℕ) → word < 2 ^ 24 → pin < 24 → bit_or word (1 * 2 ^ pin % 2 ^ 32) < 2 ^ 24
with_pin_lt word pin few small = subst (λ (n : ℕ). bit_or word n < 2 ^ 24) (sym (shifted pin small)) (or_lt 24 word (2 ^ pin) few (pow_below pin 24 small))

-- the words of the I/O APICs after a pulse
pub words_pulsed : (words : List ℕ) (ios io pin : ℕ) → io < ios → pin < 24 → take ios (set words io (bit_or (get_or words io 0) (1 * 2 ^ pin % 2 ^ 32))) ≡ set (take ios words) io (bit_or (get_or (take ios words) io 0) (2 ^ pin))
words_pulsed words ios io pin here small =
    ap (λ (n : ℕ). take ios (set words io (bit_or (get_or words io 0) n))) (shifted pin small)
    ∙ take-set-lt ios words io (bit_or (get_or words io 0) (2 ^ pin)) here
    ∙ ap (λ (n : ℕ). set (take ios words) io (bit_or n (2 ^ pin))) (sym (get_or-take ios words io 0 here))

max_one : (a b : ℕ) → a < 2 → b ≡ 1 → max a b ≡ 1
max_one a b l e = omega arith

max_zero : (a b : ℕ) → b ≡ 0 → max a b ≡ a
max_zero a b e = omega arith

-- after a pulse its own pin is latched, and any other as before
pub pins_pulsed : (pins : List ℕ) (p : Pulse) (io pin : ℕ) → p.io < length pins → bit_at (get_or (set pins p.io (bit_or (get_or pins p.io 0) (2 ^ p.pin))) io 0) pin ≡ cond (is_on io pin p) 1 (bit_at (get_or pins io 0) pin)
pins_pulsed pins p io pin here = dite (ℕ_discrete io p.io) same_io other_io
  where
    other_io : io ≢ p.io → bit_at (get_or (set pins p.io (bit_or (get_or pins p.io 0) (2 ^ p.pin))) io 0) pin ≡ cond (is_on io pin p) 1 (bit_at (get_or pins io 0) pin)
    other_io ne = ap (λ (w : ℕ). bit_at w pin) (get_or-set_other pins p.io io (bit_or (get_or pins p.io 0) (2 ^ p.pin)) 0 ne) ∙ sym (ap (λ b. cond b 1 (bit_at (get_or pins io 0) pin)) (off_io p io pin ne))

    same_io : io ≡ p.io → bit_at (get_or (set pins p.io (bit_or (get_or pins p.io 0) (2 ^ p.pin))) io 0) pin ≡ cond (is_on io pin p) 1 (bit_at (get_or pins io 0) pin)
    same_io e =
        let now : get_or (set pins p.io (bit_or (get_or pins p.io 0) (2 ^ p.pin))) io 0 ≡ bit_or (get_or pins p.io 0) (2 ^ p.pin) = ap (λ (i : ℕ). get_or (set pins p.io (bit_or (get_or pins p.io 0) (2 ^ p.pin))) i 0) e ∙ get_or-set_same pins p.io (bit_or (get_or pins p.io 0) (2 ^ p.pin)) 0 here in
        let both = bit_at_or (get_or pins p.io 0) (2 ^ p.pin) pin in
        ap (λ (w : ℕ). bit_at w pin) now ∙ both ∙ dite (ℕ_discrete pin p.pin)
        (λ f. max_one (bit_at (get_or pins p.io 0) pin) (bit_at (2 ^ p.pin) pin) (bit_at-lt (get_or pins p.io 0) pin) (ap (bit_at (2 ^ p.pin)) f ∙ bit_at-pow_same p.pin) ∙ sym (ap (λ b. cond b 1 (bit_at (get_or pins io 0) pin)) (on_same p io pin e f)))
        (λ ne. max_zero (bit_at (get_or pins p.io 0) pin) (bit_at (2 ^ p.pin) pin) (bit_at-pow_other p.pin pin ne) ∙ ap (λ (i : ℕ). bit_at (get_or pins i 0) pin) (sym e) ∙ sym (ap (λ b. cond b 1 (bit_at (get_or pins io 0) pin)) (off_pin p io pin ne)))
