use Rattle.std.proofs.Common.{◌≡◌, ℕ, suc, ◌-◌, ◌<◌, ◌/◌, ◌%◌, ◌^◌, ◌++◌, ◌==◌, bit_and, length, take, drop, cond, get_or, refl, ap, ◌∙◌, arith, subst}
use Rattle.std.proofs.lemmas.Nat.Bits.{shr_and_one}
use Rattle.mpb_spec.specs.IoApic.{reset_pin, pulsed, pulsed_due, pulsed_joined, with_pulse}
use Rattle.mpb_ioapic.proofs.ListLemmas.{pulsed-down, pulsed_due-down, pulsed_joined-down, pulsed_due-below, pulsed_joined-below, slice_get-not_yet}
use Rattle.mpb_ioapic.proofs.pins.Pins.collect.Goals as goal

pub overflow_mul-due : goal.overflow_mul-due
overflow_mul-due c =
    let below = pulsed_due-below (c.args.mask / 2 ^ c.loop-number.number) c.loop-number.number c.args.self.now (omega arith) in
    omega (arith, c.loop-number.invariant.due)

pub overflow_add-due : goal.overflow_add-due
overflow_add-due c =
    let below = pulsed_due-below (c.args.mask / 2 ^ c.loop-number.number) c.loop-number.number c.args.self.now (omega arith) in
    omega (arith, c.loop-number.invariant.due, c.pulse_at-taken.ensures.bits.0)

pub overflow_mul-joined : goal.overflow_mul-joined
overflow_mul-joined c =
    let below = pulsed_joined-below (c.args.mask / 2 ^ c.loop-number.number) c.loop-number.number c.args.self.now (omega arith) in
    omega (arith, c.loop-number.invariant.joined)

pub overflow_add-joined : goal.overflow_add-joined
overflow_add-joined c =
    let below = pulsed_joined-below (c.args.mask / 2 ^ c.loop-number.number) c.loop-number.number c.args.self.now (omega arith) in
    omega (arith, c.loop-number.invariant.joined, c.pulse_at-taken.ensures.bits.1)

pub loop-number-preserved : goal.loop-number-preserved
loop-number-preserved c =
    let m = c.args.mask in
    let k = c.loop-number.number - 1 in
    let ps = c.args.self.now in
    let now = c.loop-number.self in
    let p = get_or ps k reset_pin in
    let lt : k < length ps = omega arith in
    let next : c.loop-number.number ≡ suc k = omega arith in
    let named = bit_and (m / 2 ^ k) 1 == 1 in
    let is_named : named ≡ (m / 2 ^ k % 2 == 1) = ap (λ (b : ℕ). b == 1) (shr_and_one m k) in
    let done = subst (λ (n : ℕ). now ≡ take n ps ++ pulsed (m / 2 ^ n) (drop n ps)) next c.loop-number.invariant.pins in
    let due = subst (λ (n : ℕ). c.loop-number.due ≡ pulsed_due (m / 2 ^ n) (drop n ps)) next c.loop-number.invariant.due in
    let joined = subst (λ (n : ℕ). c.loop-number.joined ≡ pulsed_joined (m / 2 ^ n) (drop n ps)) next c.loop-number.invariant.joined in
    let at = slice_get-not_yet k ps (pulsed (m / 2 ^ suc k) (drop (suc k) ps)) now lt done in
    record {
      pins = c.pulse_at-taken.ensures.state p at ∙ pulsed-down m k ps now p named lt is_named done at (cond named (with_pulse p) p) refl;
      due = omega (arith, due, c.pulse_at-taken.ensures.due p at, pulsed_due-down m k ps now p named lt is_named done at);
      joined = omega (arith, joined, c.pulse_at-taken.ensures.joined p at, pulsed_joined-down m k ps now p named lt is_named done at);
    }
