use Rattle.std.proofs.Common.{◌≡◌, ℕ, suc, ◌-◌, drop, ap, arith}
use Rattle.mpb_spec.specs.IoApic.{mask_by}
use Rattle.mpb_ioapic.specs.Signs.{shows}
use Rattle.mpb_ioapic.proofs.ListLemmas.{mask_by-from, mask_by-below, one_bit, bool_byte-cond}
use Rattle.mpb_ioapic.proofs.pins.Pins.mask.Goals as goal

pub overflow_mul-mask : goal.overflow_mul-mask
overflow_mul-mask c =
    let below = mask_by-below (shows c.args.sign) c.loop-number.number c.args.self.now (omega arith) in
    omega (arith, c.loop-number.invariant)

pub overflow_add-mask : goal.overflow_add-mask
overflow_add-mask c =
    let below = mask_by-below (shows c.args.sign) c.loop-number.number c.args.self.now (omega arith) in
    omega (arith, c.loop-number.invariant, c.from.ensures, bool_byte-cond c.shows.result, one_bit c.shows.result)

pub loop-number-preserved : goal.loop-number-preserved
loop-number-preserved c =
    let k = c.loop-number.number - 1 in
    let next : suc k ≡ c.loop-number.number = omega arith in
    let more = mask_by-from (shows c.args.sign) k c.args.self.now c.shows.result (omega arith) c.shows.ensures in
    let same : mask_by (shows c.args.sign) (drop (suc k) c.args.self.now) ≡ mask_by (shows c.args.sign) (drop c.loop-number.number c.args.self.now) = ap (λ (n : ℕ). mask_by (shows c.args.sign) (drop n c.args.self.now)) next in
    omega (arith, more, same, c.loop-number.invariant, c.from.ensures, bool_byte-cond c.shows.result)
