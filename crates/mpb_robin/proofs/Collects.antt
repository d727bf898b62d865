-- What is latched can be collected: its boot program is through, the I/O APIC has not swept, and each latched pin is left.
use Rattle.std.proofs.Common.{◌≡◌, ◌≢◌, ◌==◌, ℕ, suc, ◌+◌, ◌/◌, ◌%◌, ◌^◌, ◌<◌, ◌≤◌, Bool, true, false, cond, ◌&&◌, List, [], ◌∷◌, length, get_or, refl, arith, pow-suc, Option, Some, slice_get, sum_by, nat_lt}
use Rattle.std.specs.Int.{bit_at}
use Rattle.std.proofs.lemmas.Bool.{and_from, lt-ltb, eqb-true, eq-eqb}
use Rattle.std.proofs.lemmas.Nat.Bits.{bit_at_lowest, bit_at-suc}
use Rattle.std.proofs.lemmas.List.Sums.{sum_by-cons, sum_by-le-sum_by}
use Rattle.mpb_spec.specs.declared.agent.Agent.TheVariants.{Io}
use Rattle.mpb_spec.specs.declared.agent.Offer.TheVariants as offer
use Rattle.mpb_spec.specs.declared.agent.Op.TheVariants as op
use Rattle.mpb_spec.specs.declared.config.DevWord.{DevWord}
use Rattle.mpb_spec.specs.declared.config.DevWord.TheVariants as word
use Rattle.mpb_spec.specs.State.{Place, Device, boot_is_through, all_ended}
use Rattle.mpb_spec.specs.Steps.{op_of_place, all_left}
use Rattle.mpb_spec.specs.Plan.{Plan, plan_size}
use Rattle.mpb_spec.proofs.Planned.{pulses_on, planned_by, planned_by_devices}
use Rattle.mpb_spec.specs.May.{MayStep}
use Rattle.mpb_laws.proofs.PartsStay.{places_stay, devices_stay}
use Rattle.mpb_spec.specs.Pulses.{new_hits, new_hits_in}
use Rattle.mpb_spec.specs.PlainLatch.{pins_at}
use Rattle.mpb_robin.specs.RoundRobin.{Run, state_in}
use Rattle.mpb_robin.specs.Rest.{IsRun}
use Rattle.mpb_robin.proofs.Places.{is-there}
use Rattle.mpb_robin.proofs.DeviceActs.{sums-le, hits-le-planned}
use Rattle.mpb_robin.proofs.Left.{is_left}

-- ---- what is at a place

-- the I/O APIC at a place
pub place_at : (r : Run) (a : ℕ) → a < length r.plan.ios → (p : Place) × (slice_get (state_in r).places a ≡ Some p)
place_at r a lt = is-there a (state_in r).places (omega (arith, lt, places_stay r.plan r.journal))

-- a device, and what it has done
pub device_at : (r : Run) (d : ℕ) → d < length r.plan.devices → (v : Device) × (slice_get (state_in r).devices d ≡ Some v)
device_at r d lt = is-there d (state_in r).devices (omega (arith, lt, devices_stay r.plan r.journal))

-- ---- no more New hits than pulses are planned

pub new_le_planned : (r : Run) (a pin : ℕ) → IsRun r → new_hits a pin r.logs ≤ planned_by r.plan.devices a pin
new_le_planned r a pin is =
    let le = sums-le (new_hits_in a pin) (λ (ws : List DevWord). sum_by (pulses_on a pin) ws) r.logs r.plan.devices [] [] is.logs
    (λ d lt.
    let v = device_at r d (omega (arith, lt, is.logs)) in
    hits-le-planned a pin (get_or r.made d 0) (get_or r.plan.devices d []) (get_or r.logs d []) v.0 (is.each d v.0 v.1)) in
    omega (arith, planned_by_devices a pin r.plan.devices)

one_or_none : (b : Bool) → cond {A = ℕ} b 1 0 ≤ 1
one_or_none true = omega arith
one_or_none false = omega arith

word-le : (a pin : ℕ) (w : DevWord) → pulses_on a pin w ≤ 1
word-le a pin (word.Pulse b p) = one_or_none ((b == a) && (p == pin))
word-le a pin (word.High b p) = omega arith
word-le a pin (word.Low b p) = omega arith

words-le : (a pin : ℕ) (ws : List DevWord) → sum_by (pulses_on a pin) ws ≤ length ws + 2
words-le a pin [] = omega arith
words-le a pin (w ∷ ws) = rw (sum_by-cons (pulses_on a pin) w ws) (omega (arith, word-le a pin w, words-le a pin ws))

planned-le : (c : Plan) (a pin : ℕ) → planned_by c.devices a pin ≤ plan_size c
planned-le c a pin = omega (arith, planned_by_devices a pin c.devices, sum_by-le-sum_by (λ (ws : List DevWord). sum_by (pulses_on a pin) ws) (λ (ws : List DevWord). length ws + 2) c.devices (words-le a pin))

pub low_counts : (r : Run) (a pin : ℕ) → IsRun r → a < length r.plan.ios → pin < 24 → get_or (get_or r.counts a []) pin 0 + bit_at (pins_at a r.latch) pin < 2 ^ 32
low_counts r a pin is lt low = omega (arith, is.counted a pin lt low, is.balance a pin lt low, new_le_planned r a pin is, planned-le r.plan a pin, is.small)

-- ---- each latched pin is left

left_from : (pins : ℕ) (l : List ℕ) → pins < 2 ^ length l → ((k : ℕ) → k < length l → bit_at pins k ≤ get_or l k 0) → all_left pins l ≡ true
left_from pins [] lt each = eq-eqb pins 0 (omega (arith, lt))
left_from pins (n ∷ ns) lt each =
    let bit : pins % 2 ≤ n = omega (arith, bit_at_lowest pins, each 0 (omega arith)) in
    let below = rw pow-suc at lt in
    let rest = left_from (pins / 2) ns (omega (arith, below)) (λ k le. omega (arith, bit_at-suc pins k, each (suc k) (omega (arith, le)))) in
    and_from (cond (pins % 2 == 1) (nat_lt 0 n) true) (all_left (pins / 2) ns) (go (pins % 2 == 1) refl bit) rest where
      go : (b : Bool) → (pins % 2 == 1) ≡ b → pins % 2 ≤ n → cond b (nat_lt 0 n) true ≡ true
      go true e le = lt-ltb 0 n (omega (arith, eqb-true (pins % 2) 1 e, le))
      go false e le = refl

collect-may : (t v : Bool) (o : Option Place) (p : Place) (pins : ℕ) → o ≡ Some p → t ≡ true → p.swept ≡ false → 0 < pins → pins < 2 ^ 24 → all_left pins p.left ≡ true → op_of_place t v (offer.Collect pins) o ≡ Some (op.Collect pins)
collect-may t v o p pins at through unswept some narrow left = rw (at, through, unswept, lt-ltb 0 pins some, lt-ltb pins (2 ^ 24) narrow, left) refl

-- an I/O APIC with latched pins has not swept
unswept : (r : Run) (a : ℕ) (p : Place) → IsRun r → slice_get (state_in r).places a ≡ Some p → pins_at a r.latch ≢ 0 → (b : Bool) → p.swept ≡ b → p.swept ≡ false
unswept r a p is at some true e = absurd (some (is.swept a p at e).1)
unswept r a p is at some false e = e

pub collect_is : (r : Run) (a : ℕ) → IsRun r → a < length r.plan.ios → pins_at a r.latch ≢ 0 → op_of_place (boot_is_through (state_in r)) (all_ended (state_in r)) (offer.Collect (pins_at a r.latch)) (slice_get (state_in r).places a) ≡ Some (op.Collect (pins_at a r.latch))
collect_is r a is lt some =
    let p = place_at r a lt in
    let left = is_left r.plan r.journal a p.0 is.legal p.1 in
    let below : pins_at a r.latch < 2 ^ length p.0.left = rw left.long (is.narrow a) in
    let all = left_from (pins_at a r.latch) p.0.left below (λ k le.
    let low : k < 24 = omega (arith, le, left.long) in
    omega (arith, left.left k low, is.balance a k lt low, new_le_planned r a k is)) in
    collect-may (boot_is_through (state_in r)) (all_ended (state_in r)) (slice_get (state_in r).places a) p.0 (pins_at a r.latch) p.1 (is.latched a some) (unswept r a p.0 is p.1 some p.0.swept refl) (omega (arith, some)) (is.narrow a) all

pub may_collect : (r : Run) (a : ℕ) → IsRun r → a < length r.plan.ios → pins_at a r.latch ≢ 0 → MayStep (state_in r) (Io a) (offer.Collect (pins_at a r.latch))
may_collect r a is lt some = (op.Collect (pins_at a r.latch), collect_is r a is lt some)
