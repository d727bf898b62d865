-- An I/O APIC of 24 pins (82093AA datasheet, section 3). The pin states `line` and `due`, the meaning of high and low,
-- what a mask does to a pending send, and the clearing of an edge pin's remote IRR are this project's own.
--     is_masked, mode_of, vector_of, is_level, is_logical, dest_of   what an entry says
--     reset_chip id                  after a reset
--     register c                     the selected register as it is read
--     written v c, write_effect v c  what a write of the selected register leaves, and what it does to a pending send
--     with_low, with_high, with_line, with_pulse, with_sent, with_eoi   one pin after a write of a half, a level of its
--                                    line, a pulse, the sending of its message, an end of interrupt
--     change_pin n f pins            pin n changed
--     pulsed, pulsed_due, pulsed_joined mask pins   the pins after pulses on the named ones, those that became due, those that were
--     next_due c                     the message of the least due pin
--     mask_by f pins                 the pins at which a test holds, as a mask
use Rattle.std.specs.Prelude.{◌==◌, ℕ, ◌+◌, ◌-◌, ◌*◌, ◌/◌, ◌%◌, Bool, true, false, not, ◌&&◌, ◌||◌, zero, suc, List, [], ◌∷◌, Option, None, Some, nat_lt, if◌then◌else◌, bit_and, bit_or, replicate, slice_get}
use Rattle.mpb_spec.specs.declared.apic.Effect.{Effect}
use Rattle.mpb_spec.specs.declared.apic.Effect.TheVariants.{Plain, Due, Withdrawn}
use Rattle.mpb_spec.specs.declared.apic.Message.{Message}
use Rattle.mpb_spec.specs.declared.apic.Pin.{Pin}

-- the index of the selected register, the id, the arbitration id, and the pins
pub record IoChip : Type 0 where
  pub index : ℕ
  pub id : ℕ
  pub arbitration : ℕ
  pub pins : List Pin

-- bit 16: the pin is masked
abbrev pub is_masked : Pin → Bool
is_masked p = p.low / 65536 % 2 == 1

-- bits 10:8: the delivery mode
abbrev pub mode_of : Pin → ℕ
mode_of p = p.low / 256 % 8

-- bits 7:0: the vector
abbrev pub vector_of : Pin → ℕ
vector_of p = p.low % 256

-- a level pin: bit 15 is set, and the mode is fixed or lowest priority
abbrev pub is_level : Pin → Bool
is_level p = (p.low / 32768 % 2 == 1) && nat_lt (mode_of p) 2

-- after a reset: masked, and nothing else
abbrev pub reset_pin : Pin
reset_pin = record { low = 0x10000; high = 0; line = false; due = false; remote = false }

-- ids are of four bits
abbrev pub reset_chip : ℕ → IoChip
reset_chip id = record { index = 0; id = id % 16; arbitration = id % 16; pins = replicate 24 reset_pin }

-- how being due changed
abbrev pub effect_of : Bool → Bool → Effect
effect_of false true = Due
effect_of true false = Withdrawn
effect_of true true = Plain
effect_of false false = Plain

-- a pin after a write of its low half: bits 12 (delivery status), 14 (remote IRR) and 31:17 aren't written; a masked pin
-- isn't due, an unmasked level pin is due where its line is asserted and remote IRR clear, and an edge pin has no remote IRR
abbrev pub with_low : ℕ → Pin → Pin
with_low value pin =
    let p = record pin { low = bit_and value 0x1AFFF } in
    record p {
      due = if is_masked p then false else (if is_level p then p.line && not p.remote else p.due);
      remote = p.remote && is_level p;
    }

-- a pin after a write of its high half: bits 63:56 are kept
abbrev pub with_high : ℕ → Pin → Pin
with_high value p = record p { high = bit_and value 0xFF000000 }

-- a pin when its line is driven: a rise makes an unmasked level pin due where remote IRR is clear, a fall withdraws that
abbrev pub with_line : Bool → Pin → Pin
with_line high p =
    record p {
      line = high;
      due = if is_level p then (if high then p.due || (not p.line && (not (is_masked p) && not p.remote)) else p.due && not p.line) else p.due;
    }

-- a pin at an end of interrupt: a level pin of this vector with remote IRR has it cleared, and is due where its line is
-- still asserted and it is unmasked
abbrev pub with_eoi : ℕ → Pin → Pin
with_eoi v p =
    if is_level p && ((vector_of p == v) && p.remote) then record p { remote = false; due = p.line && not (is_masked p) } else p

-- a pin when its message was sent: remote IRR is set on a level pin whose message was accepted
abbrev pub with_sent : Bool → Pin → Pin
with_sent accepted p = record p { due = false; remote = p.remote || (accepted && is_level p) }

-- only an unmasked edge pin takes a pulse
abbrev pub takes_pulse : Pin → Bool
takes_pulse p = not (is_masked p) && not (is_level p)

-- a pin after a pulse
abbrev pub with_pulse : Pin → Pin
with_pulse p = record p { due = p.due || takes_pulse p }

-- the pins after a pulse on each whose bit is set, the first being that of bit 0
abbrev pub pulsed : ℕ → List Pin → List Pin
pulsed mask [] = []
pulsed mask (p ∷ ps) = (if mask % 2 == 1 then with_pulse p else p) ∷ pulsed (mask / 2) ps

-- those that became due, as a mask
abbrev pub pulsed_due : ℕ → List Pin → ℕ
pulsed_due mask [] = 0
pulsed_due mask (p ∷ ps) = (if (mask % 2 == 1) && (takes_pulse p && not p.due) then 1 else 0) + 2 * pulsed_due (mask / 2) ps

-- those that took a pulse and were due, as a mask
abbrev pub pulsed_joined : ℕ → List Pin → ℕ
pulsed_joined mask [] = 0
pulsed_joined mask (p ∷ ps) = (if (mask % 2 == 1) && (takes_pulse p && p.due) then 1 else 0) + 2 * pulsed_joined (mask / 2) ps

-- the pins at which a test holds, as a mask
abbrev pub mask_by : (Pin → Bool) → List Pin → ℕ
mask_by f [] = 0
mask_by f (p ∷ ps) = (if f p then 1 else 0) + 2 * mask_by f ps

-- bit 11: the destination is logical
abbrev pub is_logical : Pin → Bool
is_logical p = p.low / 2048 % 2 == 1

-- a logical destination is bits 63:56, a physical one bits 59:56
abbrev pub dest_of : Pin → ℕ
dest_of p = if is_logical p then p.high / 16777216 else p.high / 16777216 % 16

-- the message of pin n
abbrev pub message_of : ℕ → Pin → Message
message_of n p = record { pin = n; dest = dest_of p; logical = is_logical p; mode = mode_of p; vector = vector_of p; level = is_level p }

-- the message of the least due pin, the first of these being pin n
abbrev pub next_due_from : ℕ → List Pin → Option Message
next_due_from n [] = None
next_due_from n (p ∷ ps) = if p.due then Some (message_of n p) else next_due_from (n + 1) ps

-- the message of the least due pin of all
abbrev pub next_due : IoChip → Option Message
next_due c = next_due_from 0 c.pins

-- pin n changed
abbrev pub change_pin : ℕ → (Pin → Pin) → List Pin → List Pin
change_pin n f [] = []
change_pin zero f (p ∷ ps) = f p ∷ ps
change_pin (suc n) f (p ∷ ps) = p ∷ change_pin n f ps

-- how the change of pin n changes whether it is due
abbrev pub effect_at : ℕ → (Pin → Pin) → List Pin → Effect
effect_at n f [] = Plain
effect_at zero f (p ∷ ps) = effect_of p.due (f p).due
effect_at (suc n) f (p ∷ ps) = effect_at n f ps

-- a low half as it is read: bit 12 where the pin is due, bit 14 where remote IRR is set
abbrev pub low_as_read : Pin → ℕ
low_as_read p = bit_or (bit_or p.low (if p.due then 0x1000 else 0)) (if p.remote then 0x4000 else 0)

-- half 0 is the low one; where there is no such pin, 0
abbrev pub half_as_read : ℕ → Option Pin → ℕ
half_as_read half None = 0
half_as_read half (Some p) = if half == 0 then low_as_read p else p.high

-- index 0 is the id, 1 the version (24 pins, version 11h), 2 the arbitration id, and 10h + 2n and 11h + 2n are the halves of
-- entry n; every other register reads 0
abbrev pub register : IoChip → ℕ
register c =
    if c.index == 0 then c.id * 16777216
    else (if c.index == 1 then 0x170011
    else (if c.index == 2 then c.arbitration * 16777216
    else (if nat_lt c.index 16 then 0 else half_as_read (c.index % 2) (slice_get c.pins ((c.index - 16) / 2)))))

-- what a write of a half does to its pin
abbrev pub with_half : ℕ → ℕ → Pin → Pin
with_half half value p = if half == 0 then with_low value p else with_high value p

-- after a write of the selected register: a write of the id loads the arbitration id; no write changes registers 1 to 15
abbrev pub written : ℕ → IoChip → IoChip
written value c =
    if c.index == 0 then record c { id = value / 16777216 % 16; arbitration = value / 16777216 % 16 }
    else (if nat_lt c.index 16 then c else record c { pins = change_pin ((c.index - 16) / 2) (with_half (c.index % 2) value) c.pins })

-- and what it does to a pending send
abbrev pub write_effect : ℕ → IoChip → Effect
write_effect value c = if nat_lt c.index 16 then Plain else effect_at ((c.index - 16) / 2) (with_half (c.index % 2) value) c.pins
