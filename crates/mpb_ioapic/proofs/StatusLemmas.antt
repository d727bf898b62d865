-- No call puts the delivery status or remote IRR into the low half of an entry.
use Rattle.std.proofs.Common.{◌==◌, ◌/◌, ◌%◌, ℕ, zero, suc, Bool, true, false, ◌&&◌, cond, List, [], ◌∷◌, not, ◌∙◌, arith, map, bit_and}
use Rattle.std.specs.List.{AllByRecursion}
use Rattle.std.proofs.lemmas.Nat.Bits.{bit_at_and}
use Rattle.mpb_spec.specs.declared.apic.Pin.{Pin}
use Rattle.mpb_spec.specs.IoApic.{change_pin, is_level, vector_of, with_low, with_half, with_eoi, is_masked, with_pulse, pulsed}
use Rattle.mpb_ioapic.specs.Signs.{HasNoStatus}

-- a write of a low half writes neither
low-written : (value : ℕ) (p : Pin) → HasNoStatus (with_low value p)
low-written value p = (bit_at_and value 0x1AFFF 12 ∙ omega arith, bit_at_and value 0x1AFFF 14 ∙ omega arith)

pub half-written : (half value : ℕ) (p : Pin) → HasNoStatus p → HasNoStatus (with_half half value p)
half-written half value p h = go (half == 0) where
  go : (b : Bool) → HasNoStatus (cond b (with_low value p) (record p { high = bit_and value 0xFF000000 }))
  go true = low-written value p
  go false = h

pub ended : (v : ℕ) (p : Pin) → HasNoStatus p → HasNoStatus (with_eoi v p)
ended v p h = go (is_level p && ((vector_of p == v) && p.remote)) where
  go : (b : Bool) → HasNoStatus (cond b (record p { remote = false; due = p.line && not (is_masked p) }) p)
  go true = h
  go false = h

-- one pin changed
pub all-changed : (n : ℕ) (f : Pin → Pin) (ps : List Pin) → ((p : Pin) → HasNoStatus p → HasNoStatus (f p)) → AllByRecursion HasNoStatus ps → AllByRecursion HasNoStatus (change_pin n f ps)
all-changed n f [] keeps h = h
all-changed zero f (p ∷ ps) keeps h = (keeps p h.0, h.1)
all-changed (suc n) f (p ∷ ps) keeps h = (h.0, all-changed n f ps keeps h.1)

-- each pin changed
pub all-mapped : (f : Pin → Pin) (ps : List Pin) → ((p : Pin) → HasNoStatus p → HasNoStatus (f p)) → AllByRecursion HasNoStatus ps → AllByRecursion HasNoStatus (map f ps)
all-mapped f [] keeps h = h
all-mapped f (p ∷ ps) keeps h = (keeps p h.0, all-mapped f ps keeps h.1)

-- the named ones pulsed
pub all-pulsed : (mask : ℕ) (ps : List Pin) → AllByRecursion HasNoStatus ps → AllByRecursion HasNoStatus (pulsed mask ps)
all-pulsed mask [] h = h
all-pulsed mask (p ∷ ps) h = (go (mask % 2 == 1), all-pulsed (mask / 2) ps h.1) where
  go : (b : Bool) → HasNoStatus (cond b (with_pulse p) p)
  go true = h.0
  go false = h.0
