-- The latch of one thread: this project's own.
use Rattle.std.specs.Prelude.{ℕ, ◌^◌, List, slice_index, slice_set, replicate, bit_or}
use Rattle.mpb_spec.specs.declared.pulse.Pulse.{Pulse}

-- for each I/O APIC the set of its pins that were pulsed and not yet collected, as the number whose bit n is 1 where pin n is in it; how many devices there are; and how many have ended
pub record PlainState : Type 0 where
  pub pins : List ℕ
  pub devices : ℕ
  pub ended : ℕ

-- no pin is latched, and no device has ended
abbrev pub empty_latch : ℕ → ℕ → PlainState
empty_latch ios devices = record { pins = replicate ios 0; devices = devices; ended = 0 }

-- the latched pins of an I/O APIC
abbrev pub pins_at : ℕ → PlainState → ℕ
pins_at io latch = slice_index latch.pins io

-- the pin of the pulse is latched
abbrev pub pulsed : Pulse → PlainState → PlainState
pulsed p latch = record latch { pins = slice_set latch.pins p.io (bit_or (pins_at p.io latch) (2 ^ p.pin)) }

-- no pin of the I/O APIC is latched
abbrev pub collected : ℕ → PlainState → PlainState
collected io latch = record latch { pins = slice_set latch.pins io 0 }
