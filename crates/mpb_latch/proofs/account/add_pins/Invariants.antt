use Rattle.std.proofs.Common.{◌≡◌, ◌++◌, take, drop}
use Rattle.mpb_spec.specs.Pulses.{with_pins_from}
use Rattle.mpb_latch.proofs.account.add_pins.Given as goal

abbrev pub invariant-loop-pin : goal.invariant-loop-pin
invariant-loop-pin l = l.counts ≡ with_pins_from l.pins 0 (take l.pin l.initial.counts) ++ drop l.pin l.initial.counts
