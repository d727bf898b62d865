use Rattle.std.proofs.Common.{◌≡◌, ◌++◌, map, take, drop}
use Rattle.mpb_spec.specs.IoApic.{with_eoi}
use Rattle.mpb_ioapic.proofs.pins.Pins.end.Given as goal

-- the pins before this one are done
abbrev pub invariant-loop-number : goal.invariant-loop-number
invariant-loop-number l = l.self ≡ map (with_eoi l.vector) (take l.number l.initial.self) ++ drop l.number l.initial.self
