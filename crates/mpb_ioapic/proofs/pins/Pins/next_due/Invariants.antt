use Rattle.std.proofs.Common.{◌≡◌, drop}
use Rattle.mpb_spec.specs.IoApic.{next_due_from}
use Rattle.mpb_ioapic.proofs.pins.Pins.next_due.Given as goal

-- the search goes on from here
abbrev pub invariant-loop-number : goal.invariant-loop-number
invariant-loop-number l = next_due_from l.number (drop l.number l.self) ≡ next_due_from 0 l.self
