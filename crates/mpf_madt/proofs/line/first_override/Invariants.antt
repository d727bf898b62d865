use Rattle.std.proofs.Common.{◌≡◌, take}
use Rattle.std.specs.Prelude.{None}
use Rattle.mpf_madt.specs.Lines.{first_some, override_of}
use Rattle.mpf_madt.proofs.line.first_override.Given as goal

abbrev pub invariant-loop-entry : goal.invariant-loop-entry
invariant-loop-entry l = first_some (override_of l.irq) (take l.entry-index l.entries) ≡ None
