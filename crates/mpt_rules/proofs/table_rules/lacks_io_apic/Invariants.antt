use Rattle.std.proofs.Common.{ℕ, ◌<◌}
use Rattle.mpt_rules.specs.Places.{HoldsAt}
use Rattle.mpt_rules.specs.Entries.{IsEnabledIoApic}
use Rattle.mpt_rules.proofs.table_rules.lacks_io_apic.Given as goal

abbrev pub invariant-loop-i : goal.invariant-loop-i
invariant-loop-i l = (k : ℕ) → k < l.i → HoldsAt IsEnabledIoApic l.entries k → ⊥
