use Rattle.std.proofs.Common.{◌-◌, ◌≤◌}
use Rattle.mpf_madt.specs.Entries.{AreMadtEntries}
use Rattle.mpf_madt.proofs.entries.read_entries.Given as goal

abbrev pub invariant-loop-at : goal.invariant-loop-at
invariant-loop-at l = AreMadtEntries l.entries.items l.bytes l.fn.from l.at × (l.at ≤ l.to)

abbrev pub decreases-loop-at : goal.decreases-loop-at
decreases-loop-at l = l.to - l.at
