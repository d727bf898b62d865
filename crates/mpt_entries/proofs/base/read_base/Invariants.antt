use Rattle.std.proofs.Common.{◌-◌, ◌≤◌}
use Rattle.mpt_spec.specs.Entries.{AreBaseEntries}
use Rattle.mpt_entries.proofs.base.read_base.Given as goal

abbrev pub invariant-loop-at : goal.invariant-loop-at
invariant-loop-at l = AreBaseEntries l.entries.items l.bytes l.fn.from l.at × (l.at ≤ l.to)

abbrev pub decreases-loop-at : goal.decreases-loop-at
decreases-loop-at l = l.to - l.at
