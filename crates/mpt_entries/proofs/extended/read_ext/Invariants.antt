use Rattle.std.proofs.Common.{◌-◌, ◌≤◌}
use Rattle.mpt_spec.specs.Extended.{AreExtEntries}
use Rattle.mpt_entries.proofs.extended.read_ext.Given as goal

abbrev pub invariant-loop-at : goal.invariant-loop-at
invariant-loop-at l = AreExtEntries l.entries.items l.bytes l.fn.from l.at × (l.at ≤ l.to)

abbrev pub decreases-loop-at : goal.decreases-loop-at
decreases-loop-at l = l.to - l.at
