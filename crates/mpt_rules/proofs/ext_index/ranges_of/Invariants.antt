use Rattle.mpt_rules.specs.Index.{AreRanges}
use Rattle.mpt_rules.proofs.ext_index.ranges_of.Given as goal

abbrev pub invariant-loop-i : goal.invariant-loop-i
invariant-loop-i l = AreRanges l.entries l.i l.ranges.items
