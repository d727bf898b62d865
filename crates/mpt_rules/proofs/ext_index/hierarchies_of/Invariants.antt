use Rattle.mpt_rules.specs.Entries.{IsHierarchyOf}
use Rattle.mpt_rules.specs.Index.{AreFirsts}
use Rattle.mpt_rules.proofs.ext_index.hierarchies_of.Given as goal

abbrev pub invariant-loop-i : goal.invariant-loop-i
invariant-loop-i l = AreFirsts IsHierarchyOf l.entries l.i l.firsts
