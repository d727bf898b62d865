use Rattle.mpt_rules.specs.Entries.{IsIoApicOf}
use Rattle.mpt_rules.specs.Index.{AreFirsts}
use Rattle.mpt_rules.proofs.base_index.ios_of.Given as goal

abbrev pub invariant-loop-i : goal.invariant-loop-i
invariant-loop-i l = AreFirsts IsIoApicOf l.entries l.i l.firsts
