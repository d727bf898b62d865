use Rattle.mpt_rules.specs.Entries.{IsBusOf}
use Rattle.mpt_rules.specs.Index.{AreFirsts}
use Rattle.mpt_rules.proofs.base_index.buses_of.Given as goal

abbrev pub invariant-loop-i : goal.invariant-loop-i
invariant-loop-i l = AreFirsts IsBusOf l.entries l.i l.firsts
