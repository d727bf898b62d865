use Rattle.mpt_rules.specs.Entries.{IsProcessorOf}
use Rattle.mpt_rules.specs.Index.{AreFirsts}
use Rattle.mpt_rules.proofs.base_index.processors_of.Given as goal

abbrev pub invariant-loop-i : goal.invariant-loop-i
invariant-loop-i l = AreFirsts IsProcessorOf l.entries l.i l.firsts
