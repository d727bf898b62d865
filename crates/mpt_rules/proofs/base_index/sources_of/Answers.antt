use Rattle.std.proofs.Common.{arith}
use Rattle.std.specs.BTreeMap as tree
use Rattle.mpt_rules.specs.Entries.{IsSource}
use Rattle.mpt_rules.specs.Index.{key_cmp}
use Rattle.mpt_rules.proofs.PlaceLemmas.{keyed_more, first_to, no_entry}
use Rattle.mpt_rules.proofs.base_index.sources_of.Goals as goal

pub loop-i-preserved : goal.loop-i-preserved
loop-i-preserved c = keyed_more IsSource c.args.entries.now c.loop-i.i no_entry (tree.get key_cmp c.loop-i.firsts) (tree.get key_cmp c.note_source.new.firsts) (omega arith) c.in-Ok.ensures c.loop-i.invariant

pub returns : goal.returns
returns c = λ q. first_to (IsSource q) c.args.entries.now c.loop-i.i _ _ (omega (arith, c.loop-i-test.false)) (c.loop-i.invariant q)
