use Rattle.std.proofs.Common.{arith}
use Rattle.mpt_rules.specs.Entries.{IsProcessorOf}
use Rattle.mpt_rules.proofs.PlaceLemmas.{firsts_start, firsts_more, first_to, no_entry}
use Rattle.mpt_rules.proofs.base_index.processors_of.Goals as goal

pub loop-i-init : goal.loop-i-init
loop-i-init c = firsts_start IsProcessorOf c.args.entries.now _ c.no_places-firsts.ensures

pub loop-i-preserved : goal.loop-i-preserved
loop-i-preserved c = firsts_more IsProcessorOf c.args.entries.now c.loop-i.i no_entry _ _ (omega arith) c.note_processor.ensures c.loop-i.invariant

pub returns : goal.returns
returns c = λ q. first_to (IsProcessorOf q) c.args.entries.now c.loop-i.i _ _ (omega (arith, c.loop-i-test.false)) (c.loop-i.invariant q)
