use Rattle.std.proofs.Common.{refl, arith}
use Rattle.std.proofs.lemmas.Option.{slice_get_read}
use Rattle.mpt_rules.proofs.IndexLemmas.{range_more}
use Rattle.mpt_rules.proofs.ext_index.ranges_of.Goals as goal

pub loop-i-preserved : goal.loop-i-preserved
loop-i-preserved c =
    range_more c.args.entries.now c.loop-i.i c.index-entries-i.result c.range_of.result c.loop-i.ranges.items _ (slice_get_read c.args.entries.now _ c.loop-i.i c.index-entries-i.result refl (omega arith) c.index-entries-i.is) c.range_of.ensures c.in-Ok-push.ensures.items c.loop-i.invariant
