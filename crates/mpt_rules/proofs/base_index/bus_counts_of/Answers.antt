use Rattle.std.proofs.Common.{get_or, arith}
use Rattle.mpt_rules.specs.Entries.{is_bus}
use Rattle.mpt_rules.proofs.PlaceLemmas.{no_entry}
use Rattle.mpt_rules.proofs.IndexLemmas.{count_more, buses_more, small_more}
use Rattle.mpt_rules.proofs.base_index.bus_counts_of.Goals as goal

pub loop-i-preserved : goal.loop-i-preserved
loop-i-preserved c =
    let es = c.args.entries.now in
    let i = c.loop-i.i in
    record {
      counts = count_more es i c.loop-i.count c.loop-i.counts.items _ c.loop-i.invariant.count c.in-Ok-push.ensures.items c.loop-i.invariant.counts;
      count = buses_more es i c.loop-i.count _ no_entry (omega arith) c.count_with-count.ensures c.loop-i.invariant.count;
      small = small_more (is_bus (get_or es i no_entry)) c.loop-i.count _ i c.count_with-count.ensures c.loop-i.invariant.small;
    }
