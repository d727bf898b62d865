use Rattle.mpb_replay.proofs.HitLemmas.{more_counts}
use Rattle.mpb_replay.proofs.accounts.collections.Goals as goal

pub loop-entry-preserved : goal.loop-entry-preserved
loop-entry-preserved c = more_counts c.args.io c.args.entries.now c.loop-entry.counts c.add_pins.new.counts c.loop-entry.entry-index c.pins_of.result c.entry-item.result c.loop-entry.invariant c.loop-entry-test.true c.entry-item.is c.pins_of.ensures c.add_pins.ensures
