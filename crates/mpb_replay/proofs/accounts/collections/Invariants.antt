use Rattle.mpb_replay.proofs.HitLemmas.{AreCounts}
use Rattle.mpb_replay.proofs.accounts.collections.Given as goal

abbrev pub invariant-loop-entry : goal.invariant-loop-entry
invariant-loop-entry l = AreCounts l.io l.entries l.counts l.entry-index
