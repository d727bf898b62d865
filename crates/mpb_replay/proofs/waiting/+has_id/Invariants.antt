use Rattle.std.proofs.Common.{length}
use Rattle.mpb_replay.proofs.waiting.+has_id.Given as goal

abbrev pub decreases-has_id : goal.decreases-has_id
decreases-has_id l = length l.cpus.now
