use Rattle.std.proofs.Common.{length}
use Rattle.mpb_replay.proofs.accounts.+has_hit.Given as goal

abbrev pub decreases-has_hit : goal.decreases-has_hit
decreases-has_hit l = length l.logs.now
