use Rattle.std.proofs.Common.{length}
use Rattle.mpb_replay.proofs.accounts.+has_new_start.Given as goal

abbrev pub decreases-has_new_start : goal.decreases-has_new_start
decreases-has_new_start l = length l.logs.now
