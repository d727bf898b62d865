use Rattle.std.proofs.Common.{length}
use Rattle.mpb_replay.proofs.made.+all_made.Given as goal

abbrev pub decreases-all_made : goal.decreases-all_made
decreases-all_made l = length l.devices.now
