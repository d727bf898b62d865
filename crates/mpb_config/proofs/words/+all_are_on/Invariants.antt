use Rattle.std.proofs.Common.{length}
use Rattle.mpb_config.proofs.words.+all_are_on.Given as goal

abbrev pub decreases-all_are_on : goal.decreases-all_are_on
decreases-all_are_on l = length l.devices.now
