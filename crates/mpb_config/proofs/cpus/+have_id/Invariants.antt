use Rattle.std.proofs.Common.{length}
use Rattle.mpb_config.proofs.cpus.+have_id.Given as goal

abbrev pub decreases-have_id : goal.decreases-have_id
decreases-have_id l = length l.cpus.now
