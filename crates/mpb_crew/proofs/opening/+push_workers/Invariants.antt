use Rattle.std.proofs.Common.{length}
use Rattle.mpb_crew.proofs.opening.+push_workers.Given as goal

abbrev pub decreases-push_workers : goal.decreases-push_workers
decreases-push_workers l = length l.agents.now
