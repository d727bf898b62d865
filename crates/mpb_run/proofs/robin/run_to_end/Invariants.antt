use Rattle.std.proofs.Common.{◌+◌, ◌-◌}
use Rattle.mpb_spec.specs.Plan.{plan_size}
use Rattle.mpb_spec.specs.Room.{room}
use Rattle.mpb_robin.specs.Rest.{done_in}
use Rattle.mpb_run.proofs.RobinLemmas.{IsAfterRounds}
use Rattle.mpb_run.proofs.robin.run_to_end.Given as goal

abbrev pub invariant-loop-run : goal.invariant-loop-run
invariant-loop-run l = IsAfterRounds l.fn.run.plan l.run

abbrev pub decreases-loop-run : goal.decreases-loop-run
decreases-loop-run l = room l.fn.run.plan + plan_size l.fn.run.plan - done_in l.run
