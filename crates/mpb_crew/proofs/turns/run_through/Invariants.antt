use Rattle.mpb_crew.specs.Workers.{IsSame}
use Rattle.mpb_crew.proofs.turns.run_through.Given as goal

abbrev pub invariant-loop : goal.invariant-loop
invariant-loop g l = IsSame l.initial.seat l.seat
