use Rattle.std.proofs.Common.{◌≡◌}
use Rattle.mpb_crew.specs.Workers.{IsSame}
use Rattle.mpb_crew.proofs.devices.offer_next.Given as goal

abbrev pub invariant-loop : goal.invariant-loop
invariant-loop g l = IsSame l.initial.seat l.seat × (l.seat.mine ≡ l.initial.seat.mine)
