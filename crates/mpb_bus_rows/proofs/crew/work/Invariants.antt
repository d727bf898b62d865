use Rattle.std.proofs.Common.{◌≡◌}
use Rattle.mpb_bus_rows.proofs.crew.work.Given as goal

abbrev pub invariant-loop : goal.invariant-loop
invariant-loop g l = (l.seat.bus ≡ l.initial.seat.bus) × (l.seat.agent ≡ l.initial.seat.agent)
