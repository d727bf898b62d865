use Rattle.std.proofs.Common.{◌≡◌}
use Rattle.mpb_bus_rows.proofs.latch_crew.run_collector.Given as goal

abbrev pub invariant-loop : goal.invariant-loop
invariant-loop g l = (l.col.latch ≡ l.latch.latch) × (l.col.io ≡ l.initial.col.io)
