use Rattle.std.proofs.Common.{◌≡◌}
use Rattle.mpb_crew.specs.Workers.{IsSame, IsCollecting}
use Rattle.mpb_crew.proofs.collectors.run_io.Given as goal

abbrev pub invariant-loop : goal.invariant-loop
invariant-loop g l = IsSame l.initial.seat l.seat × (l.col.latch ≡ l.initial.col.latch) × (l.col.io ≡ l.initial.col.io) × IsCollecting l.held l.seat l.col
