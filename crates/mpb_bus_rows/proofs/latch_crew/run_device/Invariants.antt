use Rattle.std.proofs.Common.{◌≡◌, false, length}
use Rattle.mpb_bus_rows.proofs.latch_crew.run_device.Given as goal

abbrev pub invariant-loop-pulse : goal.invariant-loop-pulse
invariant-loop-pulse l = (l.seat.latch ≡ l.latch.latch) × (l.seat.ended ≡ false) × (l.seat.plan ≡ l.plan) × (length l.seat.log ≡ l.pulse-index)
