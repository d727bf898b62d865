use Rattle.std.proofs.Common.{◌≡◌, All, vec_len}
use Rattle.mpb_spec.specs.Pulses.{IsInRange}
use Rattle.mpb_bus_rows.proofs.latch_crowd.on_all_pins.Given as goal

abbrev pub invariant-loop-n : goal.invariant-loop-n
invariant-loop-n l = (vec_len l.plan ≡ l.n) × All (IsInRange 4) l.plan.items
