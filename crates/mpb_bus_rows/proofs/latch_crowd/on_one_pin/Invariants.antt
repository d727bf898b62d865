use Rattle.std.proofs.Common.{◌≡◌, All, vec_len}
use Rattle.mpb_spec.specs.Pulses.{IsInRange}
use Rattle.mpb_bus_rows.proofs.latch_crowd.on_one_pin.Given as goal

abbrev pub invariant-loop : goal.invariant-loop
invariant-loop l = (vec_len l.plan ≡ l.counter) × All (IsInRange 1) l.plan.items
