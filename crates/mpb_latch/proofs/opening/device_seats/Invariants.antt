use Rattle.std.proofs.Common.{◌≡◌, map, drop, take}
use Rattle.mpb_latch.specs.Seats.{fresh_device_seat}
use Rattle.mpb_latch.specs.Rule.{fresh_device}
use Rattle.mpb_latch.proofs.opening.device_seats.Given as goal

abbrev pub invariant-loop-plan : goal.invariant-loop-plan
invariant-loop-plan l =
    (l.all.table_id ≡ l.initial.all.table_id)
    × (l.all.me ≡ (record { devices = drop l.plan-index (map (λ p. fresh_device p.items) l.plans); collectors = l.initial.all.me.0.collectors }, l.initial.all.me.1))
    × (l.seats.items ≡ take l.plan-index (map (λ p. fresh_device_seat l.table.shared.table_id p.items) l.plans))
