use Rattle.std.proofs.Common.{◌≡◌, map, drop, take}
use Rattle.std.specs.List.{range_with_len}
use Rattle.mpb_latch.specs.Seats.{fresh_collector_seat}
use Rattle.mpb_latch.specs.Rule.{fresh_collectors}
use Rattle.mpb_latch.proofs.opening.collector_seats.Given as goal

abbrev pub invariant-loop-io : goal.invariant-loop-io
invariant-loop-io l =
    (l.all.table_id ≡ l.initial.all.table_id)
    × (l.all.me ≡ (record { devices = l.initial.all.me.0.devices; collectors = drop l.io (fresh_collectors l.ios (map (λ p. p.items) l.plans.items)) }, l.initial.all.me.1))
    × (l.seats.items ≡ take l.io (map (fresh_collector_seat l.table.shared.table_id (map (λ p. p.items) l.plans.items)) (range_with_len 0 l.ios)))
