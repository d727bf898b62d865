use Rattle.std.proofs.Common.{◌≡◌, ◌≤◌, ◌+◌, ◌++◌, map, length, vec_capacity, vec_len}
use Rattle.mpb_latch.specs.Rule.{known_device}
use Rattle.mpb_latch.proofs.closing.take_devices.Given as goal

abbrev pub invariant-loop-seat : goal.invariant-loop-seat
invariant-loop-seat l =
    (l.all.table_id ≡ l.initial.all.table_id)
    × (l.all.me.1 ≡ l.initial.all.me.1)
    × (l.all.me.0.collectors ≡ l.initial.all.me.0.collectors)
    × (l.all.me.0.devices ≡ l.initial.all.me.0.devices ++ map known_device l.yielded)
    × (map (λ x. x.items) l.logs.items ≡ map (λ s. s.log) l.yielded)
    × (length l.seat-iterator.rest.items + vec_len l.logs ≤ vec_capacity l.logs)
