use Rattle.std.proofs.Common.{◌≡◌, ◌≤◌, ◌+◌, ◌++◌, map, length, All, vec_capacity, vec_len}
use Rattle.mpb_latch.specs.Rule.{known_collector}
use Rattle.mpb_latch.proofs.closing.take_collectors.Given as goal

abbrev pub invariant-loop-seat : goal.invariant-loop-seat
invariant-loop-seat l =
    (l.all.table_id ≡ l.initial.all.table_id)
    × (l.all.me.1 ≡ l.initial.all.me.1)
    × (l.all.me.0.devices ≡ l.initial.all.me.0.devices)
    × (l.all.me.0.collectors ≡ l.initial.all.me.0.collectors ++ map known_collector l.yielded)
    × (map (λ x. x.items) l.collected.items ≡ map (λ s. s.counts) l.yielded)
    × All (λ x. length x.items ≡ 24) l.collected.items
    × (length l.seat-iterator.rest.items + vec_len l.collected ≤ vec_capacity l.collected)
