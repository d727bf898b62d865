use Rattle.std.proofs.Common.{◌≡◌, ◌≤◌, ◌+◌, map, filter_map, length, vec_len, vec_capacity}
use Rattle.mpb_crew.specs.Workers.{col_of, dev_of}
use Rattle.mpb_crew.proofs.closing.give_up.Given as goal

abbrev pub invariant-loop-worker : goal.invariant-loop-worker
invariant-loop-worker l =
    (l.seats.items ≡ map (λ w. w.bus) l.yielded)
    × (l.cols.items ≡ filter_map col_of l.yielded)
    × (l.devs.items ≡ filter_map dev_of l.yielded)
    × (length l.worker-iterator.rest.items + vec_len l.seats ≤ vec_capacity l.seats)
    × (length l.worker-iterator.rest.items + vec_len l.cols ≤ vec_capacity l.cols)
    × (length l.worker-iterator.rest.items + vec_len l.devs ≤ vec_capacity l.devs)
