use Rattle.std.proofs.Common.{◌+◌, ◌≤◌, ℕ, List, Vec, Global, length, map, sum_by, vec_capacity, sym, ap, subst, ◌∙◌, arith}
use Rattle.std.specs.List.{range_with_len}
use Rattle.mpb_spec.specs.declared.pulse.Pulse.{Pulse}
use Rattle.std.proofs.lemmas.List.{length-map}
use Rattle.std.proofs.lemmas.List.FromFn.{length-map-range_with_len}
use Rattle.mpb_latch.specs.Seats.{DeviceSeat, CollectorSeat, fresh_device_seat, fresh_collector_seat}
use Rattle.mpb_latch.specs.Rule.{fresh_device}
use Rattle.mpb_spec.proofs.Lists.{map_map, sum_map}
use Rattle.mpb_latch.proofs.latch.Latch.new.Goals as goal

pub device_seats-requires-clause-range : goal.device_seats-requires-clause-range
device_seats-requires-clause-range c = λ k d l j p m. (let here = c.requires.range.1 k d l j p m in let words = c.in-Ok-open_words.ensures.key.2 in (omega arith, here.1))

pub device_seats-requires-clause-all : goal.device_seats-requires-clause-all
device_seats-requires-clause-all c =
    ap (λ m. m.0.devices) c.in-Ok-open_words.ensures.seat.1
    ∙ ap (λ ps. map fresh_device ps) c.in-Ok-copied.ensures
    ∙ map_map fresh_device (λ p. p.items) c.args.plans.now

pub collector_seats-requires-clause-few : goal.collector_seats-requires-clause-few
collector_seats-requires-clause-few c =
    let a = sum_map length (λ p. p.items) c.in-Ok-copied.copy.items in
    let b = sum_map length (λ p. p.items) c.args.plans.now in
    let e = ap (λ ps. sum_by length ps) c.in-Ok-copied.ensures in
    let f = c.requires.few in
    omega arith

pub returns-clause-lengths : goal.returns-clause-lengths
returns-clause-lengths c =
    let id = c.in-Ok-open_words.table.shared.table_id in
    let seats = ap (λ (l : List DeviceSeat). length l) c.in-Ok-device_seats.ensures.seats ∙ length-map c.args.plans.now (λ p. fresh_device_seat id p.items) in
    let cols = ap (λ (l : List CollectorSeat). length l) c.in-Ok-collector_seats.ensures.seats ∙ length-map-range_with_len (fresh_collector_seat id (map (λ p. p.items) c.in-Ok-copied.copy.items)) 0 c.args.ios in
    (omega arith, omega arith)

pub returns-clause-latch : goal.returns-clause-latch
returns-clause-latch c =
    let key = c.in-Ok-open_words.ensures.key in
    (key.0, ap (λ (v : Vec (Vec Pulse Global) Global). map (λ p. p.items) v.items) key.1 ∙ c.in-Ok-copied.ensures)

pub returns-clause-devices : goal.returns-clause-devices
returns-clause-devices c = c.in-Ok-device_seats.ensures.seats

pub returns-clause-collectors : goal.returns-clause-collectors
returns-clause-collectors c =
    let id = c.in-Ok-open_words.table.shared.table_id in
    c.in-Ok-collector_seats.ensures.seats
    ∙ ap (λ (v : Vec (Vec Pulse Global) Global). map (fresh_collector_seat id (map (λ p. p.items) v.items)) (range_with_len 0 c.args.ios)) (sym c.in-Ok-open_words.ensures.key.1)

pub invariant_of-result : goal.invariant_of-result
invariant_of-result c =
    let key = c.in-Ok-open_words.ensures.key in
    let plans = c.args.plans.now in
    let copy = c.in-Ok-copied.copy.items in
    let few : length copy ≤ vec_capacity c.in-Ok.logs =
    omega (arith, c.in-Ok.ensures.capacity, length-map copy (λ p. p.items), length-map plans (λ p. p.items), ap (λ l. length l) c.in-Ok-copied.ensures) in
    let room : c.args.ios ≤ vec_capacity c.in-Ok-with_capacity.collected = omega (arith, c.in-Ok-with_capacity.ensures.capacity, c.from.ensures) in (
      (key.2 ∙ ap (λ n. n + 1) (sym key.0), key.3),
      (c.in-Ok.ensures.items, subst (λ (v : Vec (Vec Pulse Global) Global). length v.items ≤ vec_capacity c.in-Ok.logs) (sym key.1) few),
      (c.in-Ok-with_capacity.ensures.items, subst (λ (n : ℕ). n ≤ vec_capacity c.in-Ok-with_capacity.collected) (sym key.0) room),
    )
