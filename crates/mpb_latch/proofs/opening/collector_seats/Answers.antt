use Rattle.std.proofs.Common.{arith, ◌++◌, ◌∷◌, [], ℕ, length, List, replicate, sym, ap, ◌∙◌, map, take, get_or, sum_by}
use Rattle.std.proofs.lemmas.List.{length-map, drop_all, take_all}
use Rattle.std.specs.List.{range_with_len}
use Rattle.atomic_table.specs.Seated.{TableId}
use Rattle.mpb_latch.specs.declared.view.CollectorView.{CollectorView}
use Rattle.mpb_latch.specs.Seats.{CollectorSeat, fresh_collector_seat}
use Rattle.mpb_latch.specs.Rule.{no_collector, without_collector, shown_collector, fresh_collector, fresh_collectors}
use Rattle.mpb_spec.proofs.Lists.{sum_map}
use Rattle.mpb_latch.proofs.Starts.{fresh_count, first_left, some_left, rest_left, one_seat_more, seat_count}
use Rattle.mpb_latch.proofs.opening.collector_seats.Goals as goal

pub cut_collector-seat-requires-clause-table : goal.cut_collector-seat-requires-clause-table
cut_collector-seat-requires-clause-table c = (c.loop-io.invariant.0 ∙ c.requires.table.0, (let words = c.requires.table.1 in omega arith))

pub cut_collector-seat-requires-clause-place : goal.cut_collector-seat-requires-clause-place
cut_collector-seat-requires-clause-place c =
    let plans = map (λ p. p.items) c.args.plans.now.items in
    let t = c.loop-io-test.true in
    let i = c.loop-io.invariant in
    let col = ap (λ m. get_or m.0.collectors 0 no_collector) i.1 ∙ first_left plans c.args.ios c.loop-io.io t in (
      (let left = ap (λ m. length m.0.collectors) i.1 in let some = some_left plans c.args.ios c.loop-io.io t in omega arith),
      sym (ap (λ (x : CollectorView). x.io) col),
      (let words = ap (λ (z : TableId). z.words) (i.0 ∙ c.requires.table.0) in let all = c.requires.table.1 in omega arith),
    )

pub cut_collector-seat-requires-clause-counts : goal.cut_collector-seat-requires-clause-counts
cut_collector-seat-requires-clause-counts c =
    let plans = map (λ p. p.items) c.args.plans.now.items in
    let t = c.loop-io-test.true in
    let i = c.loop-io.invariant in
    let col = ap (λ m. get_or m.0.collectors 0 no_collector) i.1 ∙ first_left plans c.args.ios c.loop-io.io t in
    let zeros = c.in-Ok-from_elem.ensures.items_if_clones_equal (λ y same. same) ∙ ap (λ n. replicate n 0) c.from-in-loop-io.ensures in
    (zeros ∙ sym (ap (λ (x : CollectorView). x.counts) col), ap (λ (l : List ℕ). length l) zeros)

pub cut_collector-seat-requires-clause-all : goal.cut_collector-seat-requires-clause-all
cut_collector-seat-requires-clause-all c =
    let items = c.args.plans.now.items in
    let plans = map (λ p. p.items) items in
    let cols = ap (λ m. m.0.collectors) c.loop-io.invariant.1 in
    let col = ap (λ l. get_or l 0 no_collector) cols ∙ first_left plans c.args.ios c.loop-io.io c.loop-io-test.true in
    let same = ap (λ x. x.plans) col in (
      (let a = ap (λ ps. length ps) same in let b = length-map items (λ p. p.items) in let e = c.len.ensures in omega arith),
      (let a = ap (λ ps. sum_by length ps) same in let b = sum_map length (λ p. p.items) items in let f = c.requires.few in omega arith),
    )

pub loop-io-preserved : goal.loop-io-preserved
loop-io-preserved c =
    let plans = map (λ p. p.items) c.args.plans.now.items in
    let ios = c.args.ios in
    let io = c.loop-io.io in
    let t = c.loop-io-test.true in
    let i = c.loop-io.invariant in
    let start = c.args.all.now.me in
    let id = c.args.table.now.shared.table_id in
    let col = ap (λ m. get_or m.0.collectors 0 no_collector) i.1 ∙ first_left plans ios io t in (
      c.cut_collector-seat.ensures.left.0 ∙ i.0,
      c.cut_collector-seat.ensures.left.1 ∙ ap (λ m. (without_collector m.0, m.1)) i.1 ∙ ap (λ (l : List CollectorView). (record { devices = start.0.devices; collectors = l }, start.1)) (rest_left plans ios io t),
      c.in-Ok-push.ensures.items
          ∙ ap (λ (l : List CollectorSeat). l ++ c.cut_collector-seat.result ∷ []) i.2
          ∙ ap (λ (x : CollectorSeat). take io (map (fresh_collector_seat id plans) (range_with_len 0 ios)) ++ x ∷ []) (c.cut_collector-seat.ensures.seat ∙ ap (λ (x : CollectorView). shown_collector c.loop-io.all.table_id x) col ∙ ap (λ (z : TableId). shown_collector z (fresh_collector plans io)) (i.0 ∙ c.requires.table.0))
          ∙ sym (one_seat_more id plans ios io t),
    )

pub returns-clause-all : goal.returns-clause-all
returns-clause-all c =
    let plans = map (λ p. p.items) c.args.plans.now.items in
    let i = c.loop-io.invariant in
    let start = c.args.all.now.me in
    let n = fresh_count plans c.args.ios in
    let t = c.loop-io-test.false in
    (i.0, i.1 ∙ ap (λ (l : List CollectorView). (record { devices = start.0.devices; collectors = l }, start.1)) (drop_all c.loop-io.io (fresh_collectors c.args.ios plans) (omega arith)))

pub returns-clause-seats : goal.returns-clause-seats
returns-clause-seats c =
    let plans = map (λ p. p.items) c.args.plans.now.items in
    let id = c.args.table.now.shared.table_id in
    let i = c.loop-io.invariant in
    let n = seat_count id plans c.args.ios in
    let t = c.loop-io-test.false in
    i.2 ∙ take_all c.loop-io.io (map (fresh_collector_seat id plans) (range_with_len 0 c.args.ios)) (omega arith)
