use Rattle.std.proofs.Common.{◌∙◌, ap}
use Rattle.mpb_latch.specs.Seats.{CollectorSeat}
use Rattle.mpb_crew.proofs.Collecting.{taken, dries}
use Rattle.mpb_crew.proofs.collectors.take.Goals as goal

pub returns-then-ended-clause-account : goal.returns-then-ended-clause-account
returns-then-ended-clause-account c =
    let step = c.collect-pins.ensures.step in
    taken c.args.seat.now c.args.col.now c.ended-ended.new.col c.collect-pins.new.col c.ended-ended.result c.collect-pins.result c.ended-ended.ensures
    (ap (λ (s : CollectorSeat). s.io) step) (ap (λ (s : CollectorSeat). s.dry) step) c.collect-pins.ensures.counts c.collect-pins.ensures.dry c.requires.account

pub returns-then-ended-clause-dry : goal.returns-then-ended-clause-dry
returns-then-ended-clause-dry c none =
    let full = ap (λ (s : CollectorSeat). s.full) c.ended-ended.ensures ∙ c.if-ended.true in
    dries c.ended-ended.new.col c.collect-pins.new.col c.collect-pins.result (ap (λ (s : CollectorSeat). s.dry) c.collect-pins.ensures.step) full none

pub returns-else-ended-clause-account : goal.returns-else-ended-clause-account
returns-else-ended-clause-account c =
    let step = c.collect-pins.ensures.step in
    taken c.args.seat.now c.args.col.now c.ended-ended.new.col c.collect-pins.new.col c.ended-ended.result c.collect-pins.result c.ended-ended.ensures
    (ap (λ (s : CollectorSeat). s.io) step) (ap (λ (s : CollectorSeat). s.dry) step) c.collect-pins.ensures.counts c.collect-pins.ensures.dry c.requires.account
