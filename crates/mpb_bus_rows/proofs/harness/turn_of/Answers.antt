use Rattle.std.proofs.Common.{rules, ap}
use Rattle.mpb_bus_rows.proofs.Lists.{one_put_back}
use Rattle.mpb_bus_rows.proofs.harness.turn_of.Goals as goal

pub returns : goal.returns
returns g c =
    one_put_back c.args.bus.now c.args.seats.now.items c.args.place c.in_ok-seat.seat.now c.turn.new.seat (search rules) (search rules) (ap (λ s. s.bus) c.turn.ensures.seat) (ap (λ s. s.agent) c.turn.ensures.seat) c.requires
