use Rattle.std.proofs.Common.{refl}
use Rattle.mpb_crew.proofs.Stepping.{made}
use Rattle.mpb_crew.proofs.turns.step.Goals as goal

pub returns-in-Done : goal.returns-in-Done
returns-in-Done g c = made c.args.seat.now c.args.offer c.in-Done.field-0 c.turn.new.seat c.in-Done.ensures.seat c.in-Done.ensures.grows (c.in-Done.ensures.done c.in-Done.field-0 refl)
