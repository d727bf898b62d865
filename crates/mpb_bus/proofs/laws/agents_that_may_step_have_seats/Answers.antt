use Rattle.mpb_bus.proofs.Seated.{seated}
use Rattle.mpb_bus.proofs.laws.agents_that_may_step_have_seats.Goals as goal

pub returns : goal.returns
returns c plan journal g may = seated plan journal g may
