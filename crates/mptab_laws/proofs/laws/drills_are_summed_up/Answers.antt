use Rattle.mptab_walk.specs.Forms.{IsAny, IsStill}
use Rattle.mptab_laws.proofs.DrillLaws.{drill_summed, drill_status}
use Rattle.mptab_laws.proofs.laws.drills_are_summed_up.Goals as goal

pub returns-clause-any : goal.returns-clause-any
returns-clause-any c = λ told words n s t is answer. drill_summed IsAny told words n s t tt is answer

pub returns-clause-still : goal.returns-clause-still
returns-clause-still c = λ told words n s t is answer. drill_summed IsStill told words n s t tt is answer

pub returns-clause-any_status : goal.returns-clause-any_status
returns-clause-any_status c = λ told before after words n result is given. drill_status IsAny told before after words n result tt is given

pub returns-clause-still_status : goal.returns-clause-still_status
returns-clause-still_status c = λ told before after words n result is given. drill_status IsStill told before after words n result tt is given
