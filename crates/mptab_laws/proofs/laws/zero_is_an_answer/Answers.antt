use Rattle.mptab_walk.specs.Forms.{IsAny, IsStill}
use Rattle.mptab_laws.proofs.ReplayLaws.{zero_answered}
use Rattle.mptab_laws.proofs.laws.zero_is_an_answer.Goals as goal

pub returns-clause-any : goal.returns-clause-any
returns-clause-any c = λ told before after words h. zero_answered IsAny told before after words h

pub returns-clause-still : goal.returns-clause-still
returns-clause-still c = λ told before after words h. zero_answered IsStill told before after words h
