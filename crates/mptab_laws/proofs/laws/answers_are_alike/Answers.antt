use Rattle.mptab_walk.specs.Forms.{IsAny, IsStill}
use Rattle.mptab_laws.proofs.WalkLaws.{answers_alike}
use Rattle.mptab_laws.proofs.laws.answers_are_alike.Goals as goal

pub returns-clause-any : goal.returns-clause-any
returns-clause-any c = λ files words s u t v a b. answers_alike IsAny files words s u t v a b

pub returns-clause-still : goal.returns-clause-still
returns-clause-still c = λ files words s u t v a b. answers_alike IsStill files words s u t v a b
