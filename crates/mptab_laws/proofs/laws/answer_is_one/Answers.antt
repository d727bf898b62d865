use Rattle.mptab_walk.specs.Forms.{IsAny, IsStill}
use Rattle.mptab_laws.proofs.WalkLaws.{answer_one}
use Rattle.mptab_laws.proofs.laws.answer_is_one.Goals as goal

pub returns-clause-any : goal.returns-clause-any
returns-clause-any c = λ files words s u t v one a b. answer_one IsAny files words s u t v (λ form l is. one form is) a b

pub returns-clause-still : goal.returns-clause-still
returns-clause-still c = λ files words s u t v one a b. answer_one IsStill files words s u t v (λ form l is. one form is) a b
