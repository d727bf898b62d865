use Rattle.std.proofs.Common.{inl}
use Rattle.mptab_walk.specs.Forms.{IsAny, IsStill}
use Rattle.mptab_laws.proofs.Rows.{still_judged}
use Rattle.mptab_laws.proofs.WalkLaws.{answer_some}
use Rattle.mptab_laws.proofs.laws.words_have_an_answer.Goals as goal

pub returns-clause-any : goal.returns-clause-any
returns-clause-any c = λ files words bytes. answer_some IsAny files words (λ form. inl tt) bytes

pub returns-clause-still : goal.returns-clause-still
returns-clause-still c = λ files words bytes. answer_some IsStill files words still_judged bytes
