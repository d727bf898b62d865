use Rattle.mptab_walk.proofs.answer.pir_made.Goals as goal

pub returns-in-Ok : goal.returns-in-Ok
returns-in-Ok c = rw c.in-Ok.ensures.platform at c.pir_on.ensures
