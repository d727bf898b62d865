use Rattle.mptab_walk.proofs.answer.madt_made.Goals as goal

pub returns-in-Ok : goal.returns-in-Ok
returns-in-Ok c = rw c.in-Ok.ensures.platform at c.madt_on.ensures
