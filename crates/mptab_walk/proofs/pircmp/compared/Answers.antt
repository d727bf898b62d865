use Rattle.mptab_walk.proofs.pircmp.compared.Goals as goal

pub returns-in-Ok : goal.returns-in-Ok
returns-in-Ok c = rw c.in-Ok.ensures.platform at c.compared_on.ensures
