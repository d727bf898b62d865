use Rattle.mptab_walk.proofs.madtcmp.found_in.Goals as goal

pub returns-in-Ok : goal.returns-in-Ok
returns-in-Ok c = rw c.in-Ok.ensures.platform at c.found_on.ensures
