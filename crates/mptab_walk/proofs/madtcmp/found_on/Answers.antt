use Rattle.mptab_walk.proofs.madtcmp.found_on.Goals as goal

pub returns-in-Ok : goal.returns-in-Ok
returns-in-Ok c = rw (c.as_slice.ensures.value, c.in-Ok.ensures.answers) at c.line_differences.ensures
