use Rattle.mptab_walk.proofs.refusals.first_fault.Goals as goal

pub returns : goal.returns
returns c = rw (c.from.ensures, c.number_of.ensures, c.name_of.ensures) at c.line_answer.ensures
