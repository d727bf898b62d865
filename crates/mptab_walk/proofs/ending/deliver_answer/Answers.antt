use Rattle.mptab_walk.proofs.ending.deliver_answer.Goals as goal

pub returns-in-Ok : goal.returns-in-Ok
returns-in-Ok g c = rw c.in-Ok.is (rw c.as_slice.ensures.value at c.deliver_text.ensures)

pub returns-in-Err : goal.returns-in-Err
returns-in-Err g c = rw c.in-Err.is c.deliver_line.ensures
