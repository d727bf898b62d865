use Rattle.std.proofs.Common.{refl, inl, inr}
use Rattle.mptab_walk.specs.Texts.{no_memory_line}
use Rattle.mptab_walk.proofs.drill.give_of_drill.Goals as goal

pub returns-in-Ok : goal.returns-in-Ok
returns-in-Ok g c = (0, c.in-Ok.text.items, inl (refl, rw c.from.ensures at c.in-Ok.ensures.summary), rw c.as_slice.ensures.value at c.deliver_text.ensures)

pub returns-in-Err : goal.returns-in-Err
returns-in-Err g c = (9, no_memory_line, inr (refl, refl), c.deliver_line.ensures)
