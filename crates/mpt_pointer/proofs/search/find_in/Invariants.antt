use Rattle.std.proofs.Common.{ℕ, ◌*◌, ◌<◌, ◌≤◌}
use Rattle.std.specs.Int.{div_ceil}
use Rattle.mpt_spec.specs.Search.{HasPointerAt}
use Rattle.mpt_pointer.proofs.search.find_in.Given as goal

abbrev pub invariant-loop-paragraph : goal.invariant-loop-paragraph
invariant-loop-paragraph l = (j : ℕ) → div_ceil l.fn.area.from 16 ≤ j → j < l.paragraph → ¬ HasPointerAt l.image (16 * j)
