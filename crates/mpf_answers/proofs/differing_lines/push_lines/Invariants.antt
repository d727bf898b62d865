use Rattle.std.proofs.Common.{◌≡◌, ◌++◌, take}
use Rattle.std.specs.List.{flat_map}
use Rattle.mpf_answers.specs.LineDifferences.{difference_line}
use Rattle.mpf_answers.proofs.differing_lines.push_lines.Given as goal

abbrev pub invariant-loop-difference : goal.invariant-loop-difference
invariant-loop-difference l = l.out.items ≡ l.initial.out.items ++ flat_map difference_line (take l.difference-index l.differences)
