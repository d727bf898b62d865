use Rattle.std.proofs.Common.{◌≡◌, ◌++◌, take}
use Rattle.std.specs.List.{flat_map}
use Rattle.mpt_answers.specs.RouteLines.{route_line}
use Rattle.mpt_answers.proofs.route_lines.push_answers.Given as goal

abbrev pub invariant-loop-answer : goal.invariant-loop-answer
invariant-loop-answer l = l.out.items ≡ l.initial.out.items ++ flat_map route_line (take l.answer-index l.answers)
