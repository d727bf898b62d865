use Rattle.std.proofs.Common.{◌≡◌, ◌++◌, take}
use Rattle.std.specs.List.{flat_map}
use Rattle.mpt_answers.specs.FindingLines.{finding_line}
use Rattle.mpt_answers.proofs.finding_lines.push_finding_lines.Given as goal

abbrev pub invariant-loop-finding : goal.invariant-loop-finding
invariant-loop-finding l = l.out.items ≡ l.initial.out.items ++ flat_map finding_line (take l.finding-index l.findings)
