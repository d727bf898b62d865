use Rattle.std.proofs.Common.{◌≡◌, ◌++◌, take}
use Rattle.std.specs.List.{flat_map}
use Rattle.mpb_report_spec.specs.EntryLines.{further_outcome}
use Rattle.mpb_report.proofs.entry_lines.push_outcomes.Given as goal

abbrev pub invariant-loop-outcome : goal.invariant-loop-outcome
invariant-loop-outcome l = l.out.items ≡ l.initial.out.items ++ flat_map further_outcome (take l.outcome-index l.outcomes)
