use Rattle.std.proofs.Common.{◌≡◌, ◌≤◌, ◌++◌, length}
use Rattle.std.specs.List.{AllByRecursion}
use Rattle.mpb_report_spec.specs.EntryLines.{entry_line}
use Rattle.mpb_report_line.specs.Values.{IsRightEntry}
use Rattle.mpb_report_parse.specs.Languages.{run_text, up}
use Rattle.mpb_report_parse.proofs.lists.read_entries.Given as goal

abbrev pub invariant-loop-rest : goal.invariant-loop-rest
invariant-loop-rest l = (l.text ≡ run_text entry_line up 0 l.entries.items ++ l.rest) × AllByRecursion IsRightEntry l.entries.items × (length l.entries.items ≡ l.number) × (l.number ≤ l.count)

abbrev pub decreases-loop-rest : goal.decreases-loop-rest
decreases-loop-rest l = length l.rest
