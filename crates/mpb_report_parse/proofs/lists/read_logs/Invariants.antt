use Rattle.std.proofs.Common.{◌≡◌, ◌++◌, length}
use Rattle.mpb_report_spec.specs.LogLines.{log_line}
use Rattle.mpb_report_parse.specs.Languages.{run_text, AreRightFrom, up, IsLogAt}
use Rattle.mpb_report_parse.proofs.lists.read_logs.Given as goal

abbrev pub invariant-loop-number : goal.invariant-loop-number
invariant-loop-number l = (l.text ≡ run_text log_line up 0 l.logs.items ++ l.rest) × AreRightFrom IsLogAt up 0 l.logs.items × (length l.logs.items ≡ l.number)
