use Rattle.std.proofs.Common.{◌≡◌, ◌++◌, take}
use Rattle.std.specs.List.{concat}
use Rattle.mpb_report_spec.specs.Numbered.{numbered}
use Rattle.mpb_report_spec.specs.LogLines.{log_line}
use Rattle.mpb_report.proofs.log_lines.push_log_lines.Given as goal

abbrev pub invariant-loop-number : goal.invariant-loop-number
invariant-loop-number l = l.out.items ≡ l.initial.out.items ++ concat (numbered (λ k log. log_line k log.items) 0 (take l.number l.logs))
