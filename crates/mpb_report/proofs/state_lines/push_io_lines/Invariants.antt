use Rattle.std.proofs.Common.{◌≡◌, ◌++◌, take}
use Rattle.std.specs.List.{concat}
use Rattle.mpb_board.specs.BoardView.{state_of}
use Rattle.mpb_report_spec.specs.Numbered.{numbered}
use Rattle.mpb_report_spec.specs.StateLines.{place_line}
use Rattle.mpb_report.proofs.state_lines.push_io_lines.Given as goal

abbrev pub invariant-loop-place : goal.invariant-loop-place
invariant-loop-place l = l.out.items ≡ l.initial.out.items ++ concat (numbered place_line 0 (take l.place (state_of l.board).places))
