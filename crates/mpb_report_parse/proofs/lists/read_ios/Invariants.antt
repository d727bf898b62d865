use Rattle.std.proofs.Common.{◌≡◌, ◌++◌, length}
use Rattle.mpb_report_line.specs.Lines.{io_text}
use Rattle.mpb_report_parse.specs.Languages.{run_text, AreRightFrom, up, IsIoAt}
use Rattle.mpb_report_parse.proofs.lists.read_ios.Given as goal

abbrev pub invariant-loop-place : goal.invariant-loop-place
invariant-loop-place l = (l.text ≡ run_text io_text up 0 l.ios.items ++ l.rest) × AreRightFrom IsIoAt up 0 l.ios.items × (length l.ios.items ≡ l.place)
