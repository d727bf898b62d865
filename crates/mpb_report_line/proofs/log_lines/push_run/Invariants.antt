use Rattle.std.proofs.Common.{◌++◌, ◌-◌, length}
use Rattle.mpb_report_line.specs.Reading.{run_of}
use Rattle.mpb_report_line.specs.Forms.{pulse_in}
use Rattle.mpb_report_line.proofs.RunLemmas.{IsRunFrom}
use Rattle.mpb_report_line.proofs.log_lines.push_run.Given as goal

abbrev pub invariant-loop-i : goal.invariant-loop-i
invariant-loop-i l = IsRunFrom pulse_in l.pulses.items (length l.line - l._i) l.rest (l.fn.pulses.items ++ (run_of pulse_in (length l.line) l.line).0) (run_of pulse_in (length l.line) l.line).1
