use Rattle.std.proofs.Common.{◌≡◌, ◌-◌, length}
use Rattle.mpb_report_line.specs.Reading.{run_of}
use Rattle.mpb_report_line.specs.Forms.{outcome_in}
use Rattle.mpb_report_line.proofs.RunLemmas.{IsRunFrom}
use Rattle.mpb_report_line.proofs.outcomes.read_run.Given as goal

abbrev pub invariant-loop-i : goal.invariant-loop-i
invariant-loop-i l = IsRunFrom outcome_in l.outcomes.items (8 - l._i) l.rest (run_of outcome_in 8 l.line).0 (run_of outcome_in 8 l.line).1 × (length l.outcomes.items ≡ l._i)
