use Rattle.std.proofs.Common.{◌++◌, ◌-◌}
use Rattle.std.specs.Prelude.{codes}
use Rattle.mpt_line.specs.Reading.{field_in}
use Rattle.mpb_report_line.specs.Reading.{run_of}
use Rattle.mpb_report_line.proofs.RunLemmas.{IsRunFrom}
use Rattle.mpb_report_line.proofs.vectors.push_run.Given as goal

abbrev pub invariant-loop-i : goal.invariant-loop-i
invariant-loop-i l = IsRunFrom (field_in (codes ",") 2) l.vectors.items (255 - l._i) l.rest (l.fn.vectors.items ++ (run_of (field_in (codes ",") 2) 255 l.line).0) (run_of (field_in (codes ",") 2) 255 l.line).1
