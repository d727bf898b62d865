use Rattle.std.proofs.Common.{◌++◌, ◌-◌}
use Rattle.mpt_line.specs.Reading.{run_in}
use Rattle.mpt_line.proofs.RunLemmas.{IsRunOf}
use Rattle.mpt_line.proofs.ext_lines.push_run.Given as goal

abbrev pub invariant-loop-i : goal.invariant-loop-i
invariant-loop-i l = IsRunOf l.out.items (l.limit - l._i) l.rest (l.fn.out.items ++ (run_in l.limit l.line).0) (run_in l.limit l.line).1
