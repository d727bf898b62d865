use Rattle.std.proofs.Common.{◌≡◌, ◌++◌, length}
use Rattle.mpb_report_parse.specs.Languages.{run_text, run_end, AreRightFrom, above, IsCpuFrom, cpu_line_at}
use Rattle.mpb_report_parse.proofs.lists.read_cpus.Given as goal

abbrev pub invariant-loop-cpus : goal.invariant-loop-cpus
invariant-loop-cpus l = (l.text ≡ run_text cpu_line_at above 0 l.cpus.items ++ l.rest) × AreRightFrom IsCpuFrom above 0 l.cpus.items × (run_end above 0 l.cpus.items ≡ l.low)

abbrev pub decreases-loop-cpus : goal.decreases-loop-cpus
decreases-loop-cpus l = length l.rest
