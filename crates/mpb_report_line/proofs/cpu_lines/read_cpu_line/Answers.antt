use Rattle.mpt_line.proofs.Exact.{ok_begins, ok_begins_none}
use Rattle.mpb_report_line.proofs.StateForms.{cpu-exact}
use Rattle.mpb_report_line.proofs.cpu_lines.read_cpu_line.Goals as goal

pub returns-clause-some : goal.returns-clause-some
returns-clause-some c = ok_begins cpu-exact (λ x. (x.0, x.1.now)) c.args.text.now c.read_cpu.result c.read_cpu.ensures

pub returns-clause-none : goal.returns-clause-none
returns-clause-none c = ok_begins_none cpu-exact (λ x. (x.0, x.1.now)) c.args.text.now c.read_cpu.result c.read_cpu.ensures
