use Rattle.mpt_line.proofs.Exact.{begins, begins_none}
use Rattle.mpb_report_line.proofs.StateForms.{io-exact}
use Rattle.mpb_report_line.proofs.io_lines.read_io_line.Goals as goal

pub returns-clause-some : goal.returns-clause-some
returns-clause-some c = begins (io-exact c.args.place) (λ x. (x.0, x.1.now)) c.args.text.now c.read_io.result c.read_io.ensures

pub returns-clause-none : goal.returns-clause-none
returns-clause-none c = begins_none (io-exact c.args.place) (λ x. (x.0, x.1.now)) c.args.text.now c.read_io.result c.read_io.ensures
