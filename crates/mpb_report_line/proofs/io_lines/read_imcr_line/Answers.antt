use Rattle.mpt_line.proofs.Exact.{begins, begins_none}
use Rattle.mpb_report_line.proofs.StateForms.{imcr-exact}
use Rattle.mpb_report_line.proofs.io_lines.read_imcr_line.Goals as goal

pub returns-clause-some : goal.returns-clause-some
returns-clause-some c = begins imcr-exact (λ x. (x.0, x.1.now)) c.args.text.now c.read_imcr.result c.read_imcr.ensures

pub returns-clause-none : goal.returns-clause-none
returns-clause-none c = begins_none imcr-exact (λ x. (x.0, x.1.now)) c.args.text.now c.read_imcr.result c.read_imcr.ensures
