use Rattle.mpt_line.proofs.Exact.{begins, begins_none}
use Rattle.mpt_line.proofs.BaseForms.{base-exact}
use Rattle.mpt_line.proofs.base_lines.read_base_line.Goals as goal

pub returns-clause-some : goal.returns-clause-some
returns-clause-some c = begins base-exact (λ x. (x.0, x.1.now)) c.args.text.now c.read_base.result c.read_base.ensures

pub returns-clause-none : goal.returns-clause-none
returns-clause-none c = begins_none base-exact (λ x. (x.0, x.1.now)) c.args.text.now c.read_base.result c.read_base.ensures
