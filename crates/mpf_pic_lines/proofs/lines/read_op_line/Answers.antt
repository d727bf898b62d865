use Rattle.mpt_line.proofs.Exact.{begins, begins_none}
use Rattle.mpf_pic_lines.proofs.OpForms.{op-exact}
use Rattle.mpf_pic_lines.proofs.lines.read_op_line.Goals as goal

pub returns-clause-some : goal.returns-clause-some
returns-clause-some c = begins op-exact (λ x. (x.0, x.1.now)) c.args.text.now c.read_op.result c.read_op.ensures

pub returns-clause-none : goal.returns-clause-none
returns-clause-none c = begins_none op-exact (λ x. (x.0, x.1.now)) c.args.text.now c.read_op.result c.read_op.ensures
