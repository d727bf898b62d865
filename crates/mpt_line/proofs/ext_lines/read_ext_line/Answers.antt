use Rattle.mpt_line.proofs.Exact.{ok_begins, ok_begins_none}
use Rattle.mpt_line.proofs.ExtForms.{ext-exact}
use Rattle.mpt_line.proofs.ext_lines.read_ext_line.Goals as goal

pub returns-clause-some : goal.returns-clause-some
returns-clause-some c = ok_begins ext-exact (λ x. (x.0, x.1.now)) c.args.text.now c.read_ext.result c.read_ext.ensures

pub returns-clause-none : goal.returns-clause-none
returns-clause-none c = ok_begins_none ext-exact (λ x. (x.0, x.1.now)) c.args.text.now c.read_ext.result c.read_ext.ensures
