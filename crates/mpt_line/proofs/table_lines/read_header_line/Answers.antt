use Rattle.mpt_line.proofs.Exact.{begins, begins_none}
use Rattle.mpt_line.proofs.TableForms.{header-exact}
use Rattle.mpt_line.proofs.table_lines.read_header_line.Goals as goal

pub returns-clause-some : goal.returns-clause-some
returns-clause-some c = begins header-exact (λ x. (x.0, x.1.now)) c.args.text.now c.read_header.result c.read_header.ensures

pub returns-clause-none : goal.returns-clause-none
returns-clause-none c = begins_none header-exact (λ x. (x.0, x.1.now)) c.args.text.now c.read_header.result c.read_header.ensures
