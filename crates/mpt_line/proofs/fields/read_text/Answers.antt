use Rattle.mpt_line.proofs.Exact.{text_begins, text_begins_none}
use Rattle.mpt_line.proofs.fields.read_text.Goals as goal

pub returns-clause-some : goal.returns-clause-some
returns-clause-some c = text_begins (λ rest. rest.now) c.args.text.now c.args.line.now c.read_part.result c.read_part.ensures

pub returns-clause-none : goal.returns-clause-none
returns-clause-none c = text_begins_none (λ rest. rest.now) c.args.text.now c.args.line.now c.read_part.result c.read_part.ensures
