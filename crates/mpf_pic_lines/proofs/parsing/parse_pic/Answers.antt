use Rattle.mpf_pic_lines.proofs.TextLemmas.{only_these, only_this, playable}
use Rattle.mpf_pic_lines.proofs.parsing.parse_pic.Goals as goal

pub returns-clause-only_ops : goal.returns-clause-only_ops
returns-clause-only_ops c = only_these (λ v. v.items) c.args.text.now c.read_ops.result c.read_ops.ensures.ops c.read_ops.ensures.fault

pub returns-clause-only_line : goal.returns-clause-only_line
returns-clause-only_line c = only_this (λ v. v.items) c.args.text.now c.read_ops.result c.read_ops.ensures.ops c.read_ops.ensures.fault

pub returns-clause-playable : goal.returns-clause-playable
returns-clause-playable c = playable (λ v. v.items) c.args.text.now c.read_ops.result c.read_ops.ensures.ops
