use Rattle.mpt_parse.proofs.EntryLines.{none_follow, read_follow}
use Rattle.mpt_parse.proofs.entries.read_ext_part.Goals as goal

pub returns-then-header-eq-OLD_REVISION : goal.returns-then-header-eq-OLD_REVISION
returns-then-header-eq-OLD_REVISION c = rw c.new.ensures.items (none_follow c.args.header.now c.args.text.now c.if-header-eq-OLD_REVISION.true)

pub returns : goal.returns
returns c = read_follow (λ x. x.0.items) (λ x. x.1.now) c.args.header.now c.args.text.now c.if-header-eq-OLD_REVISION.false c.read_ext_lines.result c.read_ext_lines.ensures
