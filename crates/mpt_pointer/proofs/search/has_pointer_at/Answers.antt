use Rattle.mpt_pointer.proofs.FirstLemmas.{is_some_where_there}
use Rattle.mpt_pointer.proofs.search.has_pointer_at.Goals as goal

pub returns : goal.returns
returns c = rw c.is_some.ensures (is_some_where_there c.args.image.now c.args.at c.pointer_at.result c.pointer_at.ensures.some c.pointer_at.ensures.none)
