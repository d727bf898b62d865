use Rattle.mpt_write.proofs.PieceLemmas.{nothing}
use Rattle.mpt_write.proofs.image.put_block.Goals as goal

pub returns-in-Default : goal.returns-in-Default
returns-in-Default c = rw c.in-Default.is (nothing c.args.image.now c.args.tables.now.pointer.address)
