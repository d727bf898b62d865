use Rattle.mpt_parse.proofs.FitLemmas.{block_small}
use Rattle.mpt_parse.proofs.parsing.fitting_tables.Goals as goal

pub block_bytes-requires : goal.block_bytes-requires
block_bytes-requires c = block_small c.in-Ok.tables c.args.text.now c.in-Ok.ensures.tables c.requires
