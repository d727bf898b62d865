use Rattle.mpf_pir.proofs.MadeLemmas.{made-connects}
use Rattle.mpf_pir.proofs.laws.made_table_connects.Goals as goal

pub returns : goal.returns
returns c = made-connects
