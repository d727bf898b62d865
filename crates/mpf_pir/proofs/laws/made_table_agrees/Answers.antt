use Rattle.mpf_pir.proofs.MadeLemmas.{made-agrees}
use Rattle.mpf_pir.proofs.laws.made_table_agrees.Goals as goal

pub returns : goal.returns
returns c = made-agrees
