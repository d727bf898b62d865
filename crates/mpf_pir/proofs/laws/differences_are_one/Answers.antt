use Rattle.mpf_pir.proofs.OrderLemmas.{differences-one}
use Rattle.mpf_pir.proofs.laws.differences_are_one.Goals as goal

pub returns : goal.returns
returns c = differences-one
