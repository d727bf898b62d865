use Rattle.mpf_pir.proofs.OneLemmas.{IsPir-bytes_one}
use Rattle.mpf_pir.proofs.laws.bytes_are_one.Goals as goal

pub returns : goal.returns
returns c = IsPir-bytes_one
