use Rattle.mpf_madt.proofs.FaultLemmas.{IsMadt-unique}
use Rattle.mpf_madt.proofs.laws.bytes_are_one_madt.Goals as goal

pub returns : goal.returns
returns c = IsMadt-unique
