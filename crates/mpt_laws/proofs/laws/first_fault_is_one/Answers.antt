use Rattle.mpt_spec.proofs.FaultLemmas.{IsFirstFault-unique}
use Rattle.mpt_laws.proofs.laws.first_fault_is_one.Goals as goal

pub returns : goal.returns
returns c = IsFirstFault-unique
