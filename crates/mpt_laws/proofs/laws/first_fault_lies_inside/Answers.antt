use Rattle.mpt_spec.proofs.FaultLemmas.{IsFirstFault-inside}
use Rattle.mpt_laws.proofs.laws.first_fault_lies_inside.Goals as goal

pub returns : goal.returns
returns c = IsFirstFault-inside
