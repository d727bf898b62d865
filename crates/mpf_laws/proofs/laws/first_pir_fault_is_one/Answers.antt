use Rattle.mpf_pir.proofs.FaultLemmas.{IsPir-faultless}
use Rattle.mpf_laws.proofs.PirJudgment.{IsFirstPirFault-unique}
use Rattle.mpf_laws.proofs.laws.first_pir_fault_is_one.Goals as goal

pub returns-clause-one : goal.returns-clause-one
returns-clause-one c = IsFirstPirFault-unique

pub returns-clause-none : goal.returns-clause-none
returns-clause-none c t bytes k w is f = IsPir-faultless t bytes is k w f.stands
