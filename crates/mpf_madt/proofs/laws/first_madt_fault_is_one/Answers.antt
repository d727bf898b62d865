use Rattle.mpf_madt.proofs.FaultLemmas.{IsMadt-no_fault, IsFirstMadtFault-unique}
use Rattle.mpf_madt.proofs.laws.first_madt_fault_is_one.Goals as goal

pub returns-clause-one : goal.returns-clause-one
returns-clause-one c = IsFirstMadtFault-unique

pub returns-clause-none : goal.returns-clause-none
returns-clause-none c m bytes k w t f = IsMadt-no_fault m bytes k w t f.stands
