use Rattle.mpt_spec.proofs.FaultLemmas.{Describes-no_fault, Describes-no_first_fault}
use Rattle.mpt_laws.proofs.laws.described_image_has_no_fault.Goals as goal

pub returns-clause-none_stands : goal.returns-clause-none_stands
returns-clause-none_stands c = Describes-no_fault

pub returns-clause-none_first : goal.returns-clause-none_first
returns-clause-none_first c = Describes-no_first_fault
