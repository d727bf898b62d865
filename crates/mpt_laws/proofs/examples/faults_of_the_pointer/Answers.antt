use Rattle.mpt_laws.proofs.FaultExamples.{IsFirstFault-bad_default, IsFirstFault-no_table}
use Rattle.mpt_laws.proofs.examples.faults_of_the_pointer.Goals as goal

pub returns-clause-bad_default : goal.returns-clause-bad_default
returns-clause-bad_default c = IsFirstFault-bad_default

pub returns-clause-no_table : goal.returns-clause-no_table
returns-clause-no_table c = IsFirstFault-no_table
