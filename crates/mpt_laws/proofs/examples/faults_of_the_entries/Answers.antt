use Rattle.mpt_laws.proofs.FaultExamples.{IsFirstFault-cut_entry, IsFirstFault-unknown_entry, IsFirstFault-bad_ext_type, IsFirstFault-cut_ext_entry}
use Rattle.mpt_laws.proofs.examples.faults_of_the_entries.Goals as goal

pub returns-clause-cut_entry : goal.returns-clause-cut_entry
returns-clause-cut_entry c = IsFirstFault-cut_entry

pub returns-clause-unknown_entry : goal.returns-clause-unknown_entry
returns-clause-unknown_entry c = IsFirstFault-unknown_entry

pub returns-clause-bad_ext_type : goal.returns-clause-bad_ext_type
returns-clause-bad_ext_type c = IsFirstFault-bad_ext_type

pub returns-clause-cut_ext_entry : goal.returns-clause-cut_ext_entry
returns-clause-cut_ext_entry c = IsFirstFault-cut_ext_entry
