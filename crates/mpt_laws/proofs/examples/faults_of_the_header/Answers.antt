use Rattle.mpt_laws.proofs.FaultExamples.{IsFirstFault-short_length, IsFirstFault-unknown_revision, IsFirstFault-bad_sum, IsFirstFault-bad_count}
use Rattle.mpt_laws.proofs.examples.faults_of_the_header.Goals as goal

pub returns-clause-short_length : goal.returns-clause-short_length
returns-clause-short_length c = IsFirstFault-short_length

pub returns-clause-unknown_revision : goal.returns-clause-unknown_revision
returns-clause-unknown_revision c = IsFirstFault-unknown_revision

pub returns-clause-bad_sum : goal.returns-clause-bad_sum
returns-clause-bad_sum c = IsFirstFault-bad_sum

pub returns-clause-bad_count : goal.returns-clause-bad_count
returns-clause-bad_count c = IsFirstFault-bad_count
