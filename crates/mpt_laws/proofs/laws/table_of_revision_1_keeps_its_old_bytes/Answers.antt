use Rattle.mpt_laws.proofs.RevisionLaws.{table_bytes-old, table_bytes-old_back}
use Rattle.mpt_laws.proofs.laws.table_of_revision_1_keeps_its_old_bytes.Goals as goal

pub returns-clause-kept : goal.returns-clause-kept
returns-clause-kept c = table_bytes-old

pub returns-clause-back : goal.returns-clause-back
returns-clause-back c = table_bytes-old_back
