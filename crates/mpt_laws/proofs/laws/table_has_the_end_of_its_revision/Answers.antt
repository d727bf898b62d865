use Rattle.mpt_laws.proofs.RevisionLaws.{IsConfigurationTable-end}
use Rattle.mpt_laws.proofs.laws.table_has_the_end_of_its_revision.Goals as goal

pub returns : goal.returns
returns c = IsConfigurationTable-end
