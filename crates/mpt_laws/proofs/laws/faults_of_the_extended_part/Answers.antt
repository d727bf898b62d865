use Rattle.mpt_laws.proofs.RevisionLaws.{IsOfExtPart-new}
use Rattle.mpt_laws.proofs.laws.faults_of_the_extended_part.Goals as goal

pub returns : goal.returns
returns c = IsOfExtPart-new
