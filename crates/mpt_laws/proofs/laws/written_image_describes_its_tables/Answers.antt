use Rattle.mpt_spec.proofs.WrittenImageLemmas.{length-image_of, Describes-image_of}
use Rattle.mpt_laws.proofs.laws.written_image_describes_its_tables.Goals as goal

pub returns-clause-size : goal.returns-clause-size
returns-clause-size c = length-image_of

pub returns-clause-describes : goal.returns-clause-describes
returns-clause-describes c = Describes-image_of
