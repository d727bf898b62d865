use Rattle.std.proofs.Common.{refl}
use Rattle.mpt_laws.proofs.ExampleLemmas.{Describes-small}
use Rattle.mpt_laws.proofs.examples.small_image_describes_its_table.Goals as goal

pub returns-clause-size : goal.returns-clause-size
returns-clause-size c = refl

pub returns-clause-describes : goal.returns-clause-describes
returns-clause-describes c = Describes-small
