use Rattle.std.proofs.Common.{refl}
use Rattle.mpt_laws.proofs.ExampleLemmas.{Describes-old}
use Rattle.mpt_laws.proofs.examples.tables_of_revision_1.Goals as goal

pub returns-clause-bytes : goal.returns-clause-bytes
returns-clause-bytes c = refl

pub returns-clause-describes : goal.returns-clause-describes
returns-clause-describes c = Describes-old

pub returns-clause-raised : goal.returns-clause-raised
returns-clause-raised c = refl

pub returns-clause-canonical : goal.returns-clause-canonical
returns-clause-canonical c = refl
