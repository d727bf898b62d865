use Rattle.std.proofs.Common.{refl}
use Rattle.mpt_laws.proofs.examples.bytes_of_one_processor.Goals as goal

pub returns-clause-table : goal.returns-clause-table
returns-clause-table c = refl

pub returns-clause-pointer : goal.returns-clause-pointer
returns-clause-pointer c = refl

pub returns-clause-high_pointer : goal.returns-clause-high_pointer
returns-clause-high_pointer c = refl
