use Rattle.std.proofs.Common.{refl}
use Rattle.mpt_laws.proofs.ExampleLemmas.{IsCanonical-board, FitsInImage-board}
use Rattle.mpt_laws.proofs.examples.board_is_canonical.Goals as goal

pub returns-clause-bytes : goal.returns-clause-bytes
returns-clause-bytes c = refl

pub returns-clause-size : goal.returns-clause-size
returns-clause-size c = refl

pub returns-clause-canonical : goal.returns-clause-canonical
returns-clause-canonical c = IsCanonical-board

pub returns-clause-unchanged : goal.returns-clause-unchanged
returns-clause-unchanged c = refl

pub returns-clause-fits : goal.returns-clause-fits
returns-clause-fits c = FitsInImage-board
