use Rattle.std.proofs.Common.{refl}
use Rattle.mpf_laws.proofs.examples.madt_of_a_board.Goals as goal

pub returns-clause-bytes : goal.returns-clause-bytes
returns-clause-bytes c = refl

pub returns-clause-line_0 : goal.returns-clause-line_0
returns-clause-line_0 c = refl

pub returns-clause-line_1 : goal.returns-clause-line_1
returns-clause-line_1 c = refl

pub returns-clause-no_line_2 : goal.returns-clause-no_line_2
returns-clause-no_line_2 c = refl
