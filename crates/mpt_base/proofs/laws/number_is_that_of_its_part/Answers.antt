use Rattle.mpt_base.proofs.Digits.{number_at-part}
use Rattle.mpt_base.proofs.laws.number_is_that_of_its_part.Goals as goal

pub returns : goal.returns
returns c = number_at-part
