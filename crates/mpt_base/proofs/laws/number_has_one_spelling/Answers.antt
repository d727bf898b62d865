use Rattle.mpt_base.proofs.Digits.{one_spelling}
use Rattle.mpt_base.proofs.laws.number_has_one_spelling.Goals as goal

pub returns : goal.returns
returns c = one_spelling
