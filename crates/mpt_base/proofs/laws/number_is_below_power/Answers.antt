use Rattle.mpt_base.proofs.Digits.{number_at-below}
use Rattle.mpt_base.proofs.laws.number_is_below_power.Goals as goal

pub returns : goal.returns
returns c = number_at-below
