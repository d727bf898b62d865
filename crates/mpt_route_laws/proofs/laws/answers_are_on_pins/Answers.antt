use Rattle.mpt_route_laws.proofs.RowLemmas.{all_on_pins}
use Rattle.mpt_route_laws.proofs.laws.answers_are_on_pins.Goals as goal

pub returns : goal.returns
returns c = all_on_pins
