use Rattle.mpt_route.proofs.PinLemmas.{takes_pins_once}
use Rattle.mpt_route_laws.proofs.laws.pins_are_taken_once.Goals as goal

pub returns : goal.returns
returns c = takes_pins_once
