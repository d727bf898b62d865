use Rattle.mpt_route_laws.proofs.OneLemmas.{routes_one}
use Rattle.mpt_route_laws.proofs.laws.routes_are_one.Goals as goal

pub returns : goal.returns
returns c = routes_one
