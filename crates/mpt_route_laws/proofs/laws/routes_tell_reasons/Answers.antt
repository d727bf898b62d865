use Rattle.mpt_route.proofs.ReasonLemmas.{are_routes}
use Rattle.mpt_route_laws.proofs.laws.routes_tell_reasons.Goals as goal

pub returns : goal.returns
returns c = are_routes
