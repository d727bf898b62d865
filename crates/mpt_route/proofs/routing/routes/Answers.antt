use Rattle.mpt_route.proofs.ReasonLemmas.{are_routes_at}
use Rattle.mpt_route.proofs.routing.routes.Goals as goal

pub returns-in-Ok-clause-reasons : goal.returns-in-Ok-clause-reasons
returns-in-Ok-clause-reasons c = are_routes_at c.args.p.now c.args.elcr c.in-Ok.answers.items c.in-Ok.ensures
