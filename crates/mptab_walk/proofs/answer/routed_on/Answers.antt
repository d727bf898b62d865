use Rattle.std.proofs.Common.{refl}
use Rattle.mptab_walk.proofs.answer.routed_on.Goals as goal

pub returns-in-Ok-print_routes : goal.returns-in-Ok-print_routes
returns-in-Ok-print_routes c = (refl, rw (c.as_slice.ensures.value, c.in-Ok.ensures.answers) at c.in-Ok-print_routes.ensures)
