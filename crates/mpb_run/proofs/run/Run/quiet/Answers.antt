use Rattle.std.proofs.Common.{◌↔◌, IsTrue, subst}
use Rattle.mpb_spec.specs.May.{IsQuiescent}
use Rattle.mpb_robin.specs.RoundRobin.{Run, state_in}
use Rattle.mpb_run.proofs.run.Run.quiet.Goals as goal

pub returns : goal.returns
returns c = subst (λ (r : Run). IsTrue c.quiet.result ↔ IsQuiescent (state_in r)) c.self.view_is c.quiet.ensures.quiet
