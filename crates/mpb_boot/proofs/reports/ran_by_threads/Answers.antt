use Rattle.std.proofs.Common.{ℕ, IfOk, subst}
use Rattle.mpb_spec.specs.Plan.{Plan}
use Rattle.mpb_spec.specs.Configs.{IsStartableAt}
use Rattle.mpb_start_laws.specs.Starts.{IsStartedOnce}
use Rattle.mpb_boot.proofs.reports.ran_by_threads.Goals as goal

pub returns-in-Ok-clause-started : goal.returns-in-Ok-clause-started
returns-in-Ok-clause-started g c = subst (λ (p : Plan). IfOk c.threads.result (λ ran. (page : ℕ) → IsStartableAt page p → IsStartedOnce page p ran.board.journal)) c.in-Ok.ensures.plan c.threads.ensures.started
