use Rattle.std.proofs.Common.{subst}
use Rattle.mpb_spec.specs.Plan.{Plan}
use Rattle.mpb_spec.specs.Configs.{IsConfig}
use Rattle.mpb_spec.specs.Journal.{IsComplete}
use Rattle.mpb_start_laws.proofs.StartedOnce.{started_once}
use Rattle.mpb_crew.proofs.by_threads.threads.Goals as goal

pub returns-clause-started : goal.returns-clause-started
returns-clause-started g c page startable =
    let journal = c.run.result.board.journal in
    let same = c.in-Ok.ensures.bus in
    started_once page c.args.board.plan journal (subst (λ (p : Plan). IsConfig p) same c.in-Ok.ensures.config) startable (subst (λ (p : Plan). IsComplete p journal) same c.run.ensures.complete)
