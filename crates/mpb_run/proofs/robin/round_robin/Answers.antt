use Rattle.std.proofs.Common.{◌≡◌, ◌∙◌, refl, ap, subst}
use Rattle.mpb_spec.specs.Plan.{Plan}
use Rattle.mpb_spec.specs.Pulses.{logs_of, counts_of}
use Rattle.mpb_robin.specs.RoundRobin.{Run, IsRoundRobinEnd}
use Rattle.mpb_run.proofs.RobinLemmas.{ends_keep_plan, is_complete, has_accounts, counts_each, counts_shape, started_once_at}
use Rattle.mpb_run.proofs.robin.round_robin.Goals as goal

-- the run is the end of the round robin of the board's plan
end_of : (p : Plan) (r end : Run) → r.plan ≡ p → IsRoundRobinEnd r.plan end → IsRoundRobinEnd p end
end_of p r end e h = subst (λ (q : Plan). IsRoundRobinEnd q end) e h

pub returns-clause-complete : goal.returns-clause-complete
returns-clause-complete c =
    let p = c.args.board.plan in
    let end = c.run_to_end.result in
    is_complete p end c.ran.result.board.journal (logs_of c.ran.result.account) (counts_of c.ran.result.account) c.config.ensures.kept c.config.ensures.small
    (end_of p c.in-Ok-new.run' end (ap (λ (q : Run). q.plan) c.in-Ok-new.ensures) c.run_to_end.ensures) c.ran.ensures.board.1 c.ran.ensures.logs c.ran.ensures.counts

pub returns-clause-accounts : goal.returns-clause-accounts
returns-clause-accounts c =
    let p = c.args.board.plan in
    let end = c.run_to_end.result in
    has_accounts p end c.ran.result.board.journal (logs_of c.ran.result.account) (counts_of c.ran.result.account) c.config.ensures.kept c.config.ensures.small
    (end_of p c.in-Ok-new.run' end (ap (λ (q : Run). q.plan) c.in-Ok-new.ensures) c.run_to_end.ensures) c.ran.ensures.board.1 c.ran.ensures.logs c.ran.ensures.counts

pub returns-clause-collected : goal.returns-clause-collected
returns-clause-collected c =
    let p = c.args.board.plan in
    let end = c.run_to_end.result in
    counts_each p end c.ran.result.board.journal (logs_of c.ran.result.account) (counts_of c.ran.result.account) c.config.ensures.kept c.config.ensures.small
    (end_of p c.in-Ok-new.run' end (ap (λ (q : Run). q.plan) c.in-Ok-new.ensures) c.run_to_end.ensures) c.ran.ensures.board.1 c.ran.ensures.logs c.ran.ensures.counts

pub returns-clause-started : goal.returns-clause-started
returns-clause-started c =
    let p = c.args.board.plan in
    let end = c.run_to_end.result in
    started_once_at p end c.ran.result.board.journal (logs_of c.ran.result.account) (counts_of c.ran.result.account) c.config.ensures.kept c.config.ensures.small
    (end_of p c.in-Ok-new.run' end (ap (λ (q : Run). q.plan) c.in-Ok-new.ensures) c.run_to_end.ensures) c.ran.ensures.board.1 c.ran.ensures.logs c.ran.ensures.counts

pub returns-clause-plan : goal.returns-clause-plan
returns-clause-plan c =
    let p = c.args.board.plan in
    let end = c.run_to_end.result in
    c.ran.ensures.board.0 ∙ ends_keep_plan p end c.config.ensures.kept c.config.ensures.small (end_of p c.in-Ok-new.run' end (ap (λ (q : Run). q.plan) c.in-Ok-new.ensures) c.run_to_end.ensures)

pub returns-clause-shape : goal.returns-clause-shape
returns-clause-shape c =
    let p = c.args.board.plan in
    let end = c.run_to_end.result in
    counts_shape p end c.ran.result.board.journal (logs_of c.ran.result.account) (counts_of c.ran.result.account) c.config.ensures.kept c.config.ensures.small
    (end_of p c.in-Ok-new.run' end (ap (λ (q : Run). q.plan) c.in-Ok-new.ensures) c.run_to_end.ensures) c.ran.ensures.board.1 c.ran.ensures.logs c.ran.ensures.counts c.ran.result.account refl
