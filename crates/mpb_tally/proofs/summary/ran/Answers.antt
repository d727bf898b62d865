use Rattle.std.proofs.Common.{◌<◌, ◌^◌, sym, subst, length}
use Rattle.std.specs.Prelude.{sum_by}
use Rattle.mpb_spec.specs.Plan.{Plan, plan_size}
use Rattle.mpb_spec.specs.Pulses.{logs_of}
use Rattle.mpb_robin.specs.Account.{AccountsForPulses}
use Rattle.mpb_tally.proofs.CountLemmas.{few_hits, answer_only}
use Rattle.mpb_tally.proofs.summary.ran.Goals as goal

pub returns-in-Ok-clause-few : goal.returns-in-Ok-clause-few
returns-in-Ok-clause-few c =
    let plan = c.in-Ok.board.plan in
    let small : plan_size plan < 2 ^ 32 = subst (λ (p : Plan). plan_size p < 2 ^ 32) (sym c.in-Ok.ensures.plan) c.requires.small in
    answer_only c.round_robin.result (λ ran. AccountsForPulses plan ran.board.journal (logs_of ran.account)) (λ ran. sum_by length (logs_of ran.account) < 2 ^ 32)
    (λ ran accounts. few_hits plan ran.board.journal (logs_of ran.account) accounts small) c.round_robin.ensures.accounts
