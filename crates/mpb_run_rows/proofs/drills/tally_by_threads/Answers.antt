use Rattle.std.proofs.Common.{◌<◌, ◌^◌, sym, subst}
use Rattle.mpb_spec.specs.Plan.{Plan, plan_size}
use Rattle.mpb_spec.specs.Pulses.{logs_of}
use Rattle.mpb_tally.proofs.CountLemmas.{few_hits}
use Rattle.mpb_run_rows.proofs.drills.tally_by_threads.Goals as goal

pub tally_of-requires : goal.tally_of-requires
tally_of-requires g c =
    let plan = c.in_ok-board.board.plan in
    let small : plan_size plan < 2 ^ 32 = subst (λ (p : Plan). plan_size p < 2 ^ 32) (sym c.in_ok-board.ensures.plan) c.requires in
    record { few = few_hits plan c.in_ok-ran.ran.board.journal (logs_of c.in_ok-ran.ran.account) c.in_ok-ran.ensures.accounts small }
