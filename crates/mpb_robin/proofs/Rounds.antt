-- Turns keep what holds of a run, and so do rounds, each of which does more.
use Rattle.std.proofs.Common.{◌≡◌, ℕ, zero, suc, ◌^◌, ◌<◌, refl, ◌∙◌}
use Rattle.mpb_spec.specs.declared.agent.Agent.{Agent}
use Rattle.mpb_spec.specs.Plan.{Plan, plan_size}
use Rattle.mpb_spec.specs.Configs.{IsConfig}
use Rattle.mpb_spec.specs.May.{IsQuiescent}
use Rattle.mpb_robin.specs.RoundRobin.{Run, state_in, turn, round, rounds, first_run}
use Rattle.mpb_robin.specs.Rest.{IsRun, IsAgentOf, done_in}
use Rattle.mpb_robin.proofs.TurnsKeep.{first_is, turn_keeps_if}
use Rattle.mpb_robin.proofs.Collects.{may_collect}
use Rattle.mpb_robin.proofs.Progress.{goes_on_if, round_is}

pub turn_keeps : (r : Run) (g : Agent) → IsRun r → IsAgentOf r.plan g → IsRun (turn g r)
turn_keeps r g is on = turn_keeps_if may_collect r g is on

pub goes_on : (r : Run) → IsRun r → ¬ IsQuiescent (state_in r) → done_in r < done_in (round r)
goes_on r is busy = goes_on_if turn_keeps r is busy

-- what holds after so many rounds
pub record IsRunOf (c : Plan) (r : Run) : Type 0 where
  pub run : IsRun r
  pub plan : r.plan ≡ c

pub rounds_are : (c : Plan) → IsConfig c → plan_size c < 2 ^ 32 → (n : ℕ) → IsRunOf c (rounds n (first_run c))
rounds_are c config small zero = record { run = first_is c config small; plan = refl }
rounds_are c config small (suc n) =
    let h = rounds_are c config small n in
    let next = round_is turn_keeps (rounds n (first_run c)) h.run in
    record { run = next.run; plan = next.plan ∙ h.plan }
