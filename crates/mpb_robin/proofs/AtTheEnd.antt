-- The journal of a round robin is complete, and its logs account for all pulses.
use Rattle.std.proofs.Common.{◌^◌, ◌<◌, List, sym, subst}
use Rattle.mpb_spec.specs.declared.entry.Entry.{Entry}
use Rattle.mpb_spec.specs.Plan.{Plan, plan_size}
use Rattle.mpb_spec.specs.Configs.{IsConfig}
use Rattle.mpb_spec.specs.Journal.{IsComplete}
use Rattle.mpb_spec.specs.declared.pulse.Pulse.{Pulse}
use Rattle.mpb_spec.specs.declared.pulse.Hit.{Hit}
use Rattle.mpb_robin.specs.Account.{AccountsForPulses}
use Rattle.mpb_robin.specs.RoundRobin.{Run, IsRoundRobinEnd, IsRoundRobinOf}
use Rattle.mpb_robin.proofs.Rounds.{IsRunOf, rounds_are}
use Rattle.mpb_robin.proofs.Ends.{complete, accounts}

run-of : (c : Plan) (r : Run) → IsConfig c → plan_size c < 2 ^ 32 → IsRoundRobinEnd c r → IsRunOf c r
run-of c r config small end = subst (λ (s : Run). IsRunOf c s) (sym end.run) (rounds_are c config small end.count)

pub is_complete : (c : Plan) (journal : List Entry) (logs : List (List (Pulse × Hit))) → IsConfig c → plan_size c < 2 ^ 32 → IsRoundRobinOf c journal logs → IsComplete c journal
is_complete c journal logs config small is =
    let h = run-of c is.0 config small is.1 in
    subst (λ (d : Plan). IsComplete d journal) h.plan (subst (λ (xs : List Entry). IsComplete is.0.plan xs) is.2 (complete is.0 h.run is.1.quiet))

pub is_accounted : (c : Plan) (journal : List Entry) (logs : List (List (Pulse × Hit))) → IsConfig c → plan_size c < 2 ^ 32 → IsRoundRobinOf c journal logs → AccountsForPulses c journal logs
is_accounted c journal logs config small is =
    let h = run-of c is.0 config small is.1 in
    subst (λ (d : Plan). AccountsForPulses d journal logs) h.plan
    (subst (λ (xs : List Entry). AccountsForPulses is.0.plan xs logs) is.2
    (subst (λ (ls : List (List (Pulse × Hit))). AccountsForPulses is.0.plan is.0.journal ls) is.3 (accounts is.0 h.run is.1.quiet)))
