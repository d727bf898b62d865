-- A round does more, or all agents are stuck; and no more can be done than the plan allows.
use Rattle.std.proofs.Common.{◌≡◌, ℕ, zero, suc, ◌+◌, ◌<◌, ◌≤◌, ◌⊎◌, inl, inr, List, [], ◌∷◌, ◌++◌, length, map, get_or, fold, refl, sym, ◌∙◌, subst, arith}
use Rattle.std.specs.List.{AllByRecursion, range_with_len}
use Rattle.mpb_spec.specs.declared.agent.Agent.{Agent}
use Rattle.mpb_spec.specs.declared.agent.Agent.TheVariants.{Cpu, Io, Dev}
use Rattle.mpb_spec.specs.declared.config.DevWord.{DevWord}
use Rattle.mpb_spec.specs.Plan.{Plan, CpuPlan, plan_size}
use Rattle.mpb_spec.specs.May.{IsQuiescent}
use Rattle.mpb_spec.specs.Room.{room}
use Rattle.mpb_laws.proofs.RoomSum.{within_room}
use Rattle.mpb_spec.specs.declared.pulse.Pulse.{Pulse}
use Rattle.mpb_spec.specs.declared.pulse.Hit.{Hit}
use Rattle.mpb_robin.specs.RoundRobin.{Run, state_in, turn, round}
use Rattle.mpb_spec.specs.Agents.{agents_of}
use Rattle.mpb_robin.specs.Rest.{IsRun, IsAgentOf, done_in}
use Rattle.mpb_robin.proofs.DeviceActs.{sums-le, log-le}
use Rattle.mpb_robin.proofs.Collects.{device_at}
use Rattle.mpb_robin.proofs.Turns.{IsStuck, does_more, plan_stays}
use Rattle.mpb_robin.proofs.Stuck.{all_stuck, stuck_is_quiet}

-- ---- the agents of a board

joined : {X : Type 0} (P : X → Type 0) (xs ys : List X) → AllByRecursion P xs → AllByRecursion P ys → AllByRecursion P (xs ++ ys)
joined P [] ys p q = q
joined P (x ∷ xs) ys p q = (p.0, joined P xs ys p.1 q)

numbers : {X : Type 0} (P : X → Type 0) (h : ℕ → X) (k n : ℕ) → ((i : ℕ) → i < k + n → P (h i)) → AllByRecursion P (map h (range_with_len k n))
numbers P h k zero each = tt
numbers P h k (suc n) each = (each k (omega arith), numbers P h (k + 1) n (λ i lt. each i (omega (arith, lt))))

cpus-are : (c : Plan) (ps : List CpuPlan) → AllByRecursion (IsAgentOf c) (map (λ p. Cpu p.id) ps)
cpus-are c [] = tt
cpus-are c (p ∷ ps) = (tt, cpus-are c ps)

pub agents_are : (c : Plan) → AllByRecursion (IsAgentOf c) (agents_of c)
agents_are c =
    let ios = numbers (IsAgentOf c) Io 0 (length c.ios) (λ i lt. omega (arith, lt)) in
    let devices = numbers (IsAgentOf c) Dev 0 (length c.devices) (λ i lt. omega (arith, lt)) in
    joined (IsAgentOf c) (map (λ (p : CpuPlan). Cpu p.id) c.cpus) (map Io (range_with_len 0 (length c.ios)) ++ map Dev (range_with_len 0 (length c.devices))) (cpus-are c c.cpus)
    (joined (IsAgentOf c) (map Io (range_with_len 0 (length c.ios))) (map Dev (range_with_len 0 (length c.devices))) ios devices)

-- ---- turns one after another

-- that a turn keeps what holds of a run
abbrev pub TurnsKeep : Type 0
TurnsKeep = (r : Run) (g : Agent) → IsRun r → IsAgentOf r.plan g → IsRun (turn g r)

-- the run after turns of these agents
abbrev turns : List Agent → Run → Run
turns gs r = fold (λ s g. turn g s) r gs

pub record Turned (gs : List Agent) (r s : Run) : Type 0 where
  pub run : IsRun s
  pub plan : s.plan ≡ r.plan
  pub no_less : done_in r ≤ done_in s
  pub more : (done_in r < done_in s) ⊎ AllByRecursion (λ g. IsStuck g r) gs

one-more : (g : Agent) (gs : List Agent) (r t s : Run) → t.plan ≡ r.plan → Turned gs t s → (done_in r < done_in t) ⊎ ((t ≡ r) × IsStuck g r) → Turned (g ∷ gs) r s
one-more g gs r t s plan rest (inl more) = record {
  run = rest.run;
  plan = rest.plan ∙ plan;
  no_less = omega (arith, rest.no_less, more);
  more = inl (omega (arith, rest.no_less, more));
}
one-more g gs r t s plan rest (inr same) =
    let here : Turned gs r s = subst (λ (u : Run). Turned gs u s) same.0 rest in
    record {
      run = here.run;
      plan = here.plan;
      no_less = here.no_less;
      more = elim here.more [ inl more ↦ inl more | inr stuck ↦ inr (same.1, stuck) ];
    }

turned : TurnsKeep → (gs : List Agent) (r : Run) → IsRun r → AllByRecursion (IsAgentOf r.plan) gs → Turned gs r (turns gs r)
turned keeps [] r is on = record { run = is; plan = refl; no_less = omega arith; more = inr tt }
turned keeps (g ∷ gs) r is on =
    let next : AllByRecursion (IsAgentOf (turn g r).plan) gs = subst (λ (c : Plan). AllByRecursion (IsAgentOf c) gs) (sym (plan_stays r g)) on.1 in
    one-more g gs r (turn g r) (turns gs (turn g r)) (plan_stays r g) (turned keeps gs (turn g r) (keeps r g is on.0) next) (does_more r g is on.0)

-- a round
pub round_is : TurnsKeep → (r : Run) → IsRun r → Turned (agents_of r.plan) r (round r)
round_is keeps r is = turned keeps (agents_of r.plan) r is (agents_are r.plan)

pub goes_on_if : TurnsKeep → (r : Run) → IsRun r → ¬ IsQuiescent (state_in r) → done_in r < done_in (round r)
goes_on_if keeps r is busy = elim (round_is keeps r is).more [ inl more ↦ more | inr stuck ↦ absurd (busy (stuck_is_quiet r is (all_stuck r stuck))) ]

-- ---- what there is to do

pub bounded : (r : Run) → IsRun r → done_in r ≤ room r.plan + plan_size r.plan
bounded r is =
    let logs = sums-le (λ (log : List (Pulse × Hit)). length log) (λ (ws : List DevWord). length ws + 2) r.logs r.plan.devices [] [] is.logs
    (λ d lt.
    let v = device_at r d (omega (arith, lt, is.logs)) in
    log-le (get_or r.made d 0) (get_or r.plan.devices d []) (get_or r.logs d []) v.0 (is.each d v.0 v.1)) in
    omega (arith, within_room r.plan r.journal is.config is.legal, logs)
