-- Workers before and after their runs: the first and the rest, and all of them in their vector.
use Rattle.std.proofs.Common.{◌≡◌, ℕ, List, [], ◌∷◌, ◌++◌, length, take, drop, map, All, refl, sym, ap, ◌∙◌, subst, arith}
use Rattle.std.specs.List.{IsFirstAndRest}
use Rattle.std.proofs.lemmas.List.{append-nil, drop_all, take_all, length-map}
use Rattle.std.proofs.lemmas.List.Elements.{All-cons, All-head, All-tail, All-map, All-weaker, All-from_recursion}
use Rattle.atomic_table.specs.Seated.{TableId}
use Rattle.mpb_spec.specs.declared.agent.Agent.{Agent}
use Rattle.mpb_spec.specs.Plan.{Plan}
use Rattle.mpb_spec.specs.Agents.{agents_of}
use Rattle.mpb_robin.specs.Rest.{IsAgentOf}
use Rattle.mpb_robin.proofs.Progress.{agents_are}
use Rattle.mpb_crew.specs.Workers.{fresh_worker, IsReady}
use Rattle.mpb_crew.specs.declared.worker.Worker.{Worker}

pub first_is : (P : Worker → Type 0) (xs : List Worker) (x : Worker) (rest : List Worker) → IsFirstAndRest xs x rest → All P xs → P x
first_is P xs x rest f all = All-head P x rest (subst (λ (ys : List Worker). All P ys) f.0 all)

pub rest_are : (P : Worker → Type 0) (xs : List Worker) (x : Worker) (rest : List Worker) → IsFirstAndRest xs x rest → All P xs → All P rest
rest_are P xs x rest f all = All-tail P x rest (subst (λ (ys : List Worker). All P ys) f.0 all)

pub each_is : (P : Worker → Type 0) (x : Worker) (rest : List Worker) → P x → All P rest → All P (x ∷ rest)
each_is P x rest one all = All-cons P x rest one all

-- ---- what was written through a slice of the whole

written-back : (new old : List Worker) (n : ℕ) → length new ≡ length old → n ≡ length old → take n (new ++ drop (length new) old) ≡ new
written-back new old n same long =
    ap (λ (l : List Worker). take n (new ++ l)) (drop_all (length new) old (omega (arith, same))) ∙ (ap (λ (l : List Worker). take n l) (append-nil new) ∙ take_all n new (omega (arith, same, long)))

pub as_long : (new old : List Worker) → map (λ w. w.agent) new ≡ map (λ w. w.agent) old → length new ≡ length old
as_long new old same = sym (length-map new (λ (w : Worker). w.agent)) ∙ (ap (λ gs. length gs) same ∙ length-map old (λ (w : Worker). w.agent))

pub agents_back : (new old : List Worker) (n : ℕ) → map (λ w. w.agent) new ≡ map (λ w. w.agent) old → n ≡ length old → map (λ w. w.agent) (take n (new ++ drop (length new) old)) ≡ map (λ w. w.agent) old
agents_back new old n same long = ap (λ (l : List Worker). map (λ (w : Worker). w.agent) l) (written-back new old n (as_long new old same) long) ∙ same

pub ended_back : (P : Worker → Type 0) (new old : List Worker) (n : ℕ) → map (λ w. w.agent) new ≡ map (λ w. w.agent) old → n ≡ length old → All P new → All P (take n (new ++ drop (length new) old))
ended_back P new old n same long all = subst (λ (l : List Worker). All P l) (sym (written-back new old n (as_long new old same) long)) all

pub long_back : (new old : List Worker) (n : ℕ) → map (λ w. w.agent) new ≡ map (λ w. w.agent) old → n ≡ length old → length (take n (new ++ drop (length new) old)) ≡ length old
long_back new old n same long = ap (λ (l : List Worker). length l) (written-back new old n (as_long new old same) long) ∙ as_long new old same

-- ---- before the run

-- fresh workers are ready
pub all_ready : (bus latch : TableId) (c : Plan) (ws : List Worker) (gs : List Agent) → gs ≡ agents_of c → ws ≡ map (fresh_worker bus latch c) gs → All (IsReady bus latch c) ws
all_ready bus latch c ws gs are so =
    subst (λ (l : List Worker). All (IsReady bus latch c) l) (sym so)
    (All-map (IsReady bus latch c) (fresh_worker bus latch c) gs
    (All-weaker (IsAgentOf c) (λ g. IsReady bus latch c (fresh_worker bus latch c g)) (λ g there. (refl, there)) gs
    (subst (λ (l : List Agent). All (IsAgentOf c) l) (sym are) (All-from_recursion (IsAgentOf c) (agents_of c) (agents_are c)))))

-- and of these agents
pub their_agents : (bus latch : TableId) (c : Plan) (gs : List Agent) → map (λ w. w.agent) (map (fresh_worker bus latch c) gs) ≡ gs
their_agents bus latch c [] = refl
their_agents bus latch c (g ∷ gs) = ap (λ l. g ∷ l) (their_agents bus latch c gs)
