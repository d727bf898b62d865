-- Seats that come back from their calls and threads, and what a meeting tells.
use Rattle.std.proofs.Common.{◌≡◌, ℕ, zero, suc, ◌+◌, ◌*◌, ◌^◌, ◌<◌, ◌≤◌, Option, Some, None, IfSome, sum_by, List, [], ◌∷◌, ◌++◌, length, get_or, set, map, take, drop, All, refl, sym, ap, ◌∙◌, arith, append_assoc}
use mathlib.Core.Logic.{dite}
use native.Mathlib.Decide.{ℕ_discrete}
use Rattle.std.proofs.lemmas.List.{append-nil, drop_all, take_all, length-set, get_or-set_same, get_or-set_other}
use Rattle.std.proofs.lemmas.List.Elements.{filter-append}
use Rattle.std.proofs.lemmas.List.Sums.{sum_by-le}
use Rattle.mpb_spec.specs.declared.agent.Agent.{Agent}
use Rattle.mpb_spec.specs.declared.config.DevWord.{DevWord}
use Rattle.mpb_spec.specs.Plan.{CpuPlan}
use Rattle.mpb_spec.specs.declared.entry.Entry.{Entry}
use Rattle.mpb_spec.specs.Agents.{is_agent, entries_of, IsPrefix}
use Rattle.mpb_bus.specs.Seats.{AgentSeat, SharedBus, AreSeatsOf}
use Rattle.mpb_latch.specs.Seats.{CollectorSeat}

-- what was written through a slice of the whole
pub written_back : {A : Type 0} (new old : List A) (n : ℕ) → length new ≡ length old → n ≡ length old → take n (new ++ drop (length new) old) ≡ new
written_back new old n same long =
    ap (λ l. take n (new ++ l)) (drop_all (length new) old (omega arith)) ∙ ap (λ l. take n l) (append-nil new) ∙ take_all n new (omega arith)

-- seats that kept their agents one by one
pub kept_agents : (new old : List AgentSeat) → length new ≡ length old → ((i : ℕ) (d : AgentSeat) → i < length old → (get_or new i d).agent ≡ (get_or old i d).agent) → map (λ s. s.agent) new ≡ map (λ s. s.agent) old
kept_agents [] [] n h = refl
kept_agents [] (y ∷ ys) n h = absurd (omega arith)
kept_agents (x ∷ xs) [] n h = absurd (omega arith)
kept_agents (x ∷ xs) (y ∷ ys) n h =
    let head : x.agent ≡ y.agent = h 0 y (omega arith) in
    let tail = kept_agents xs ys (omega arith) (λ i d l. h (suc i) d (omega arith)) in
    λ k. head k ∷ tail k

-- one seat is put back
pub one_put_back : (bus : SharedBus) (seats : List AgentSeat) (i : ℕ) (old new : AgentSeat) → i < length seats → old ≡ get_or seats i old → new.bus ≡ old.bus → new.agent ≡ old.agent → AreSeatsOf bus seats → AreSeatsOf bus (set seats i new)
one_put_back bus seats i old new l is same_bus same_agent all = (agents seats i l is ∙ all.0, buses)
  where
    agents : (xs : List AgentSeat) (i : ℕ) → i < length xs → old ≡ get_or xs i old → map (λ (s : AgentSeat). s.agent) (set xs i new) ≡ map (λ (s : AgentSeat). s.agent) xs
    agents [] i l is = absurd (omega arith)
    agents (x ∷ xs) zero l is = ap (λ a. a ∷ map (λ (s : AgentSeat). s.agent) xs) (same_agent ∙ ap (λ (s : AgentSeat). s.agent) is)
    agents (x ∷ xs) (suc i) l is = ap (λ t. x.agent ∷ t) (agents xs i (omega arith) is)

    buses : All (λ s. s.bus ≡ bus.bus) (set seats i new)
    buses k d m = dite (ℕ_discrete k i)
        (λ e. ap (λ j. (get_or (set seats i new) j d).bus) e ∙ ap (λ (s : AgentSeat). s.bus) (get_or-set_same seats i new d l) ∙ same_bus ∙ ap (λ (s : AgentSeat). s.bus) is ∙ all.1 i old l)
        (λ ne. ap (λ (s : AgentSeat). s.bus) (get_or-set_other seats i k new d ne) ∙ all.1 k d (let n = length-set seats i new in omega arith))

-- what an agent has done stands first among its entries of a journal that goes on from what its seat has seen
pub told_on : (g : Agent) (mine seen journal : List Entry) → mine ≡ entries_of g seen → IsPrefix seen journal → IsPrefix mine (entries_of g journal)
told_on g mine seen journal own p = (
  entries_of g p.0,
  ap (entries_of g) p.1 ∙ filter-append (λ (x : Entry). is_agent x.agent g) seen p.0 ∙ ap (λ l. l ++ entries_of g p.0) (sym own),
)

pub three_more : (mine one two three : List Entry) (x y z : Entry) → one ≡ mine ++ x ∷ [] → two ≡ one ++ y ∷ [] → three ≡ two ++ z ∷ [] → three ≡ mine ++ x ∷ y ∷ z ∷ []
three_more mine one two three x y z a b c =
    c ∙ ap (λ l. l ++ z ∷ []) (b ∙ ap (λ l. l ++ y ∷ []) a ∙ append_assoc mine (x ∷ []) (y ∷ [])) ∙ append_assoc mine (x ∷ y ∷ []) (z ∷ [])

-- few short programs and plans are small
pub few_are_small : (cpus : List CpuPlan) (words : List (List DevWord)) → length cpus ≡ 8 → All (λ p. length p.program ≤ 100) cpus → length words ≡ 4 → All (λ w. length w + 2 ≤ 8) words
    → sum_by (λ (p : CpuPlan). length p.program) cpus + sum_by (λ (w : List DevWord). length w + 2) words < 2 ^ 32
few_are_small cpus words n short m six =
    let a = sum_by-le (λ (p : CpuPlan). length p.program) 100 cpus short in
    let b = sum_by-le (λ (w : List DevWord). length w + 2) 8 words six in
    let a' : length cpus * 100 ≡ 800 = ap (λ k. k * 100) n in
    let b' : length words * 8 ≡ 32 = ap (λ k. k * 8) m in
    omega arith

pub if_some : {A : Type 0} (r : Option A) (P Q : A → Type 0) → ((x : A) → P x → Q x) → IfSome r P → IfSome r Q
if_some (Some x) P Q h p = h x p
if_some None P Q h p = p

-- the places of collectors that were made for them
pub made_places : (make : ℕ → CollectorSeat) → ((n : ℕ) → (make n).io ≡ n) → (xs : List ℕ) → map (λ c. c.io) (map make xs) ≡ xs
made_places make h [] = refl
made_places make h (x ∷ xs) =
    let head : (make x).io ≡ x = h x in
    let tail = made_places make h xs in
    λ k. head k ∷ tail k

-- collectors that kept their places one by one
pub kept_places : (new old : List CollectorSeat) → length new ≡ length old → ((i : ℕ) (d : CollectorSeat) → i < length old → (get_or new i d).io ≡ (get_or old i d).io) → map (λ c. c.io) new ≡ map (λ c. c.io) old
kept_places [] [] n h = refl
kept_places [] (y ∷ ys) n h = absurd (omega arith)
kept_places (x ∷ xs) [] n h = absurd (omega arith)
kept_places (x ∷ xs) (y ∷ ys) n h =
    let head : x.io ≡ y.io = h 0 y (omega arith) in
    let tail = kept_places xs ys (omega arith) (λ i d l. h (suc i) d (omega arith)) in
    λ k. head k ∷ tail k
