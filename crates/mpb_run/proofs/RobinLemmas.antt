-- Turns make a round, and rounds the round robin.
use Rattle.std.proofs.Common.{◌≡◌, ◌<◌, ◌≤◌, ◌+◌, ◌-◌, ◌^◌, ℕ, zero, suc, List, [], ◌∷◌, length, map, take, get_or, fold, All, refl, sym, ap, ◌∙◌, subst, arith}
use Rattle.std.specs.List.{AllByRecursion}
use Rattle.std.proofs.lemmas.List.{take_all, length-map}
use Rattle.mpb_spec.specs.declared.account.Account.{Account}
use Rattle.mpb_spec.specs.Pulses.{HasCountsFor, counts_of}
use Rattle.mpb_run.proofs.ListLemmas.{map_at}
use Rattle.std.proofs.lemmas.List.Sums.{fold_more}
use Rattle.std.proofs.lemmas.Bool.{cases_eq}
use Rattle.std.proofs.Common.{inl, inr}
use Rattle.mpb_spec.specs.declared.agent.Agent.{Agent}
use Rattle.mpb_spec.specs.Plan.{Plan, plan_size}
use Rattle.mpb_spec.specs.declared.entry.Entry.{Entry}
use Rattle.mpb_spec.specs.Configs.{IsConfig, IsStartableAt}
use Rattle.mpb_spec.specs.Journal.{IsComplete}
use Rattle.mpb_start_laws.specs.Starts.{IsStartedOnce}
use Rattle.mpb_start_laws.proofs.StartedOnce.{started_once}
use Rattle.mpb_spec.specs.declared.pulse.Pulse.{Pulse}
use Rattle.mpb_spec.specs.declared.pulse.Hit.{Hit}
use Rattle.mpb_robin.specs.Account.{AccountsForPulses, collected_count}
use Rattle.mpb_robin.proofs.Ends.{complete, accounts}
use Rattle.mpb_spec.specs.Room.{room}
use Rattle.mpb_spec.specs.May.{IsQuiescent}
use Rattle.mpb_robin.specs.RoundRobin.{Run, state_in, turn, round, rounds, first_run, IsRoundRobinEnd, IsRoundRobinOf}
use Rattle.mpb_spec.specs.Agents.{agents_of}
use Rattle.mpb_robin.specs.Rest.{IsRun, IsAgentOf, done_in}
use Rattle.mpb_robin.proofs.Turns.{plan_stays}
use Rattle.mpb_robin.proofs.Progress.{agents_are, bounded}
use Rattle.mpb_robin.proofs.Rounds.{turn_keeps, goes_on, rounds_are}

-- the run after turns of these agents
pub record IsAfter (start : Run) (done : List Agent) (r : Run) : Type 0 where
  pub is : IsRun r
  pub plan : r.plan ≡ start.plan
  pub run : r ≡ fold (λ s g. turn g s) start done

pub at_first : (r : Run) → IsRun r → IsAfter r [] r
at_first r is = record { is = is; plan = refl; run = refl }

at-index : {X : Type 0} (P : X → Type 0) (xs : List X) (i : ℕ) (z : X) → i < length xs → AllByRecursion P xs → P (get_or xs i z)
at-index P [] i z l h = absurd (omega arith)
at-index P (x ∷ xs) zero z l h = h.0
at-index P (x ∷ xs) (suc i) z l h = at-index P xs i z (omega arith) h.1

-- the next agent is one of the board
pub next_agent : (start r : Run) (gs : List Agent) (i : ℕ) (g : Agent) → gs ≡ agents_of start.plan → IsAfter start (take i gs) r → i < length gs → g ≡ get_or gs i g → IsAgentOf r.plan g
next_agent start r gs i g all h l e =
    subst (λ (c : Plan). IsAgentOf c g) (sym h.plan)
    (subst (IsAgentOf start.plan) (sym e) (at-index (IsAgentOf start.plan) gs i g l (subst (λ xs. AllByRecursion (IsAgentOf start.plan) xs) (sym all) (agents_are start.plan))))

pub one_turn : (start r t : Run) (gs : List Agent) (i : ℕ) (g : Agent) → gs ≡ agents_of start.plan → IsAfter start (take i gs) r → i < length gs → g ≡ get_or gs i g → t ≡ turn g r → IsAfter start (take (i + 1) gs) t
one_turn start r t gs i g all h l e now = record {
  is = subst IsRun (sym now) (turn_keeps r g h.is (next_agent start r gs i g all h l e));
  plan = ap (λ (q : Run). q.plan) now ∙ plan_stays r g ∙ h.plan;
  run = now ∙ ap (turn g) h.run ∙ ap (λ x. turn x (fold (λ s y. turn y s) start (take i gs))) e ∙ sym (fold_more (λ s y. turn y s) start gs i g l);
}

pub whole_round : (start r : Run) (gs : List Agent) (i : ℕ) → gs ≡ agents_of start.plan → length gs ≤ i → IsAfter start (take i gs) r → r ≡ round start
whole_round start r gs i all l h = h.run ∙ ap (λ xs. fold (λ s g. turn g s) start xs) (take_all i gs l ∙ all)

-- ---- rounds

-- the run after so many rounds, none of which left all agents idle before
pub record IsAfterRounds (c : Plan) (r : Run) : Type 0 where
  pub count : ℕ
  pub run : r ≡ rounds count (first_run c)
  pub before : (n : ℕ) → n < count → ¬ IsQuiescent (state_in (rounds n (first_run c)))

pub no_round : (r : Run) → r ≡ first_run r.plan → IsAfterRounds r.plan r
no_round r e = record { count = 0; run = e; before = λ n l. absurd (omega arith) }

-- so many lists of 24 numbers
shaped : {V : Type 0} (items : V → List ℕ) (rows : List V) (n : ℕ) (counts : List (List ℕ)) → map items rows ≡ counts → length counts ≡ n → ((a : ℕ) → a < n → length (get_or counts a []) ≡ 24) → (length rows ≡ n) × All (λ row. length (items row) ≡ 24) rows
shaped items rows n counts same many wide =
    let long : length rows ≡ n = sym (length-map rows items) ∙ (ap (λ (l : List (List ℕ)). length l) same ∙ many) in (
      long,
      λ k d l. ap (λ (l : List ℕ). length l) (sym (map_at items k rows d [] l)) ∙ (ap (λ (l : List (List ℕ)). length (get_or l k [])) same ∙ wide k (omega arith)),
    )

module _ (c : Plan) (config : IsConfig c) (small : plan_size c < 2 ^ 32) where
  pub is_run : (r : Run) → IsAfterRounds c r → IsRun r
  is_run r h = subst IsRun (sym h.run) (rounds_are c config small h.count).run

  pub same_plan : (r : Run) → IsAfterRounds c r → r.plan ≡ c
  same_plan r h = ap (λ (q : Run). q.plan) h.run ∙ (rounds_are c config small h.count).plan

  before-next : (k : ℕ) → ((n : ℕ) → n < k → ¬ IsQuiescent (state_in (rounds n (first_run c)))) → ¬ IsQuiescent (state_in (rounds k (first_run c))) → (n : ℕ) → n < suc k → ¬ IsQuiescent (state_in (rounds n (first_run c)))
  before-next k before here n l = elim (cases_eq n k) [
    | inl e ↦ subst (λ (m : ℕ). ¬ IsQuiescent (state_in (rounds m (first_run c)))) (sym e) here
    | inr ne ↦ before n (omega (arith, l, ne))
  ]

  pub one_round : (r t : Run) → IsAfterRounds c r → ¬ IsQuiescent (state_in r) → t ≡ round r → IsAfterRounds c t
  one_round r t h busy now = record {
    count = suc h.count;
    run = now ∙ ap round h.run;
    before = before-next h.count h.before (subst (λ (q : Run). ¬ IsQuiescent (state_in q)) h.run busy);
  }

  pub less_left : (r t : Run) → IsAfterRounds c r → ¬ IsQuiescent (state_in r) → t ≡ round r → room c + plan_size c - done_in t < room c + plan_size c - done_in r
  less_left r t h busy now =
      let more : done_in r < done_in (round r) = goes_on r (is_run r h) busy in
      let same : done_in t ≡ done_in (round r) = ap done_in now in
      let after = one_round r t h busy now in
      let most : done_in t ≤ room c + plan_size c = subst (λ (d : Plan). done_in t ≤ room d + plan_size d) (same_plan t after) (bounded t (is_run t after)) in
      omega arith

pub at_end : (c : Plan) (r : Run) → IsAfterRounds c r → IsQuiescent (state_in r) → IsRoundRobinEnd c r
at_end c r h quiet = record { count = h.count; run = h.run; quiet = quiet; first = h.before }

-- ---- what the end is

pub ends_are_runs : (c : Plan) (r : Run) → IsConfig c → plan_size c < 2 ^ 32 → IsRoundRobinEnd c r → IsRun r
ends_are_runs c r config small h = subst IsRun (sym h.run) (rounds_are c config small h.count).run

pub ends_keep_plan : (c : Plan) (r : Run) → IsConfig c → plan_size c < 2 ^ 32 → IsRoundRobinEnd c r → r.plan ≡ c
ends_keep_plan c r config small h = ap (λ (q : Run). q.plan) h.run ∙ (rounds_are c config small h.count).plan

module _ (c : Plan) (r : Run) (journal : List Entry) (logs : List (List (Pulse × Hit))) (counts : List (List ℕ))
    (config : IsConfig c) (small : plan_size c < 2 ^ 32) (end : IsRoundRobinEnd c r) (journal_is : journal ≡ r.journal) (logs_are : logs ≡ r.logs) (counts_are : counts ≡ r.counts) where
  is-run : IsRun r
  is-run = ends_are_runs c r config small end

  plan-is : r.plan ≡ c
  plan-is = ends_keep_plan c r config small end

  pub is_robin : IsRoundRobinOf c journal logs
  is_robin = (r, end, sym journal_is, sym logs_are)

  pub is_complete : IsComplete c journal
  is_complete = subst (λ (q : Plan × List Entry). IsComplete q.0 q.1) (λ i. (plan-is i, sym journal_is i)) (complete r is-run end.quiet)

  pub has_accounts : AccountsForPulses c journal logs
  has_accounts = subst (λ (q : Plan × List Entry × List (List (Pulse × Hit))). AccountsForPulses q.0 q.1 q.2) (λ i. (plan-is i, sym journal_is i, sym logs_are i)) (accounts r is-run end.quiet)

  pub counts_each : (a pin : ℕ) → a < length c.ios → pin < 24 → get_or (get_or counts a []) pin 0 ≡ collected_count a pin journal
  counts_each a pin l m = ap (λ rows. get_or (get_or rows a []) pin 0) counts_are ∙ is-run.counted a pin (let e = ap (λ (d : Plan). length d.ios) plan-is in omega arith) m ∙ ap (collected_count a pin) (sym journal_is)

  -- 24 counts for each I/O APIC
  pub counts_shape : (account : Account) → counts_of account ≡ counts → HasCountsFor (length c.ios) account
  counts_shape account theirs = shaped (λ row. row.items) account.collected.items (length c.ios) r.counts (theirs ∙ counts_are) (is-run.counts ∙ ap (λ (d : Plan). length d.ios) plan-is) (λ a l. is-run.wide a (let e = ap (λ (d : Plan). length d.ios) plan-is in omega arith))

  pub started_once_at : (page : ℕ) → IsStartableAt page c → IsStartedOnce page c journal
  started_once_at page startable = started_once page c journal config startable is_complete
