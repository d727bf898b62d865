-- Views are cut in two and put together, and a seat enters: the rule stays.
use Rattle.std.proofs.Common.{◌≡◌, ◌≢◌, ◌⊎◌, ℕ, ◌+◌, ◌<◌, Bool, true, false, true≢false, eqb, List, [], ◌∷◌, ◌++◌, length, set, sum_by, All, refl, sym, ap, ◌∙◌, subst, arith, ⊎_elim, inl, inr}
use mathlib.Core.Option.{some, some-injective}
use lib.ListN.{get_elem?}
use Rattle.std.proofs.lemmas.List.Elements.{All-cons, All-nil, All-append, All-head, All-tail}
use Rattle.std.proofs.lemmas.List.Sums.{sum_by_push, sum_by-append, sum_by-cons}
use Rattle.atomic_table.specs.Table.{State, Splits, Joins}
use Rattle.atomic_table.proofs.Lists.{at_set, at_snoc, at_longer, set_else}
use Rattle.mpb_spec.specs.declared.agent.Agent.{Agent}
use Rattle.mpb_spec.specs.declared.entry.Entry.{Entry}
use Rattle.mpb_spec.specs.Plan.{Plan}
use Rattle.mpb_bus.specs.declared.view.AgentView.{AgentView}
use Rattle.mpb_bus.specs.declared.view.SeatView.{SeatView}
use Rattle.mpb_spec.specs.Agents.{IsPrefix}
use Rattle.mpb_bus.specs.Rule.{Slot, resting, nobody, agent_of, without_agent, first_agent, together, telling, hearing, heard, over_agents, AgentFits, ViewFits, IsEven, IsOdd, IsKept}
use Rattle.mpb_spec.specs.Lists.{rest_of, first_of_list, one_if}
use Rattle.mpb_spec.proofs.Lists.{sum_set, each_set}
use Rattle.mpb_bus.proofs.Takes.{known_of}

-- only views that don't hold the board have changed, and the agents and what they have seen are the same
module _ (c : Plan) (s : State Slot SeatView) (views : List SeatView) (ok : IsKept c s)
    (sums : (f : Agent → List Entry → ℕ) → over_agents (λ a. f a.agent a.seen) views ≡ over_agents (λ a. f a.agent a.seen) s.views)
    (was : (j : ℕ) (u : SeatView) → get_elem? views j ≡ some u → u.holds ≡ true → get_elem? s.views j ≡ some u)
    (is : (j : ℕ) (u : SeatView) → get_elem? s.views j ≡ some u → u.holds ≡ true → get_elem? views j ≡ some u)
    (fits : (j : ℕ) (u : SeatView) → get_elem? views j ≡ some u → ViewFits c ok.journal u) where
  abbrev after : State Slot SeatView
  after = record { words = s.words; homes = s.homes; views = views }

  not_held : (u : SeatView) → ¬ (u.holds ≡ true) → u.holds ≡ false
  not_held u un = by_mark u.holds refl
    where
      by_mark : (b : Bool) → u.holds ≡ b → u.holds ≡ false
      by_mark true e = absurd (un e)
      by_mark false e = e

  phase : IsEven c ok.journal s ⊎ IsOdd ok.journal s → IsEven c ok.journal after ⊎ IsOdd ok.journal after
  phase p = ⊎_elim
      (λ (e : IsEven c ok.journal s). inl record { word = e.word; board = e.board; home = e.home; plan_is = e.plan_is; journal_is = e.journal_is; free = λ j u h. not_held u (λ on. true≢false (sym on ∙ e.free j u (was j u h on))) })
      (λ (o : IsOdd ok.journal s). inr record { word = o.word; holder = o.holder; agent = o.agent; held_by = is o.holder (Rattle.mpb_bus.specs.Rule.holding o.agent) o.held_by refl; seen = o.seen; alone = λ j u h on. o.alone j u (was j u h on) on })
      p

  pub resorted : IsKept c after
  resorted = record {
    journal = ok.journal;
    wide = ok.wide;
    slots = ok.slots;
    phase = phase ok.phase;
    agents = λ f. sums (λ g _. f g) ∙ ok.agents f;
    once = ok.once;
    fits = fits;
    latest = subst (λ k. 0 < k) (sym (sums (λ _ l. one_if (eqb (length l) (length ok.journal))))) ok.latest;
  }

-- a view that doesn't hold the board is put in the place of another such view
module _ (views : List SeatView) (id : ℕ) (w : SeatView) (w_free : w.holds ≡ false) where
  pub set_was : (j : ℕ) (u : SeatView) → get_elem? (set views id w) j ≡ some u → u.holds ≡ true → get_elem? views j ≡ some u
  set_was j u h on = ⊎_elim (λ (t : (j ≡ id) × (w ≡ u)). absurd (true≢false (sym on ∙ ap (λ (x : SeatView). x.holds) (sym t.1) ∙ w_free))) (λ (t : (j ≢ id) × (get_elem? views j ≡ some u)). t.1) (at_set views id j w u h)

  pub set_is : (v : SeatView) → get_elem? views id ≡ some v → v.holds ≡ false → (j : ℕ) (u : SeatView) → get_elem? views j ≡ some u → u.holds ≡ true → get_elem? (set views id w) j ≡ some u
  set_is v at free j u h on = set_else views id j w (λ same. true≢false (sym on ∙ ap (λ (x : SeatView). x.holds) (some-injective u v (sym h ∙ ap (λ k. get_elem? views k) same ∙ at)) ∙ free)) ∙ h

  pub push_was : (j : ℕ) (u : SeatView) → get_elem? (views ++ w ∷ []) j ≡ some u → u.holds ≡ true → get_elem? views j ≡ some u
  push_was j u h on = ⊎_elim (λ (t : get_elem? views j ≡ some u). t) (λ (same : w ≡ u). absurd (true≢false (sym on ∙ ap (λ (x : SeatView). x.holds) (sym same) ∙ w_free))) (at_snoc views w u j h)

  pub push_is : (j : ℕ) (u : SeatView) → get_elem? views j ≡ some u → u.holds ≡ true → get_elem? (views ++ w ∷ []) j ≡ some u
  push_is j u h on = at_longer views (w ∷ []) j u h

each_push : (Q : SeatView → Type 0) (views : List SeatView) (w : SeatView) → ((j : ℕ) (u : SeatView) → get_elem? views j ≡ some u → Q u) → Q w → (j : ℕ) (u : SeatView) → get_elem? (views ++ w ∷ []) j ≡ some u → Q u
each_push Q views w others mine j u h = ⊎_elim (λ t. others j u t) (λ (same : w ≡ u). subst Q same mine) (at_snoc views w u j h)

none_fits : (c : Plan) (journal : List Entry) → ViewFits c journal nobody
none_fits c journal = (All-nil (AgentFits c journal), All-nil (λ xs. IsPrefix xs journal))

-- a new seat stands for nobody
pub enters : (c : Plan) (s : State Slot SeatView) → IsKept c s → IsKept c record { words = s.words; homes = s.homes; views = s.views ++ nobody ∷ [] }
enters c s ok = resorted c s (s.views ++ nobody ∷ []) ok
    (λ f. (let a = sum_by_push (λ (v : SeatView). sum_by (λ (b : AgentView). f b.agent b.seen) v.agents) s.views nobody in omega arith))
    (push_was s.views 0 nobody refl)
    (push_is s.views 0 nobody refl)
    (each_push (ViewFits c ok.journal) s.views nobody ok.fits (none_fits c ok.journal))

cut_sum : {A : Type 0} (f : A → ℕ) (xs : List A) → sum_by f (rest_of xs) + sum_by f (first_of_list xs) ≡ sum_by f xs
cut_sum f [] = refl
cut_sum f (x ∷ xs) = omega (arith, sum_by-cons f x xs)

All_rest : {A : Type 0} (P : A → Type 0) (xs : List A) → All P xs → All P (rest_of xs)
All_rest P [] h = h
All_rest P (x ∷ xs) h = All-tail P x xs h

All_first : {A : Type 0} (P : A → Type 0) (xs : List A) → All P xs → All P (first_of_list xs)
All_first P [] h = h
All_first P (x ∷ xs) h = All-cons P x [] (All-head P x xs h) (All-nil P)

-- the first agent gets a seat of its own
pub cuts_agent : (c : Plan) (id : ℕ) (v : SeatView) → v.holds ≡ false → Splits (IsKept c) id v (without_agent v) (first_agent v)
cuts_agent c id v free s ok at =
    let left = without_agent v in
    let right = first_agent v in
    let first = set s.views id left in
    resorted c s (first ++ right ∷ []) ok
    (λ f. let g = λ (b : AgentView). f b.agent b.seen in
    (let a = sum_by_push (λ (u : SeatView). sum_by g u.agents) first right in let b = sum_set (λ (u : SeatView). sum_by g u.agents) s.views id v left at in let t = cut_sum g v.agents in omega arith))
    (λ j u h on. set_was s.views id left refl j u (push_was first 0 right refl j u h on) on)
    (λ j u h on. push_is first 0 right refl j u (set_is s.views id left refl v at free j u h on) on)
    (each_push (ViewFits c ok.journal) first right
    (each_set (ViewFits c ok.journal) s.views id left ok.fits (All_rest (AgentFits c ok.journal) v.agents (ok.fits id v at).0, (ok.fits id v at).1))
    (All_first (AgentFits c ok.journal) v.agents (ok.fits id v at).0, All-nil (λ xs. IsPrefix xs ok.journal)))

-- a seat without an agent is cut off, and told what the agent has seen
pub tells_seen : (c : Plan) (id : ℕ) (a : AgentView) → Splits (IsKept c) id (resting a) (resting a) (telling (resting a))
tells_seen c id a s ok at =
    let told = telling (resting a) in
    let first = set s.views id (resting a) in
    let known = known_of c s ok id a (resting a) refl at in
    resorted c s (first ++ told ∷ []) ok
    (λ f. let g = λ (b : AgentView). f b.agent b.seen in
    (let x = sum_by_push (λ (u : SeatView). sum_by g u.agents) first told in let y = sum_set (λ (u : SeatView). sum_by g u.agents) s.views id (resting a) (resting a) at in omega arith))
    (λ j u h on. set_was s.views id (resting a) refl j u (push_was first 0 told refl j u h on) on)
    (λ j u h on. push_is first 0 told refl j u (set_is s.views id (resting a) refl (resting a) at refl j u h on) on)
    (each_push (ViewFits c ok.journal) first told
    (each_set (ViewFits c ok.journal) s.views id (resting a) ok.fits (ok.fits id (resting a) at))
    (All-nil (AgentFits c ok.journal), All-cons (λ xs. IsPrefix xs ok.journal) a.seen [] known.seen (All-nil (λ xs. IsPrefix xs ok.journal))))

-- two views that don't hold the board are put together
module _ (c : Plan) (id other : ℕ) (v w both : SeatView) (free : v.holds ≡ false) (w_free : w.holds ≡ false) (both_free : both.holds ≡ false)
    (sums : (f : Agent → List Entry → ℕ) → sum_by (λ a. f a.agent a.seen) both.agents ≡ sum_by (λ a. f a.agent a.seen) v.agents + sum_by (λ a. f a.agent a.seen) w.agents)
    (fits : (journal : List Entry) → ViewFits c journal v → ViewFits c journal w → ViewFits c journal both) where
  pub joined : Joins (IsKept c) id v other w both nobody
  joined s ok at apart there =
      let first = set s.views id both in
      let their = ⊎_elim (λ (t : (other ≡ id) × (both ≡ w)). absurd (apart t.0)) (λ (t : (other ≢ id) × (get_elem? s.views other ≡ some w)). t.1) (at_set s.views id other both w there) in
      resorted c s (set first other nobody) ok
      (λ f. let g = λ (b : AgentView). f b.agent b.seen in
      (let x = sum_set (λ (u : SeatView). sum_by g u.agents) s.views id v both at in let y = sum_set (λ (u : SeatView). sum_by g u.agents) first other w nobody there in let z = sums f in omega arith))
      (λ j u h on. set_was s.views id both both_free j u (set_was first other nobody refl j u h on) on)
      (λ j u h on. set_is first other nobody refl w there w_free j u (set_is s.views id both both_free v at free j u h on) on)
      (each_set (ViewFits c ok.journal) first other nobody
      (each_set (ViewFits c ok.journal) s.views id both ok.fits (fits ok.journal (ok.fits id v at) (ok.fits other w their)))
      (none_fits c ok.journal))

-- all agents of both
pub joins_views : (c : Plan) (id other : ℕ) (v w : SeatView) → v.holds ≡ false → w.holds ≡ false → Joins (IsKept c) id v other w (together v w) nobody
joins_views c id other v w free w_free = joined c id other v w (together v w) free w_free refl
    (λ f. sum_by-append (λ (a : AgentView). f a.agent a.seen) v.agents w.agents)
    (λ journal p q. (All-append (AgentFits c journal) v.agents w.agents p.0 q.0, All-append (λ xs. IsPrefix xs journal) v.told w.told p.1 q.1))

hearing_fits : (c : Plan) (a : AgentView) (told : List (List Entry)) (journal : List Entry) → AgentFits c journal a → All (λ xs. IsPrefix xs journal) told → AgentFits c journal (hearing told a)
hearing_fits c a told journal f t = record { config = f.config; seen = f.seen; mine = f.mine; olds = All-append (λ xs. IsPrefix xs journal) told (a.seen ∷ []) t (All-cons (λ xs. IsPrefix xs journal) a.seen [] f.seen (All-nil (λ xs. IsPrefix xs journal))) }

-- an agent hears what a seat without an agent was told
pub hears : (c : Plan) (id other : ℕ) (a : AgentView) (told : List (List Entry)) → Joins (IsKept c) id (resting a) other (record { agents = []; told = told; holds = false }) (heard (resting a) (record { agents = []; told = told; holds = false })) nobody
hears c id other a told = joined c id other (resting a) (record { agents = []; told = told; holds = false }) (resting (hearing told a)) refl refl refl
    (λ f. (omega (arith, sum_by-cons (λ (b : AgentView). f b.agent b.seen) (hearing told a) [], sum_by-cons (λ (b : AgentView). f b.agent b.seen) a [])))
    (λ journal p q. (All-cons (AgentFits c journal) (hearing told a) [] (hearing_fits c a told journal (p.0 0 a (omega arith)) q.1) (All-nil (AgentFits c journal)), All-nil (λ xs. IsPrefix xs journal)))
