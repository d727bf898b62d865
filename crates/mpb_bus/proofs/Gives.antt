-- A give keeps the rule.
use Rattle.std.proofs.Common.{◌≡◌, ◌≢◌, ℕ, ◌+◌, ◌*◌, ◌<◌, Bool, true, false, true≢false, eqb, List, [], ◌∷◌, ◌++◌, length, set, get_or, drop, sum_by, All, Some, refl, sym, ap, ◌∙◌, subst, arith, ⊎_elim, inl, length-set, eq-eqb, append-nil}
use mathlib.Core.Option.{some, none, some-injective}
use lib.ListN.{get_elem?}
use Rattle.std.proofs.lemmas.List.{get_or-set_same}
use Rattle.std.proofs.lemmas.List.Elements.{All-cons, All-nil}
use Rattle.std.proofs.lemmas.List.Sums.{sum_by-cons, get_or-le-sum_by}
use Rattle.atomic_table.specs.Table.{State, step, stepped, Allows, gives}
use Rattle.atomic_table.proofs.Lists.{at_set, set_else, set_here}
use Rattle.mpb_spec.specs.declared.entry.Entry.{Entry}
use Rattle.mpb_spec.specs.Plan.{Plan}
use Rattle.mpb_board.specs.BoardView.{BoardView}
use Rattle.mpb_bus.specs.declared.view.AgentView.{AgentView}
use Rattle.mpb_bus.specs.declared.view.SeatView.{SeatView}
use Rattle.mpb_spec.specs.Agents.{is_agent, entries_of, IsPrefix}
use Rattle.mpb_bus.specs.Rule.{Slot, resting, holding, nobody, given, agent_of, over_agents, AgentFits, ViewFits, IsEven, IsOdd, IsKept, Gives, GrowsBy}
use Rattle.mpb_spec.specs.Lists.{one_if}
use Rattle.mpb_spec.proofs.Lists.{sum_set, sum_at, set_at}
use Rattle.mpb_bus.proofs.Journals.{prefix_refl, prefix_push, prefix_trans, drop_all, drop_push, is_agent-itself, own_entry, other_entry}
use Rattle.mpb_bus.proofs.Takes.{known_of}

none_if : (b : Bool) → one_if b ≡ 0 → b ≡ false
none_if true e = absurd (omega arith)
none_if false e = refl

-- the agent's own entries after the give
pub mine_given : (a : AgentView) (journal before : List Entry) → a.seen ≡ before → a.mine ≡ entries_of a.agent before → GrowsBy a journal → a.mine ++ drop (length a.seen) journal ≡ entries_of a.agent journal
mine_given a journal before seen mine grows = ⊎_elim
    (λ (e : journal ≡ a.seen). ap (λ l. a.mine ++ drop (length a.seen) l) e ∙ ap (λ l. a.mine ++ l) (drop_all a.seen) ∙ append-nil a.mine ∙ mine ∙ ap (entries_of a.agent) (sym (e ∙ seen)))
    (λ (e : (x : Entry) × (journal ≡ a.seen ++ x ∷ []) × (x.agent ≡ a.agent)).
    ap (λ l. a.mine ++ drop (length a.seen) l) e.1 ∙ ap (λ l. a.mine ++ l) (drop_push a.seen e.0) ∙ ap (λ l. l ++ e.0 ∷ []) (mine ∙ ap (entries_of a.agent) (sym seen))
    ∙ sym (ap (entries_of a.agent) e.1 ∙ own_entry a.agent a.seen e.0 e.2))
    grows

module _ (c : Plan) (s : State Slot SeatView) (ok : IsKept c s) (id : ℕ) (a : AgentView) (at : get_elem? s.views id ≡ some (holding a)) (o : IsOdd ok.journal s)
    (b : BoardView) (plan : b.plan ≡ a.config) (grows : GrowsBy a b.journal) (new : ℕ) (new_is : new ≡ 2 * length b.journal) where
  abbrev journal' : List Entry
  journal' = b.journal

  mine : AgentFits c ok.journal a
  mine = known_of c s ok id a (holding a) refl at

  holder_is : id ≡ o.holder
  holder_is = o.alone id (holding a) at refl

  same : a ≡ o.agent
  same = ap agent_of (some-injective (holding a) (holding o.agent) (sym at ∙ ap (λ j. get_elem? s.views j) holder_is ∙ o.held_by))

  seen_all : a.seen ≡ ok.journal
  seen_all = ap (λ (b : AgentView). b.seen) same ∙ o.seen

  longer : IsPrefix ok.journal journal'
  longer = ⊎_elim
      (λ (e : journal' ≡ a.seen). subst (IsPrefix ok.journal) (sym seen_all ∙ sym e) (prefix_refl ok.journal))
      (λ (e : (x : Entry) × (journal' ≡ a.seen ++ x ∷ []) × (x.agent ≡ a.agent)). subst (IsPrefix ok.journal) (ap (λ l. l ++ e.0 ∷ []) (sym seen_all) ∙ sym e.1) (prefix_push ok.journal e.0))
      grows

  -- no other view has this agent
  apart : (j : ℕ) (u : SeatView) → j ≢ id → get_elem? s.views j ≡ some u → (k : ℕ) (d : AgentView) → k < length u.agents → is_agent a.agent (get_or u.agents k d).agent ≡ false
  apart j u ne there k d l =
      let g = (get_or u.agents k d).agent in
      let f = λ (b : AgentView). one_if (is_agent b.agent g) in
      let e = sum_set (λ (v : SeatView). sum_by f v.agents) s.views id (holding a) nobody at in
      let r = sum_at (λ (v : SeatView). sum_by f v.agents) (set s.views id nobody) j u (set_else s.views id j nobody ne ∙ there) in
      let t = get_or-le-sum_by f u.agents k d l in
      let all = ok.agents (λ x. one_if (is_agent x g)) in
      let once = ok.once g in
      let one : f (get_or u.agents k d) ≡ 1 = ap one_if (is_agent-itself g) in
      none_if (is_agent a.agent g) (omega (arith, sum_by-cons f a []))

  -- so the entries of the others are the same
  others_same : (j : ℕ) (u : SeatView) → j ≢ id → get_elem? s.views j ≡ some u → (k : ℕ) (d : AgentView) → k < length u.agents → entries_of (get_or u.agents k d).agent ok.journal ≡ entries_of (get_or u.agents k d).agent journal'
  others_same j u ne there k d l =
      let g = (get_or u.agents k d).agent in
      ⊎_elim
      (λ (e : journal' ≡ a.seen). ap (entries_of g) (sym (e ∙ seen_all)))
      (λ (e : (x : Entry) × (journal' ≡ a.seen ++ x ∷ []) × (x.agent ≡ a.agent)).
      sym (ap (entries_of g) (e.1 ∙ ap (λ l. l ++ e.0 ∷ []) seen_all) ∙ other_entry g ok.journal e.0 (ap (λ x. is_agent x g) e.2 ∙ apart j u ne there k d l)))
      grows

  olds_then : (olds : List (List Entry)) → All (λ xs. IsPrefix xs ok.journal) olds → All (λ xs. IsPrefix xs journal') olds
  olds_then olds all k d l = prefix_trans (get_or olds k d) ok.journal journal' (all k d l) longer

  others_fit : (j : ℕ) (u : SeatView) → j ≢ id → get_elem? s.views j ≡ some u → ViewFits c journal' u
  others_fit j u ne there = (
    (λ k d l. let f = (ok.fits j u there).0 k d l in record { config = f.config; seen = prefix_trans (get_or u.agents k d).seen ok.journal journal' f.seen longer; mine = f.mine ∙ others_same j u ne there k d l; olds = olds_then (get_or u.agents k d).olds f.olds }),
    olds_then u.told (ok.fits j u there).1,
  )

  abbrev w : SeatView
  w = resting (given journal' a)

  abbrev after : State Slot SeatView
  after = stepped s 0 new id ((0, Some b) ∷ []) w gives

  fits_given : AgentFits c journal' (given journal' a)
  fits_given = record { config = mine.config; seen = prefix_refl journal'; mine = mine_given a journal' ok.journal seen_all mine.mine grows; olds = olds_then a.olds mine.olds }

  fits_all : (j : ℕ) (u : SeatView) → get_elem? after.views j ≡ some u → ViewFits c journal' u
  fits_all j u there = ⊎_elim
      (λ (t : (j ≡ id) × (w ≡ u)). subst (ViewFits c journal') t.1 (All-cons (AgentFits c journal') (given journal' a) [] fits_given (All-nil (AgentFits c journal')), All-nil (λ xs. IsPrefix xs journal')))
      (λ (t : (j ≢ id) × (get_elem? s.views j ≡ some u)). others_fit j u t.0 t.1)
      (at_set s.views id j w u there)

  free : (j : ℕ) (u : SeatView) → get_elem? after.views j ≡ some u → u.holds ≡ false
  free j u there = ⊎_elim
      (λ (t : (j ≡ id) × (w ≡ u)). ap (λ (v : SeatView). v.holds) (sym t.1))
      (λ (t : (j ≢ id) × (get_elem? s.views j ≡ some u)). by_mark u.holds refl t)
      (at_set s.views id j w u there)
    where
      by_mark : (m : Bool) → u.holds ≡ m → (j ≢ id) × (get_elem? s.views j ≡ some u) → u.holds ≡ false
      by_mark false e t = e
      by_mark true e t = absurd (t.0 (o.alone j u t.1 e ∙ sym holder_is))

  sums : (f : AgentView → ℕ) → over_agents f after.views + f a ≡ over_agents f s.views + f (given journal' a)
  sums f = (let t = sum_set (λ (v : SeatView). sum_by f v.agents) s.views id (holding a) w at in omega (arith, sum_by-cons f a [], sum_by-cons f (given journal' a) []))

  latest : 0 < over_agents (λ b. one_if (eqb (length b.seen) (length journal'))) after.views
  latest =
      let f = λ (b : AgentView). one_if (eqb (length b.seen) (length journal')) in
      let le = sum_at (λ (v : SeatView). sum_by f v.agents) after.views id w (set_at s.views id (holding a) w at) in
      let one : f (given journal' a) ≡ 1 = ap one_if (eq-eqb (length journal') (length journal') refl) in
      omega (arith, sum_by-cons f (given journal' a) [])

  pub gave : IsKept c after
  gave = record {
    journal = journal';
    wide = length-set s.words 0 new ∙ ok.wide;
    slots = length-set s.homes 0 (some (Some b)) ∙ ok.slots;
    phase = inl record {
      word = get_or-set_same s.words 0 new 0 (let l = ok.wide in omega arith) ∙ new_is;
      board = b;
      home = set_here s.homes 0 (some (Some b)) (let l = ok.slots in omega arith);
      plan_is = plan ∙ mine.config;
      journal_is = refl;
      free = free;
    };
    agents = λ f. (let t = sums (λ (b : AgentView). f b.agent) in let r = ok.agents f in omega arith);
    once = ok.once;
    fits = fits_all;
    latest = latest;
  }

pub gives_allowed : (c : Plan) (slots id : ℕ) (a : AgentView) (b : BoardView) (new : ℕ) → b.plan ≡ a.config → GrowsBy a b.journal → new ≡ 2 * length b.journal
    → Allows (IsKept c) slots id (holding a, (0, Some b) ∷ []) 0 (λ _. new) (λ _. Gives (step slots 0 new 0 none) (holding a, (0, Some b) ∷ []) new)
gives_allowed c slots id a b new plan grows new_is s ok homes at word = ⊎_elim
    (λ (e : IsEven c ok.journal s). absurd (true≢false (e.free id (holding a) at)))
    (λ (o : IsOdd ok.journal s). (resting (given b.journal a), gives, tt, gave c s ok id a at o b plan grows new new_is, refl))
    ok.phase
