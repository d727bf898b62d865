-- A take keeps the rule, won or lost.
use Rattle.std.proofs.Common.{◌≡◌, ◌≢◌, ℕ, ◌+◌, ◌%◌, ◌<◌, true, true≢false, eqb, List, [], ◌∷◌, length, get_or, sum_by, All, Some, refl, sym, ap, ◌∙◌, subst, arith, ⊎_elim, inr, length-set, eq-eqb}
use mathlib.Core.Option.{some, none}
use lib.ListN.{get_elem?}
use prog.Atomic.{either}
use Rattle.std.proofs.lemmas.List.{get_or-set_same, set-get_or}
use Rattle.std.proofs.lemmas.List.Elements.{All-cons, All-nil}
use Rattle.std.proofs.lemmas.List.Sums.{sum_by-cons}
use Rattle.atomic_table.specs.Table.{State, step, stepped, Allows, Valid, carried_after, keeps, takes}
use Rattle.atomic_table.proofs.Lists.{at_set, set_again, exchanged}
use Rattle.mpb_spec.specs.declared.entry.Entry.{Entry}
use Rattle.mpb_spec.specs.Plan.{Plan}
use Rattle.mpb_bus.specs.declared.view.AgentView.{AgentView}
use Rattle.mpb_bus.specs.declared.view.SeatView.{SeatView}
use Rattle.mpb_spec.specs.Agents.{IsPrefix}
use Rattle.mpb_bus.specs.Rule.{Slot, resting, holding, taken, over_agents, AgentFits, ViewFits, IsEven, IsOdd, IsKept, Took, Takes}
use Rattle.mpb_spec.specs.Lists.{one_if}
use Rattle.mpb_spec.proofs.Lists.{sum_set, sum_at, set_at, each_set}
use Rattle.mpb_bus.proofs.Journals.{prefix_refl}

-- what is known of an agent whose seat has no other
pub known_of : (c : Plan) (s : State Slot SeatView) (ok : IsKept c s) (id : ℕ) (a : AgentView) (v : SeatView) → v.agents ≡ a ∷ [] → get_elem? s.views id ≡ some v → AgentFits c ok.journal a
known_of c s ok id a v is at = subst (All (AgentFits c ok.journal)) is (ok.fits id v at).0 0 a (omega arith)

module _ (c : Plan) (s : State Slot SeatView) (ok : IsKept c s) (id : ℕ) (a : AgentView) (at : get_elem? s.views id ≡ some (resting a)) (old : ℕ) (is_old : get_or s.words 0 0 ≡ old) (e : IsEven c ok.journal s) where
  mine : AgentFits c ok.journal a
  mine = known_of c s ok id a (resting a) refl at

  abbrev seen : List Entry
  seen = e.board.journal

  abbrev w : SeatView
  w = holding (taken seen a)

  abbrev after : State Slot SeatView
  after = stepped s 0 (old + 1) id [] w (takes 0 (Some e.board))

  fits_taken : AgentFits c ok.journal (taken seen a)
  fits_taken = record { config = mine.config; seen = subst (λ l. IsPrefix l ok.journal) (sym e.journal_is) (prefix_refl ok.journal); mine = mine.mine; olds = mine.olds }

  sums : (f : AgentView → ℕ) → over_agents f after.views + f a ≡ over_agents f s.views + f (taken seen a)
  sums f = (let t = sum_set (λ (v : SeatView). sum_by f v.agents) s.views id (resting a) w at in omega (arith, sum_by-cons f a [], sum_by-cons f (taken seen a) []))

  alone : (j : ℕ) (u : SeatView) → get_elem? after.views j ≡ some u → u.holds ≡ true → j ≡ id
  alone j u h on = ⊎_elim (λ (t : (j ≡ id) × (w ≡ u)). t.0) (λ (t : (j ≢ id) × (get_elem? s.views j ≡ some u)). absurd (true≢false (sym on ∙ e.free j u t.1))) (at_set s.views id j w u h)

  latest : 0 < over_agents (λ b. one_if (eqb (length b.seen) (length ok.journal))) after.views
  latest =
      let f = λ (b : AgentView). one_if (eqb (length b.seen) (length ok.journal)) in
      let le = sum_at (λ (v : SeatView). sum_by f v.agents) after.views id w (set_at s.views id (resting a) w at) in
      let one : f (taken seen a) ≡ 1 = ap one_if (eq-eqb (length seen) (length ok.journal) (ap (λ l. length l) e.journal_is)) in
      omega (arith, sum_by-cons f (taken seen a) [])

  pub won : IsKept c after
  won = record {
    journal = ok.journal;
    wide = length-set s.words 0 (old + 1) ∙ ok.wide;
    slots = length-set s.homes 0 none ∙ ok.slots;
    phase = inr record {
      word = get_or-set_same s.words 0 (old + 1) 0 (let l = ok.wide in omega arith) ∙ ap (λ k. k + 1) (sym is_old ∙ e.word);
      holder = id;
      agent = taken seen a;
      held_by = set_at s.views id (resting a) w at;
      seen = e.journal_is;
      alone = alone;
    };
    agents = λ f. (let t = sums (λ (b : AgentView). f b.agent) in let o = ok.agents f in omega arith);
    once = ok.once;
    fits = each_set (ViewFits c ok.journal) s.views id w ok.fits (All-cons (AgentFits c ok.journal) (taken seen a) [] fits_taken (All-nil (AgentFits c ok.journal)), All-nil (λ xs. IsPrefix xs ok.journal));
    latest = latest;
  }

  fits_now : AgentFits e.board.plan seen a
  fits_now = subst (λ (x : Plan × List Entry). AgentFits x.0 x.1 a) (λ i. (sym e.plan_is i, sym e.journal_is i)) mine

  pub tells : Took (resting a, []) (w, (0, Some e.board) ∷ [])
  tells = record { board = e.board; sat = refl; fits = fits_now }

pub takes_allowed : (c : Plan) (slots id : ℕ) (a : AgentView) (old : ℕ) → old % 2 ≡ 0
    → Allows (IsKept c) slots id (resting a, []) 0 (λ n. either (eqb n old) (old + 1) n) (Takes (step slots 0 old (old + 1) none) (resting a, []))
takes_allowed c slots id a old even s ok homes at word =
    exchanged (get_or s.words 0 0) old (old + 1) F hit miss
  where
    F : ℕ → Type 0
    F n = (w : SeatView) × (act : _) × Valid s.homes [] act × IsKept c (stepped s 0 n id [] w act) × Takes (step slots 0 old (old + 1) none) (resting a, []) (get_or s.words 0 0) (w, carried_after [] act)

    hit : get_or s.words 0 0 ≡ old → F (old + 1)
    hit is = ⊎_elim
        (λ (e : IsEven c ok.journal s). (
          holding (taken e.board.journal a),
          takes 0 (Some e.board),
          e.home,
          won c s ok id a at old is e,
          ((λ _. tells c s ok id a at old is e), (λ ne. absurd (ne is))),
        ))
        (λ (o : IsOdd ok.journal s). absurd (let w = o.word in omega arith))
        ok.phase

    miss : get_or s.words 0 0 ≢ old → F (get_or s.words 0 0)
    miss ne = (
      resting a,
      keeps,
      tt,
      subst (λ (x : List ℕ × List SeatView). IsKept c record { words = x.0; homes = s.homes; views = x.1 }) (λ i. (sym (set-get_or s.words 0 0) i, sym (set_again s.views id (resting a) at) i)) ok,
      ((λ is. absurd (ne is)), (λ _. refl)),
    )
