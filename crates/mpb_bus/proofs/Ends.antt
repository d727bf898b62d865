-- The end: one view has all agents, so the board is at home and some agent has seen its whole journal.
use Rattle.std.proofs.Common.{◌≡◌, ℕ, ◌<◌, Bool, true, false, true≢false, eqb, List, [], ◌∷◌, length, set, sum_by, All, Any, Some, None, refl, sym, ap, ◌∙◌, subst, arith, ⊎_elim}
use mathlib.Core.Option.{some, some-injective}
use mathlib.Core.Logic.{dite}
use native.Mathlib.Decide.{ℕ_discrete}
use lib.ListN.{get_elem?}
use Rattle.std.proofs.lemmas.Bool.Decides.{nat_tests}
use Rattle.std.proofs.lemmas.List.Sums.{sum_by-cons}
use Rattle.atomic_table.specs.Table.{State}
use Rattle.atomic_table.proofs.Lists.{set_else}
use Rattle.mpb_spec.specs.Plan.{Plan}
use Rattle.mpb_board.specs.BoardView.{BoardView}
use Rattle.mpb_bus.specs.declared.view.AgentView.{AgentView}
use Rattle.mpb_bus.specs.declared.view.SeatView.{SeatView}
use Rattle.mpb_spec.specs.Agents.{agents_of}
use Rattle.mpb_bus.specs.Rule.{Slot, holding, nobody, over_agents, AgentFits, IsEven, IsOdd, IsKept}
use Rattle.mpb_spec.specs.Lists.{one_if}
use Rattle.mpb_spec.proofs.Lists.{sum_set, sum_at, sum_none, count_all, any_above}
use Rattle.mpb_bus.proofs.Journals.{prefix_whole}

-- the board is at home, and what is known of the agents fits its journal
pub record Settled (c : Plan) (s : State Slot SeatView) (agents : List AgentView) : Type 0 where
  pub board : BoardView
  pub home : get_elem? s.homes 0 ≡ some (some (Some board))
  pub plan : board.plan ≡ c
  pub fits : All (AgentFits c board.journal) agents
  pub latest : Any (λ a. a.seen ≡ board.journal) agents

none_else : (f : AgentView → ℕ) (views : List SeatView) → over_agents (λ _. 1) views ≡ 0 → over_agents f views ≡ 0
none_else f [] e = refl
none_else f (v ∷ vs) e =
    let a = sum_by-cons (λ (u : SeatView). sum_by (λ (_ : AgentView). 1) u.agents) v vs in
    let b = count_all v.agents in
    let z = sum_none f v.agents (omega arith) in
    let d = none_else f vs (omega arith) in
    let g = sum_by-cons (λ (u : SeatView). sum_by f u.agents) v vs in
    omega arith

as_long : (m n : ℕ) → 0 < one_if (eqb m n) → m ≡ n
as_long m n h = by_test (eqb m n) refl h
  where
    by_test : (b : Bool) → eqb m n ≡ b → 0 < one_if b → m ≡ n
    by_test true e h = grind (arith, nat_tests)
    by_test false e h = absurd (omega arith)

module _ (c : Plan) (s : State Slot SeatView) (ok : IsKept c s) (id : ℕ) (v : SeatView) (at : get_elem? s.views id ≡ some v) (free : v.holds ≡ false) (all : length v.agents ≡ length (agents_of c)) where
  -- how many agents the other views have
  others : over_agents (λ _. 1) (set s.views id nobody) ≡ 0
  others =
      let a = sum_set (λ (u : SeatView). sum_by (λ (_ : AgentView). 1) u.agents) s.views id v nobody at in
      let b = count_all v.agents in
      let d = ok.agents (λ _. 1) in
      let e = count_all (agents_of c) in
      omega arith

  only : (f : AgentView → ℕ) → over_agents f s.views ≡ sum_by f v.agents
  only f =
      let a = sum_set (λ (u : SeatView). sum_by f u.agents) s.views id v nobody at in
      let z = none_else f (set s.views id nobody) others in
      omega arith

  not_odd : ¬ IsOdd ok.journal s
  not_odd o = dite (ℕ_discrete o.holder id)
      (λ same. true≢false (ap (λ (u : SeatView). u.holds) (some-injective (holding o.agent) v (sym o.held_by ∙ ap (λ j. get_elem? s.views j) same ∙ at)) ∙ free))
      (λ ne.
      let a = sum_at (λ (u : SeatView). sum_by (λ (_ : AgentView). 1) u.agents) (set s.views id nobody) o.holder (holding o.agent) (set_else s.views id o.holder nobody ne ∙ o.held_by) in
      let z = others in
      absurd (omega (arith, sum_by-cons (λ (_ : AgentView). 1) o.agent [])))

  latest : Any (λ a. a.seen ≡ ok.journal) v.agents
  latest =
      let any = any_above (λ (a : AgentView). one_if (eqb (length a.seen) (length ok.journal))) v.agents (subst (λ k. 0 < k) (only (λ a. one_if (eqb (length a.seen) (length ok.journal)))) ok.latest) in
      let fits = subst (AgentFits c ok.journal) any.3 ((ok.fits id v at).0 any.0 any.1 any.2) in
      let long = as_long (length any.1.seen) (length ok.journal) any.4 in
      (any.0, any.1, any.2, any.3, prefix_whole any.1.seen ok.journal fits.seen (omega arith))

  pub settles : Settled c s v.agents
  settles = ⊎_elim
      (λ (e : IsEven c ok.journal s). record {
        board = e.board;
        home = e.home;
        plan = e.plan_is;
        fits = subst (λ l. All (AgentFits c l) v.agents) (sym e.journal_is) (ok.fits id v at).0;
        latest = subst (λ l. Any (λ a. a.seen ≡ l) v.agents) (sym e.journal_is) latest;
      })
      (λ (o : IsOdd ok.journal s). absurd (not_odd o))
      ok.phase

-- what lies in a slot is one thing
pub board_same : (b d : BoardView) → Some b ≡ Some d → b ≡ d
board_same b d e = ap (board_or b) e
  where
    board_or : BoardView → Slot → BoardView
    board_or d (Some x) = x
    board_or d None = d
