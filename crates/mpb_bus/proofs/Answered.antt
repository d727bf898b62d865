-- What a turn, a meeting and the end tell of what the seats have seen.
use Rattle.std.proofs.Common.{◌≡◌, List, [], ◌∷◌, ◌++◌, get_or, map, All, Any, Some, None, refl, sym, ap, ◌∙◌, subst, inl, inr, append-nil}
use Rattle.mpb_spec.specs.declared.agent.Agent.{Agent}
use Rattle.mpb_spec.specs.declared.agent.Offer.{Offer}
use Rattle.mpb_spec.specs.declared.agent.Op.{Op}
use Rattle.mpb_spec.specs.declared.entry.Entry.{Entry}
use Rattle.mpb_spec.specs.Plan.{Plan}
use Rattle.mpb_spec.specs.State.{BoardState}
use Rattle.mpb_spec.specs.Journal.{IsLegal, IsComplete, final_state_of}
use Rattle.mpb_spec.specs.May.{MayStep, MayAny, IsQuiescent}
use Rattle.mpb_laws.proofs.JournalLemmas.{next_may}
use Rattle.mpb_board.specs.BoardView.{BoardView, state_of}
use Rattle.mpb_bus.specs.declared.turn.Turn.{Turn}
use Rattle.mpb_bus.specs.declared.turn.Turn.TheVariants.{Done, Idle, Quiet}
use Rattle.mpb_bus.specs.declared.view.AgentView.{AgentView}
use Rattle.mpb_spec.specs.Agents.{IsPrefix, entries_of}
use Rattle.mpb_bus.specs.Seats.{AgentSeat, state_seen}
use Rattle.mpb_bus.specs.Turns.{Answers}
use Rattle.mpb_bus.specs.Rule.{AgentFits, GrowsBy, taken, given, known_agent}
use Rattle.mpb_spec.proofs.Lists.{all_mapped, any_mapped}
use Rattle.mpb_bus.proofs.Journals.{prefix_refl, prefix_push, prefix_trans}
use Rattle.mpb_bus.proofs.Gives.{mine_given}

-- one turn on the board
module _ (b b' : BoardView) (g : Agent) (f : Offer) where
  pub grows_on : (t : Turn) → Answers b g f t b' → IsPrefix b.journal b'.journal
  grows_on (Done x) h = subst (IsPrefix b.journal) (sym h.journal) (prefix_push b.journal x)
  grows_on Idle h = subst (λ (z : BoardView). IsPrefix b.journal z.journal) (sym h.0) (prefix_refl b.journal)
  grows_on Quiet h = subst (λ (z : BoardView). IsPrefix b.journal z.journal) (sym h.0) (prefix_refl b.journal)

  -- by an entry of the agent at most
  pub grows_by : (a : AgentView) → g ≡ a.agent → (t : Turn) → Answers b g f t b' → GrowsBy (taken b.journal a) b'.journal
  grows_by a is (Done x) h = inr (x, h.journal, h.agent ∙ is)
  grows_by a is Idle h = inl (ap (λ (z : BoardView). z.journal) h.0)
  grows_by a is Quiet h = inl (ap (λ (z : BoardView). z.journal) h.0)

  -- what the agent knows after it has taken the turn and given it back
  module _ (a : AgentView) (is : g ≡ a.agent) (fits : AgentFits b.plan b.journal a) (t : Turn) (h : Answers b g f t b') where
    abbrev then : AgentView
    then = given b'.journal (taken b.journal a)

    pub sees_on : IsPrefix a.seen then.seen
    sees_on = prefix_trans a.seen b.journal b'.journal fits.seen (grows_on t h)

    pub knows_own : then.mine ≡ entries_of then.agent then.seen
    knows_own = mine_given (taken b.journal a) b'.journal b.journal refl fits.mine (grows_by a is t h)

    pub keeps_olds : All (λ xs. IsPrefix xs then.seen) then.olds
    keeps_olds k d l = prefix_trans (get_or a.olds k d) b.journal b'.journal (fits.olds k d l) (grows_on t h)

    pub is_idle : t ≡ Idle → (¬ MayStep (final_state_of then.config then.seen) then.agent f) × ((x : Agent) × MayAny (final_state_of then.config then.seen) x)
    is_idle e =
        let told : Answers b g f Idle b' = subst (λ x. Answers b g f x b') e h in
        let journal : b'.journal ≡ b.journal = ap (λ (z : BoardView). z.journal) told.0 in
        let state : state_of b ≡ final_state_of a.config b'.journal = ap (λ l. final_state_of b.plan l) (sym journal) ∙ ap (λ p. final_state_of p b'.journal) (sym fits.config) in
        (subst (λ (x : BoardState × Agent). ¬ MayStep x.0 x.1 f) (λ i. (state i, is i)) told.1, (told.2.0, subst (λ s. MayAny s told.2.0) state told.2.1))

none-some : (o : Op) → None ≡ Some o → ⊥
none-some o e = cc

-- what is seen where nobody may step can't be continued
pub quiet_whole : (c : Plan) (seen journal : List Entry) → IsPrefix seen journal → IsLegal c journal → IsQuiescent (final_state_of c seen) → seen ≡ journal
quiet_whole c seen journal p legal quiet = by_rest p.0 (p.1)
  where
    by_rest : (rest : List Entry) → journal ≡ seen ++ rest → seen ≡ journal
    by_rest [] e = sym (e ∙ append-nil seen)
    by_rest (x ∷ rest) e =
        let may = next_may c seen x rest (subst (IsLegal c) e legal) in
        absurd (none-some may.1.0 (sym (quiet x.agent may.0) ∙ may.1.1))

-- the end, said of the seats that are given up
module _ (c : Plan) (journal : List Entry) (seats : List AgentSeat) (agents : List AgentView) (same : agents ≡ map known_agent seats) (fits : All (AgentFits c journal) agents) where
  fits_seats : All (λ s. AgentFits c journal (known_agent s)) seats
  fits_seats = all_mapped (AgentFits c journal) known_agent seats agents same fits

  pub all_begin : All (λ s. IsPrefix s.seen journal) seats
  all_begin k d l = (fits_seats k d l).seen

  pub all_own : All (λ s. s.mine ≡ entries_of s.agent journal) seats
  all_own k d l = (fits_seats k d l).mine

  pub all_quiet : IsLegal c journal → All (λ s. IsQuiescent (state_seen s) → s.seen ≡ journal) seats
  all_quiet legal k d l quiet =
      let s = get_or seats k d in
      let f = fits_seats k d l in
      quiet_whole c s.seen journal f.seen legal (subst (λ p. IsQuiescent (final_state_of p s.seen)) f.config quiet)

  pub all_complete : IsLegal c journal → All (λ s. IsQuiescent (state_seen s) → IsComplete c journal) seats
  all_complete legal k d l quiet =
      let s = get_or seats k d in
      record { legal = legal; quiescent = subst (λ (x : Plan × List Entry). IsQuiescent (final_state_of x.0 x.1)) (λ i. ((fits_seats k d l).config i, all_quiet legal k d l quiet i)) quiet }

  pub all_planned : All (λ s. s.plan ≡ c) seats
  all_planned k d l = (fits_seats k d l).config

  pub some_whole : Any (λ a. a.seen ≡ journal) agents → Any (λ s. s.seen ≡ journal) seats
  some_whole any = any_mapped (λ (a : AgentView). a.seen ≡ journal) known_agent seats agents same any
