-- A board goes on by one step, and what its questions tell.
use Rattle.std.proofs.Common.{◌≡◌, ℕ, ◌-◌, ◌<◌, ◌≤◌, ◌^◌, ◌↔◌, Bool, true, false, List, [], ◌∷◌, ◌++◌, length, refl, sym, ap, ◌∙◌, subst, arith, Option, Some, None, is_some, IsTrue, MatchBool, slice_get}
use Rattle.std.proofs.lemmas.List.{length_push, get_or_push}
use Rattle.std.proofs.lemmas.Option.{slice_get-get_or}
use Rattle.mpb_spec.specs.declared.agent.Agent.{Agent}
use Rattle.mpb_spec.specs.declared.agent.Offer.{Offer}
use Rattle.mpb_spec.specs.declared.agent.Op.{Op}
use Rattle.mpb_spec.specs.declared.entry.Entry.{Entry}
use Rattle.mpb_spec.specs.State.{BoardState}
use Rattle.mpb_spec.specs.Steps.{next_op, after}
use Rattle.mpb_spec.specs.Outcomes.{outcomes_of}
use Rattle.mpb_spec.specs.May.{MayStep, MayAny, IsIdle, IsQuiescent}
use Rattle.mpb_spec.specs.Plan.{Plan, initial_state_of, plan_size}
use Rattle.mpb_spec.specs.Configs.{IsConfig}
use Rattle.mpb_spec.specs.Room.{room}
use Rattle.mpb_spec.specs.Journal.{IsStep, IsLegal, after_entry, final_state_of}
use Rattle.mpb_laws.proofs.JournalLemmas.{goes_on, state_after}
use Rattle.mpb_laws.proofs.RoomSum.{within_room}
use Rattle.mpb_laws.proofs.RoomBound.{room_bound}
use Rattle.mpb_laws.proofs.StepAccounts.{accounted}
use Rattle.mpb_board.specs.BoardView.{BoardView, Grows, IsBoard}

-- a board at its start
pub opened : (c : Plan) (s : BoardState) (journal : List Entry) (capacity : ℕ) → s ≡ initial_state_of c → journal ≡ [] → IsConfig c → plan_size c < 2 ^ 32 → room c ≤ capacity → IsBoard c s journal capacity
opened c s journal capacity first none is small reserved =
    subst (λ (l : List Entry). IsBoard c s l capacity) (sym none) (record { state = first; legal = tt; within = omega arith; accounted = accounted c [] is tt; config = is; small = small; reserved = reserved })

-- and after one more step
grown : (c : Plan) (s t : BoardState) (journal : List Entry) (x : Entry) (capacity : ℕ) → IsBoard c s journal capacity → IsStep (final_state_of c journal) x → t ≡ after_entry s x → IsBoard c t (journal ++ x ∷ []) capacity
grown c s t journal x capacity b step next =
    let legal : IsLegal c (journal ++ x ∷ []) = goes_on c journal x b.legal step in
    record {
      state = next ∙ ap (λ (r : BoardState). after_entry r x) b.state ∙ sym (state_after c journal x);
      legal = legal;
      within = within_room c (journal ++ x ∷ []) b.config legal;
      accounted = accounted c (journal ++ x ∷ []) b.config legal;
      config = b.config;
      small = b.small;
      reserved = b.reserved;
    }

-- of an entry with what the agent makes next with the offer
stepped : (c : Plan) (s t : BoardState) (journal : List Entry) (x : Entry) (f : Offer) (capacity : ℕ) → IsBoard c s journal capacity
    → next_op (final_state_of c journal) x.agent f ≡ Some x.op → x.outcomes.items ≡ outcomes_of x.agent x.op s → t ≡ after x.agent x.op s
    → IsBoard c t (journal ++ x ∷ []) capacity
stepped c s t journal x f capacity b may outcomes next =
    let step : IsStep (final_state_of c journal) x = record { offer = f; may = may; outcomes = outcomes ∙ ap (outcomes_of x.agent x.op) b.state } in
    grown c s t journal x capacity b step next

-- the journal has room for it
pub has_room : (c : Plan) (s t : BoardState) (journal : List Entry) (x : Entry) (f : Offer) (capacity : ℕ) → IsBoard c s journal capacity
    → next_op (final_state_of c journal) x.agent f ≡ Some x.op → x.outcomes.items ≡ outcomes_of x.agent x.op s → t ≡ after x.agent x.op s
    → length journal < capacity
has_room c s t journal x f capacity b may outcomes next =
    let longer = stepped c s t journal x f capacity b may outcomes next in
    omega (arith, length_push journal x, longer.within, longer.reserved)

-- and for all that follow, once it is there
pub pushed : (c : Plan) (s t : BoardState) (journal longer : List Entry) (x : Entry) (f : Offer) (before now : ℕ) → IsBoard c s journal before
    → next_op (final_state_of c journal) x.agent f ≡ Some x.op → x.outcomes.items ≡ outcomes_of x.agent x.op s → t ≡ after x.agent x.op s
    → longer ≡ journal ++ x ∷ [] → before ≤ now → IsBoard c t longer now
pushed c s t journal longer x f before now b may outcomes next is more =
    let then = stepped c s t journal x f before b may outcomes next in
    subst (λ (l : List Entry). IsBoard c t l now) (sym is)
    (record { state = then.state; legal = then.legal; within = then.within; accounted = then.accounted; config = then.config; small = then.small; reserved = omega (arith, then.reserved, more) })

-- what the board shows has grown by that entry
pub shown_grows : (old : BoardView) (c : Plan) (s : BoardState) (journal longer : List Entry) (x : Entry) (f : Offer) (capacity : ℕ) → record { plan = c; journal = journal } ≡ old → IsBoard c s journal capacity
    → next_op (final_state_of c journal) x.agent f ≡ Some x.op → x.outcomes.items ≡ outcomes_of x.agent x.op s
    → longer ≡ journal ++ x ∷ [] → Grows old x.agent f x (record { plan = c; journal = longer })
shown_grows old c s journal longer x f capacity same b may outcomes is =
    let step : IsStep (final_state_of c journal) x = record { offer = f; may = may; outcomes = outcomes ∙ ap (outcomes_of x.agent x.op) b.state } in
    subst (λ (o : BoardView). Grows o x.agent f x (record { plan = c; journal = longer })) same (record { plan = refl; journal = is; agent = refl; op = may; step = step })

-- a journal's length fits any count
pub short : (c : Plan) (s : BoardState) (journal : List Entry) (capacity : ℕ) → IsBoard c s journal capacity → length journal < 2 ^ 62
short c s journal capacity b = omega (arith, b.within, room_bound c b.config, b.small)

none-some : (o : Op) → None ≡ Some o → ⊥
none-some o e = cc

-- that there is an op tells that the agent may step
pub may_law : (s : BoardState) (g : Agent) (f : Offer) (b : Bool) → b ≡ is_some (next_op s g f) → IsTrue b ↔ MayStep s g f
may_law s g f b e = rw e (go (next_op s g f) refl) where
  go : (r : Option Op) → next_op s g f ≡ r → IsTrue (is_some r) ↔ MayStep s g f
  go (Some o) w = (λ yes'. (o, w), λ may. refl)
  go None w = (λ no'. cc, λ may. absurd (none-some may.0 (sym w ∙ may.1)))

-- an agent that may step is not idle
pub any_law : (s : BoardState) (g : Agent) (b : Bool) → MatchBool b (MayAny s g) (IsIdle s g) → IsTrue b ↔ MayAny s g
any_law s g true m = (λ yes'. m, λ may. refl)
any_law s g false m = (λ no'. cc, λ may. absurd (none-some may.1.0 (sym (m may.0) ∙ may.1.1)))

-- and where one may step, the board is not quiescent
pub quiet_law : (s : BoardState) (b : Bool) → MatchBool b (IsQuiescent s) ((g : Agent) × MayAny s g) → IsTrue b ↔ IsQuiescent s
quiet_law s true m = (λ yes'. m, λ q. refl)
quiet_law s false m = (λ no'. cc, λ q. absurd (none-some m.1.1.0 (sym (q m.0 m.1.0) ∙ m.1.1.1)))

-- the last entry of a longer journal
last_of : (xs ys : List Entry) (x : Entry) → ys ≡ xs ++ x ∷ [] → slice_get ys (length ys - 1) ≡ Some x
last_of xs ys x e =
    let long : length (xs ++ x ∷ []) - 1 ≡ length xs = omega (arith, length_push xs x) in
    subst (λ (l : List Entry). slice_get l (length l - 1) ≡ Some x) (sym e)
    (ap (slice_get (xs ++ x ∷ [])) long ∙ slice_get-get_or (xs ++ x ∷ []) (length xs) x (omega (arith, length_push xs x)) ∙ ap Some (get_or_push xs x x (length xs) refl))

same_entry : (x y : Entry) → Some x ≡ Some y → x ≡ y
same_entry x y e = cc

-- a journal that grew by an entry grew by its last one
pub last_grows : (old new : BoardView) (g : Agent) (f : Offer) (x y : Entry) → Grows old g f x new → slice_get new.journal (length new.journal - 1) ≡ Some y → Grows old g f y new
last_grows old new g f x y h e = subst (λ (z : Entry). Grows old g f z new) (same_entry x y (sym (last_of old.journal new.journal x h.journal) ∙ e)) h

-- and has one
pub some_last : (old new : BoardView) (g : Agent) (f : Offer) (x : Entry) → Grows old g f x new → slice_get new.journal (length new.journal - 1) ≡ Some x
some_last old new g f x h = last_of old.journal new.journal x h.journal
