-- A board that advances, and the run that it is part of.
use Rattle.std.proofs.Common.{◌≡◌, Bool, true, false, List, [], ◌∷◌, ◌++◌, refl, sym, ap, ap₂, ◌∙◌, ℕ, Option, None, Some, is_some, MatchBool}
use Rattle.mpb_spec.specs.declared.agent.Agent.{Agent}
use Rattle.mpb_spec.specs.declared.agent.Offer.{Offer}
use Rattle.mpb_spec.specs.declared.agent.Op.{Op}
use Rattle.mpb_spec.specs.declared.entry.Entry.{Entry}
use Rattle.mpb_spec.specs.declared.entry.Outcome.{Outcome}
use Rattle.std.specs.Int.{bit_at}
use Rattle.mpb_spec.specs.declared.pulse.Pulse.{Pulse}
use Rattle.mpb_spec.specs.declared.pulse.Hit.{Hit}
use Rattle.mpb_spec.specs.Pulses.{hit_of}
use Rattle.mpb_spec.specs.PlainLatch.{PlainState, pins_at, pulsed}
use Rattle.mpb_spec.specs.Steps.{next_op}
use Rattle.mpb_spec.specs.Outcomes.{outcomes_of}
use Rattle.mpb_spec.specs.State.{BoardState, change_at}
use Rattle.mpb_spec.specs.May.{MayStep}
use Rattle.mpb_spec.specs.Plan.{Plan}
use Rattle.mpb_board.specs.BoardView.{BoardView, state_of, Grows}
use Rattle.mpb_robin.specs.RoundRobin.{Run, state_in, entry_of, with_op_of, with_pulse, with_step}

-- what the call answers
abbrev pub Advanced : BoardView → Agent → Offer → Bool → BoardView → Type 0
Advanced old g f b new = MatchBool b ((x : Entry) × Grows old g f x new) ((new ≡ old) × (¬ MayStep (state_of old) g f))

none-some : (o : Op) → None ≡ Some o → ⊥
none-some o e = cc

-- whether there was an op
pub was_made : (old new : BoardView) (g : Agent) (f : Offer) (b : Bool) → Advanced old g f b new → b ≡ is_some (next_op (state_of old) g f)
was_made old new g f true m = sym (ap is_some m.1.op)
was_made old new g f false m = go (next_op (state_of old) g f) refl where
  go : (r : Option Op) → next_op (state_of old) g f ≡ r → false ≡ is_some r
  go None w = refl
  go (Some o) w = absurd (m.1 (o, w))

same_entry : (g h : Agent) (o : Op) (s : BoardState) (xs : List Outcome) → h ≡ g → xs ≡ outcomes_of h o s → ◌≡◌ {A = Entry} (record { agent = h; op = o; outcomes = record { items = xs } }) (entry_of g o s)
same_entry g h o s xs e is = ap (λ (l : List Outcome). record { agent = h; op = o; outcomes = record { items = l } }) is ∙ ap (λ (k : Agent). entry_of k o s) e

-- the run with its board as it is now
abbrev pub with_board : BoardView → Run → Run
with_board b r = record r { plan = b.plan; journal = b.journal }

pub run_advanced : (r : Run) (new : BoardView) (g : Agent) (f : Offer) (b : Bool) → Advanced (record { plan = r.plan; journal = r.journal }) g f b new → with_board new r ≡ with_step g f r
run_advanced r new g f true m =
    let x = m.0 in
    let h = m.1 in
    ap (λ (p : Plan). record r { plan = p; journal = new.journal }) h.plan
    ∙ ap (λ (l : List Entry). record r { journal = l }) (h.journal ∙ ap (λ (y : Entry). r.journal ++ y ∷ []) (same_entry g x.agent x.op (state_in r) x.outcomes.items h.agent h.step.outcomes))
    ∙ sym (ap (λ (o : Option Op). with_op_of g o r) h.op)
run_advanced r new g f false m = ap (λ (b : BoardView). with_board b r) m.0 ∙ go (next_op (state_in r) g f) refl where
  go : (o : Option Op) → next_op (state_in r) g f ≡ o → r ≡ with_op_of g o r
  go None w = refl
  go (Some o) w = absurd (m.1 (o, w))

-- a pulse, in the latch and in the log
pub run_pulsed : (r s : Run) (d : ℕ) (p : Pulse) (latch : PlainState) (h : Hit) (logs : List (List (Pulse × Hit))) → r ≡ s → latch ≡ pulsed p r.latch → h ≡ hit_of (bit_at (pins_at p.io r.latch) p.pin)
    → logs ≡ change_at d (λ log. log ++ (p, h) ∷ []) r.logs → record r { latch = latch; logs = logs } ≡ with_pulse d p s
run_pulsed r s d p latch h logs same now hit told =
    ap₂ (λ (l : PlainState) (ls : List (List (Pulse × Hit))). record r { latch = l; logs = ls }) now (told ∙ ap (λ (k : Hit). change_at d (λ log. log ++ (p, k) ∷ []) r.logs) hit)
    ∙ ap (λ (q : Run). with_pulse d p q) same
