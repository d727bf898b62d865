-- Journals in parts: a first part of a legal journal is legal, the entry after it is a step, and a step goes on.
use Rattle.std.proofs.Common.{◌≡◌, List, [], ◌∷◌, ◌++◌, fold, refl}
use Rattle.mpb_spec.specs.declared.entry.Entry.{Entry}
use Rattle.mpb_spec.specs.State.{BoardState}
use Rattle.mpb_spec.specs.Plan.{Plan, initial_state_of}
use Rattle.mpb_spec.specs.Journal.{IsStep, AreSteps, IsLegal, after_entry, final_state_of}
use Rattle.mpb_spec.specs.May.{MayAny}

steps-push : (s : BoardState) (xs : List Entry) (x : Entry) → AreSteps s xs → IsStep (fold after_entry s xs) x → AreSteps s (xs ++ x ∷ [])
steps-push s [] x steps step = (step, tt)
steps-push s (y ∷ xs) x steps step = (steps.0, steps-push (after_entry s y) xs x steps.1 step)

fold-push : (s : BoardState) (xs : List Entry) (x : Entry) → fold after_entry s (xs ++ x ∷ []) ≡ after_entry (fold after_entry s xs) x
fold-push s [] x = refl
fold-push s (y ∷ xs) x = fold-push (after_entry s y) xs x

steps-first : (s : BoardState) (xs ys : List Entry) → AreSteps s (xs ++ ys) → AreSteps s xs
steps-first s [] ys steps = tt
steps-first s (x ∷ xs) ys steps = (steps.0, steps-first (after_entry s x) xs ys steps.1)

step-after : (s : BoardState) (xs : List Entry) (x : Entry) (ys : List Entry) → AreSteps s (xs ++ x ∷ ys) → IsStep (fold after_entry s xs) x
step-after s [] x ys steps = steps.0
step-after s (z ∷ xs) x ys steps = step-after (after_entry s z) xs x ys steps.1

pub goes_on : (c : Plan) (journal : List Entry) (x : Entry) → IsLegal c journal → IsStep (final_state_of c journal) x → IsLegal c (journal ++ x ∷ [])
goes_on c journal x legal step = steps-push (initial_state_of c) journal x legal step

pub state_after : (c : Plan) (journal : List Entry) (x : Entry) → final_state_of c (journal ++ x ∷ []) ≡ after_entry (final_state_of c journal) x
state_after c journal x = fold-push (initial_state_of c) journal x

pub first_part : (c : Plan) (seen rest : List Entry) → IsLegal c (seen ++ rest) → IsLegal c seen
first_part c seen rest legal = steps-first (initial_state_of c) seen rest legal

pub next_step : (c : Plan) (seen : List Entry) (x : Entry) (rest : List Entry) → IsLegal c (seen ++ x ∷ rest) → IsStep (final_state_of c seen) x
next_step c seen x rest legal = step-after (initial_state_of c) seen x rest legal

pub next_may : (c : Plan) (seen : List Entry) (x : Entry) (rest : List Entry) → IsLegal c (seen ++ x ∷ rest) → MayAny (final_state_of c seen) x.agent
next_may c seen x rest legal = let step = next_step c seen x rest legal in (step.offer, (x.op, step.may))
