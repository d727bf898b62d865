-- Whole runs of a board: lists of entries from the opening state (this project's own).
--     IsStep s x               the entry is a step from the state
--     IsLegal c journal        the entries are steps, each from the state that those before it leave
--     final_state_of c journal the state that they leave
--     IsComplete c journal     legal, and no agent may step at its end
use Rattle.std.specs.Prelude.{◌≡◌, List, [], ◌∷◌, Some, fold}
use Rattle.mpb_spec.specs.declared.entry.Entry.{Entry}
use Rattle.mpb_spec.specs.declared.agent.Offer.{Offer}
use Rattle.mpb_spec.specs.State.{BoardState}
use Rattle.mpb_spec.specs.Steps.{next_op, after}
use Rattle.mpb_spec.specs.Outcomes.{outcomes_of}
use Rattle.mpb_spec.specs.May.{IsQuiescent}
use Rattle.mpb_spec.specs.Plan.{Plan, initial_state_of}

-- the entry is a step from the state: its agent makes its op next with some offer, and its outcomes are those of the op
pub record IsStep (s : BoardState) (x : Entry) : Type 0 where
  pub offer : Offer
  pub may : next_op s x.agent offer ≡ Some x.op
  pub outcomes : x.outcomes.items ≡ outcomes_of x.agent x.op s

-- the state that it leaves
abbrev pub after_entry : BoardState → Entry → BoardState
after_entry s x = after x.agent x.op s

-- each entry is a step from the state that those before it leave
abbrev pub AreSteps : BoardState → List Entry → Type 0
AreSteps s [] = Unit {0}
AreSteps s (x ∷ xs) = IsStep s x × AreSteps (after_entry s x) xs

-- the journal is one of the board
abbrev pub IsLegal : Plan → List Entry → Type 0
IsLegal c journal = AreSteps (initial_state_of c) journal

-- the state that the journal leaves
abbrev pub final_state_of : Plan → List Entry → BoardState
final_state_of c journal = fold after_entry (initial_state_of c) journal

-- the journal is one of the board, and no agent may step after it
pub record IsComplete (c : Plan) (journal : List Entry) : Type 0 where
  pub legal : IsLegal c journal
  pub quiescent : IsQuiescent (final_state_of c journal)
