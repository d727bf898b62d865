-- What a turn tells: this project's own.
--     entries_in answer        the entry of a turn that was made, as a list
--     Stepped old f x new      the seat's agent made this entry
--     Answers old g f t new    what the answer says of the board before and after
use Rattle.std.specs.Prelude.{◌≡◌, List, [], ◌∷◌, ◌++◌, Some}
use Rattle.mpb_spec.specs.declared.agent.Agent.{Agent}
use Rattle.mpb_spec.specs.declared.agent.Offer.{Offer}
use Rattle.mpb_spec.specs.declared.entry.Entry.{Entry}
use Rattle.mpb_spec.specs.Steps.{next_op}
use Rattle.mpb_spec.specs.Journal.{IsStep, final_state_of}
use Rattle.mpb_spec.specs.May.{MayStep, MayAny, IsQuiescent}
use Rattle.mpb_board.specs.BoardView.{BoardView, state_of, Grows}
use Rattle.mpb_bus.specs.declared.turn.Turn.{Turn}
use Rattle.mpb_bus.specs.declared.turn.Turn.TheVariants.{Done, Idle, Quiet}
use Rattle.mpb_spec.specs.Agents.{IsPrefix}
use Rattle.mpb_bus.specs.Seats.{AgentSeat}

-- the entry of a turn that was made, as a list
abbrev pub entries_in : Turn → List Entry
entries_in (Done x) = x ∷ []
entries_in t = []

-- the seat's agent made this entry: it is a step with the offer from a journal that goes on from what the seat had seen, and it is the last that the seat has seen
pub record Stepped (old : AgentSeat) (f : Offer) (x : Entry) (new : AgentSeat) : Type 0 where
  pub before : List Entry
  pub prefix : IsPrefix old.seen before
  pub seen : new.seen ≡ before ++ x ∷ []
  pub agent : x.agent ≡ old.agent
  pub op : next_op (final_state_of old.plan before) old.agent f ≡ Some x.op
  pub step : IsStep (final_state_of old.plan before) x

-- what the answer says of the board before and after: a step of the agent with the offer; or no change, where the agent may not step with it and some agent may with some offer, or where none may
abbrev pub Answers : BoardView → Agent → Offer → Turn → BoardView → Type 0
Answers old g f (Done x) new = Grows old g f x new
Answers old g f Idle new = (new ≡ old) × (¬ MayStep (state_of old) g f) × ((h : Agent) × MayAny (state_of old) h)
Answers old g f Quiet new = (new ≡ old) × IsQuiescent (state_of old)
