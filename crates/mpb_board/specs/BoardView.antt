-- What a board stands for (this project's own).
--     BoardView                  its plan, and the journal of its steps
--     state_of b                 the state that the journal leaves
--     IsBoard c s journal n      what the type of a board keeps of its config, its state, its journal, and the journal's capacity
--     Grows old g f x new        one step of the agent with the offer: its entry is appended
use Rattle.std.specs.Prelude.{◌≡◌, ℕ, ◌≤◌, ◌<◌, ◌^◌, length, List, [], ◌∷◌, ◌++◌, Some}
use Rattle.mpb_spec.specs.declared.agent.Agent.{Agent}
use Rattle.mpb_spec.specs.declared.agent.Offer.{Offer}
use Rattle.mpb_spec.specs.declared.entry.Entry.{Entry}
use Rattle.mpb_spec.specs.State.{BoardState}
use Rattle.mpb_spec.specs.Steps.{next_op}
use Rattle.mpb_spec.specs.Journal.{IsStep, IsLegal, final_state_of}
use Rattle.mpb_spec.specs.Plan.{Plan, plan_size}
use Rattle.mpb_spec.specs.Configs.{IsConfig}
use Rattle.mpb_spec.specs.Room.{room}
use Rattle.mpb_laws.specs.Accounts.{IsAccounted}

-- a plan, and a journal
pub record BoardView : Type 0 where
  pub plan : Plan
  pub journal : List Entry

-- the state that the journal leaves
abbrev pub state_of : BoardView → BoardState
state_of b = final_state_of b.plan b.journal

-- the state is that of the journal, which is legal, within the room, and has every vector that was set taken or still requested;
-- the plan is a config with fewer than 2 ^ 32 ops and pulses, and no journal of it is longer than the capacity
pub record IsBoard (c : Plan) (s : BoardState) (journal : List Entry) (capacity : ℕ) : Type 0 where
  pub state : s ≡ final_state_of c journal
  pub legal : IsLegal c journal
  pub within : length journal ≤ room c
  pub accounted : IsAccounted c journal
  pub config : IsConfig c
  pub small : plan_size c < 2 ^ 32
  pub reserved : room c ≤ capacity

-- the plan stays, and the journal grows by one entry, of the agent, of what it makes next with the offer, and a step
pub record Grows (old : BoardView) (g : Agent) (f : Offer) (x : Entry) (new : BoardView) : Type 0 where
  pub plan : new.plan ≡ old.plan
  pub journal : new.journal ≡ old.journal ++ x ∷ []
  pub agent : x.agent ≡ g
  pub op : next_op (state_of old) g f ≡ Some x.op
  pub step : IsStep (state_of old) x
