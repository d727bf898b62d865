-- What a shared bus and its seats show to their callers: this project's own.
use Rattle.std.specs.Prelude.{◌≡◌, ℕ, List, [], map, All}
use Rattle.atomic_table.specs.Seated.{TableId}
use Rattle.mpb_spec.specs.declared.agent.Agent.{Agent}
use Rattle.mpb_spec.specs.declared.entry.Entry.{Entry}
use Rattle.mpb_spec.specs.Plan.{Plan}
use Rattle.mpb_spec.specs.State.{BoardState}
use Rattle.mpb_spec.specs.Journal.{final_state_of}
use Rattle.mpb_spec.specs.Agents.{agents_of, entries_of}

-- a bus: which one it is, and the plan of its board
pub record SharedBus : Type 0 where
  pub bus : TableId
  pub plan : Plan

-- an agent's seat: of which bus, which agent, the plan of the board, the journal as the seat last saw it, the agent's own entries, how often it took the turn, and what the two seats of the last meeting had seen before it
pub record AgentSeat : Type 0 where
  pub bus : TableId
  pub agent : Agent
  pub plan : Plan
  pub seen : List Entry
  pub mine : List Entry
  pub turns : ℕ
  pub olds : List (List Entry)

-- the seat of an agent that hasn't taken the turn yet
abbrev pub fresh_seat : TableId → Plan → List Entry → Agent → AgentSeat
fresh_seat bus plan journal g = record { bus = bus; agent = g; plan = plan; seen = journal; mine = entries_of g journal; turns = 0; olds = [] }

-- the state that the journal leaves as the seat last saw it
abbrev pub state_seen : AgentSeat → BoardState
state_seen s = final_state_of s.plan s.seen

-- these are all seats of the bus, in the order of the agents
abbrev pub AreSeatsOf : SharedBus → List AgentSeat → Type 0
AreSeatsOf bus seats = (map (λ s. s.agent) seats ≡ agents_of bus.plan) × All (λ s. s.bus ≡ bus.bus) seats
