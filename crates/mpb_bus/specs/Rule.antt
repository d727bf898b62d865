-- The rule of the shared bus, which only this crate's private functions cite: this project's own.
-- The one word is twice the length of the journal, and one more while a seat holds the board.
--     resting, holding, nobody                the views of an agent without the board, of one with it, and of none
--     agent_of v                              the first agent of a view
--     fresh_agent, opening_view               an agent at first, and the view of all
--     taken, given                            an agent that takes the turn, and that gives it back
--     without_agent, first_agent, together    views cut in two, and put together
--     telling, hearing, heard                 what one seat has seen is told to another
--     over_agents f views                     something of each agent, added up over all views
--     AgentFits, ViewFits                     what is known fits a journal
--     IsEven, IsOdd, IsKept                   the rule, by the word
--     Takes, Gives                            what a take and a give tell
use Rattle.std.specs.Prelude.{◌≡◌, ◌≢◌, ◌⊎◌, ℕ, ◌+◌, ◌*◌, ◌<◌, ◌≤◌, ◌==◌, true, false, List, [], ◌∷◌, ◌++◌, map, length, drop, slice_index, slice_index_or, All, sum_by, Option, Some, None}
use mathlib.Core.Option.{some}
use lib.ListN.{get_elem?}
use Rattle.atomic_table.specs.Seated.{TableId}
use Rattle.atomic_table.specs.Table.{State, Me, Step}
use Rattle.mpb_spec.specs.declared.agent.Agent.{Agent}
use Rattle.mpb_spec.specs.declared.agent.Agent.TheVariants.{Cpu}
use Rattle.mpb_spec.specs.declared.entry.Entry.{Entry}
use Rattle.mpb_spec.specs.Lists.{one_if, rest_of, first_of_list}
use Rattle.mpb_spec.specs.Plan.{Plan}
use Rattle.mpb_board.specs.BoardView.{BoardView}
use Rattle.mpb_bus.specs.declared.view.AgentView.{AgentView}
use Rattle.mpb_bus.specs.declared.view.SeatView.{SeatView}
use Rattle.mpb_spec.specs.Agents.{agents_of, is_agent, entries_of, IsPrefix}
use Rattle.mpb_bus.specs.Seats.{AgentSeat}

-- what lies in the slot: nothing while a seat has taken the board out
abbrev pub Slot : Type 0
Slot = Option BoardView

-- what stands where a list has no such place
abbrev pub no_agent : AgentView
no_agent = record { agent = Cpu 0; config = record { boot = 0; boot_len = 0; cpus = []; ios = []; imcr = false; devices = [] }; seen = []; mine = []; turns = 0; olds = [] }

-- the view of one agent that doesn't hold the board
abbrev pub resting : AgentView → SeatView
resting a = record { agents = a ∷ []; told = []; holds = false }

-- the view of one that does
abbrev pub holding : AgentView → SeatView
holding a = record { agents = a ∷ []; told = []; holds = true }

-- the view of no agent
abbrev pub nobody : SeatView
nobody = record { agents = []; told = []; holds = false }

-- the first agent of a view
abbrev pub agent_of : SeatView → AgentView
agent_of v = slice_index_or v.agents 0 no_agent

-- what the seat shows of it
abbrev pub shown_agent : TableId → AgentView → AgentSeat
shown_agent bus a = record { bus = bus; agent = a.agent; plan = a.config; seen = a.seen; mine = a.mine; turns = a.turns; olds = a.olds }

-- what is known of it by what the seat shows
abbrev pub known_agent : AgentSeat → AgentView
known_agent s = record { agent = s.agent; config = s.plan; seen = s.seen; mine = s.mine; turns = s.turns; olds = s.olds }

-- an agent that has seen the journal and hasn't taken the turn yet
abbrev pub fresh_agent : Plan → List Entry → Agent → AgentView
fresh_agent c journal g = record { agent = g; config = c; seen = journal; mine = entries_of g journal; turns = 0; olds = [] }

-- the first view, of all agents
abbrev pub opening_view : Plan → List Entry → SeatView
opening_view c journal = record { agents = map (fresh_agent c journal) (agents_of c); told = []; holds = false }

-- an agent that has won the turn sees the journal
abbrev pub taken : List Entry → AgentView → AgentView
taken journal a = record { agent = a.agent; config = a.config; seen = journal; mine = a.mine; turns = a.turns + 1; olds = a.olds }

-- one that gives it back sees what was added
abbrev pub given : List Entry → AgentView → AgentView
given journal a = record { agent = a.agent; config = a.config; seen = journal; mine = a.mine ++ drop (length a.seen) journal; turns = a.turns; olds = a.olds }

-- a view that is cut behind its first agent: what is left
abbrev pub without_agent : SeatView → SeatView
without_agent v = record { agents = rest_of v.agents; told = v.told; holds = false }

-- and what is cut off
abbrev pub first_agent : SeatView → SeatView
first_agent v = record { agents = first_of_list v.agents; told = []; holds = false }

-- two views put together
abbrev pub together : SeatView → SeatView → SeatView
together v w = record { agents = v.agents ++ w.agents; told = v.told ++ w.told; holds = false }

-- a view without an agent, which tells what the first agent has seen
abbrev pub telling : SeatView → SeatView
telling v = record { agents = []; told = (agent_of v).seen ∷ []; holds = false }

-- an agent that hears it
abbrev pub hearing : List (List Entry) → AgentView → AgentView
hearing told a = record { agent = a.agent; config = a.config; seen = a.seen; mine = a.mine; turns = a.turns; olds = told ++ a.seen ∷ [] }

-- the view of such an agent, when it is told by another view
abbrev pub heard : SeatView → SeatView → SeatView
heard v w = resting (hearing w.told (agent_of v))

-- something of each agent, added up over all views
abbrev pub over_agents : (AgentView → ℕ) → List SeatView → ℕ
over_agents f views = sum_by (λ v. sum_by f v.agents) views

-- how often an agent is among these
abbrev pub times : Agent → List Agent → ℕ
times g agents = sum_by (λ h. one_if (is_agent h g)) agents

-- each list was a journal before this one
abbrev pub AreOld : List Entry → List (List Entry) → Type 0
AreOld journal lists = All (λ xs. IsPrefix xs journal) lists

-- an agent's own entries are its entries of the journal, and what it has seen is the journal's first part
pub record AgentFits (c : Plan) (journal : List Entry) (a : AgentView) : Type 0 where
  pub config : a.config ≡ c
  pub seen : IsPrefix a.seen journal
  pub mine : a.mine ≡ entries_of a.agent journal
  pub olds : AreOld journal a.olds

-- so it is for each agent of a view, and for what it was told
abbrev pub ViewFits : Plan → List Entry → SeatView → Type 0
ViewFits c journal v = All (AgentFits c journal) v.agents × AreOld journal v.told

-- the word is even: the board is at home and has this journal, and nobody holds it
pub record IsEven (c : Plan) (journal : List Entry) (s : State Slot SeatView) : Type 0 where
  pub word : slice_index s.words 0 ≡ 2 * length journal
  pub board : BoardView
  pub home : get_elem? s.homes 0 ≡ some (some (Some board))
  pub plan_is : board.plan ≡ c
  pub journal_is : board.journal ≡ journal
  pub free : (id : ℕ) (v : SeatView) → get_elem? s.views id ≡ some v → v.holds ≡ false

-- the word is odd: one seat holds the board, and has seen this journal
pub record IsOdd (journal : List Entry) (s : State Slot SeatView) : Type 0 where
  pub word : slice_index s.words 0 ≡ 2 * length journal + 1
  pub holder : ℕ
  pub agent : AgentView
  pub held_by : get_elem? s.views holder ≡ some (holding agent)
  pub seen : agent.seen ≡ journal
  pub alone : (id : ℕ) (v : SeatView) → get_elem? s.views id ≡ some v → v.holds ≡ true → id ≡ holder

-- the rule: the journal is that of the last even moment, each agent of the board is once in all views, and some agent has seen the whole journal
pub record IsKept (c : Plan) (s : State Slot SeatView) : Type 0 where
  pub journal : List Entry
  pub wide : length s.words ≡ 1
  pub slots : length s.homes ≡ 1
  pub phase : IsEven c journal s ⊎ IsOdd journal s
  pub agents : (f : Agent → ℕ) → over_agents (λ a. f a.agent) s.views ≡ sum_by f (agents_of c)
  pub once : (g : Agent) → times g (agents_of c) ≤ 1
  pub fits : (id : ℕ) (v : SeatView) → get_elem? s.views id ≡ some v → ViewFits c journal v
  pub latest : 0 < over_agents (λ a. one_if (length a.seen == length journal)) s.views

-- a seat: its view, and the slots that it holds
abbrev pub Sat : Type 0
Sat = Me Slot SeatView

-- a take that is won: the seat has the slot with the board, has seen its journal, and what is known of the agent fits it
pub record Took (m : Sat) (m' : Sat) : Type 0 where
  pub board : BoardView
  pub sat : m' ≡ (holding (taken board.journal (agent_of m.0)), (0, Some board) ∷ m.1)
  pub fits : AgentFits board.plan board.journal (agent_of m.0)

-- what a take tells its caller, won or lost
abbrev pub Takes : Step Slot → Sat → ℕ → Sat → Type 0
Takes st m n m' = (n ≡ st.first → Took m m') × (n ≢ st.first → m' ≡ m)

-- the journal of the board in the slot
abbrev pub journal_in : List (ℕ × Slot) → List Entry
journal_in [] = []
journal_in ((k, None) ∷ xs) = []
journal_in ((k, Some board) ∷ xs) = board.journal

-- what a give tells
abbrev pub Gives : Step Slot → Sat → ℕ → Sat → Type 0
Gives st m n m' = m' ≡ (resting (given (journal_in m.1) (agent_of m.0)), [])

-- the journal is what the agent has seen, or one entry of the agent more
abbrev pub GrowsBy : AgentView → List Entry → Type 0
GrowsBy a journal = (journal ≡ a.seen) ⊎ ((x : Entry) × (journal ≡ a.seen ++ x ∷ []) × (x.agent ≡ a.agent))
