-- The workers of a threaded run, one for each agent, and what each has done with its own seats (this project's own).
--     fresh_worker bus latch c g     the worker of an agent that has done nothing yet
--     IsReady, HasEnded              what holds of a worker before and after its run
--     IsSame old new                 a seat of the same agent on the same bus
--     IsAtRest b                     no agent may step in the state that the seat has seen
--     Took old f t new               what a turn with an offer comes to
--     IsCollecting held b c          what holds of an I/O APIC's seats between two of its turns
--     IsDevice d words b             the seat of a device with these words
--     IsMaking words n b s           what holds of a device's seats after its Begin and n words
use Rattle.std.specs.Prelude.{◌≡◌, ◌<◌, ℕ, ◌+◌, Bool, true, false, List, [], ◌∷◌, ◌++◌, Some, Option, None, map, filter_map, take, length, slice_index, slice_index_or}
use Rattle.std.specs.List.{list_any}
use Rattle.std.specs.Int.{bit_at}
use Rattle.atomic_table.specs.Seated.{TableId}
use Rattle.mpb_spec.specs.declared.agent.Agent.{Agent}
use Rattle.mpb_spec.specs.declared.agent.Agent.TheVariants.{Cpu, Io, Dev}
use Rattle.mpb_spec.specs.declared.agent.Offer.{Offer}
use Rattle.mpb_spec.specs.declared.agent.Op.{Op}
use Rattle.mpb_spec.specs.declared.agent.Op.TheVariants as op
use Rattle.mpb_spec.specs.declared.config.DevWord.{DevWord}
use Rattle.mpb_spec.specs.declared.entry.Entry.{Entry}
use Rattle.mpb_spec.specs.State.{BoardState}
use Rattle.mpb_spec.specs.Plan.{Plan, op_of_word}
use Rattle.mpb_spec.specs.Steps.{next_op}
use Rattle.mpb_spec.specs.May.{IsQuiescent}
use Rattle.mpb_spec.specs.Journal.{IsLegal}
use Rattle.mpb_latch.specs.Seats.{DeviceSeat, CollectorSeat, fresh_device_seat, fresh_collector_seat}
use Rattle.mpb_spec.specs.Agents.{entries_of}
use Rattle.mpb_bus.specs.Seats.{AgentSeat, fresh_seat, state_seen}
use Rattle.mpb_spec.specs.Pulses.{pulse_of, pulses_in}
use Rattle.mpb_robin.specs.Account.{collected_count}
use Rattle.mpb_robin.specs.Rest.{IsAgentOf}
use Rattle.mpb_crew.specs.declared.answer.Answer.{Answer}
use Rattle.mpb_crew.specs.declared.answer.Answer.TheVariants.{Made, Idle, Quiet}
use Rattle.mpb_crew.specs.declared.worker.Part.{Part}
use Rattle.mpb_crew.specs.declared.worker.Part.TheVariants as part
use Rattle.mpb_crew.specs.declared.worker.Worker.{Worker}

-- ---- the bus

-- a seat of the same agent on the same bus
abbrev pub IsSame : AgentSeat → AgentSeat → Type 0
IsSame old new = (new.bus ≡ old.bus) × (new.agent ≡ old.agent) × (new.plan ≡ old.plan)

-- no agent may step in the state that the seat has seen, which is that of a legal journal with just the seat's own entries as its agent's
pub record IsAtRest (b : AgentSeat) : Type 0 where
  pub legal : IsLegal b.plan b.seen
  pub own : b.mine ≡ entries_of b.agent b.seen
  pub quiet : IsQuiescent (state_seen b)

-- what an answer says: one entry more, the agent's, of the op that it made next with the offer; nothing more; nothing more, and rest
abbrev pub Tells : AgentSeat → Offer → Answer → AgentSeat → Type 0
Tells old f Made new = (x : Entry) × (new.mine ≡ old.mine ++ x ∷ []) × (x.agent ≡ old.agent) × ((s : BoardState) × (next_op s old.agent f ≡ Some x.op))
Tells old f Idle new = new.mine ≡ old.mine
Tells old f Quiet new = (new.mine ≡ old.mine) × IsAtRest new

-- what a turn with an offer comes to
pub record Took (old : AgentSeat) (f : Offer) (t : Answer) (new : AgentSeat) : Type 0 where
  pub same : IsSame old new
  pub tells : Tells old f t new

-- rest, where the answer says so
abbrev pub RestsAt : Answer → AgentSeat → Type 0
RestsAt Made b = Unit {0}
RestsAt Idle b = Unit {0}
RestsAt Quiet b = IsAtRest b

-- ---- an I/O APIC

-- the op is a sweep
abbrev pub is_sweep : Op → Bool
is_sweep op.Sweep = true
is_sweep o = false

-- one of the entries is a sweep
abbrev pub has_swept : List Entry → Bool
has_swept entries = list_any (λ x. is_sweep x.op) entries

-- between two turns: each count is that of the collections that were made, and of the pins that are held; the I/O APIC has swept
-- only where the collector is dry, and then no pins are held
pub record IsCollecting (held : ℕ) (b : AgentSeat) (c : CollectorSeat) : Type 0 where
  pub agent : b.agent ≡ Io c.io
  pub counts : (pin : ℕ) → pin < 24 → slice_index c.counts pin ≡ collected_count c.io pin b.mine + bit_at held pin
  pub swept : has_swept b.mine ≡ true → c.dry ≡ true
  pub empty : c.dry ≡ true → held ≡ 0

-- after such a turn
pub record WasTurn (held : ℕ) (old : AgentSeat) (t : Answer) (new : AgentSeat) (c : CollectorSeat) : Type 0 where
  pub same : IsSame old new
  pub account : IsCollecting held new c
  pub rests : RestsAt t new

-- at the end: the collector is dry, and each count is that of the collections that were made
pub record HasCollected (b : AgentSeat) (c : CollectorSeat) : Type 0 where
  pub agent : b.agent ≡ Io c.io
  pub dry : c.dry ≡ true
  pub counts : (pin : ℕ) → pin < 24 → slice_index c.counts pin ≡ collected_count c.io pin b.mine

-- ---- a device

-- the seat of a device with these words
pub record IsDevice (d : ℕ) (words : List DevWord) (b : AgentSeat) : Type 0 where
  pub agent : b.agent ≡ Dev d
  pub there : d < length b.plan.devices
  pub words_are : words ≡ slice_index_or b.plan.devices d []

-- after its Begin and the first n of its words: the log has their pulses, and the journal their ops
pub record IsMaking (words : List DevWord) (n : ℕ) (b : AgentSeat) (s : DeviceSeat) : Type 0 where
  pub plan : s.plan ≡ pulses_in words
  pub going : s.ended ≡ false
  pub pulses : length s.log ≡ length (filter_map pulse_of (take n words))
  pub ops : length b.mine ≡ 1 + length (filter_map op_of_word (take n words))

-- ---- workers

-- what the worker of an agent has beside its seat on the bus
abbrev pub fresh_part : TableId → Plan → Agent → Part
fresh_part latch c (Cpu id) = part.Cpu
fresh_part latch c (Io a) = part.Io (fresh_collector_seat latch (map pulses_in c.devices) a)
fresh_part latch c (Dev d) = part.Dev d (fresh_device_seat latch (pulses_in (slice_index_or c.devices d [])))

-- the worker of an agent that has done nothing yet
abbrev pub fresh_worker : TableId → TableId → Plan → Agent → Worker
fresh_worker bus latch c g = record { agent = g; bus = fresh_seat bus c [] g; part = fresh_part latch c g }

-- a worker that may run
abbrev pub IsReady : TableId → TableId → Plan → Worker → Type 0
IsReady bus latch c w = (w ≡ fresh_worker bus latch c w.agent) × IsAgentOf c w.agent

-- what a worker has reached beside the bus: a collector is dry and has counted just its agent's collections, a device has ended
abbrev pub IsDone : TableId → Plan → AgentSeat → Part → Type 0
IsDone latch c b part.Cpu = (id : ℕ) × (b.agent ≡ Cpu id)
IsDone latch c b (part.Io col) = (col.latch ≡ latch) × HasCollected b col
IsDone latch c b (part.Dev d dev) = (b.agent ≡ Dev d) × (dev.latch ≡ latch) × (dev.plan ≡ pulses_in (slice_index_or c.devices d [])) × (dev.ended ≡ true)

-- a worker that has ended: its seat on the bus is that of its agent, and at rest
pub record HasEnded (bus latch : TableId) (c : Plan) (w : Worker) : Type 0 where
  pub bus_is : w.bus.bus ≡ bus
  pub plan_is : w.bus.plan ≡ c
  pub agent_is : w.bus.agent ≡ w.agent
  pub rests : IsAtRest w.bus
  pub done : IsDone latch c w.bus w.part

-- ---- the seats of the latch

-- the place of an I/O APIC, and the number of a device
abbrev pub io_place : Agent → Option ℕ
io_place (Io a) = Some a
io_place g = None

abbrev pub device_number : Agent → Option ℕ
device_number (Dev d) = Some d
device_number g = None

-- the fresh seats of the latch that these agents have, in their order
abbrev pub cols_for : TableId → Plan → List Agent → List CollectorSeat
cols_for latch c gs = map (fresh_collector_seat latch (map pulses_in c.devices)) (filter_map io_place gs)

abbrev pub devs_for : TableId → Plan → List Agent → List DeviceSeat
devs_for latch c gs = map (λ d. fresh_device_seat latch (pulses_in (slice_index_or c.devices d []))) (filter_map device_number gs)

-- the seat of the latch that a worker has
abbrev pub col_in : Part → Option CollectorSeat
col_in part.Cpu = None
col_in (part.Io col) = Some col
col_in (part.Dev d dev) = None

abbrev pub dev_in : Part → Option DeviceSeat
dev_in part.Cpu = None
dev_in (part.Io col) = None
dev_in (part.Dev d dev) = Some dev

abbrev pub col_of : Worker → Option CollectorSeat
col_of w = col_in w.part

abbrev pub dev_of : Worker → Option DeviceSeat
dev_of w = dev_in w.part
