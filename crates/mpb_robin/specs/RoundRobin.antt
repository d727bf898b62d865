-- The round robin: all agents of a board take turns, round after round, until none may step (this project's own).
--     Run                        a run so far: the board's plan and journal, the latch, and what is kept for the account
--     turn g r                   the run after one turn of the agent
--     rounds n r                 the run after n rounds
--     first_run c                nothing is done yet
--     IsRoundRobinEnd c r        the run after the first rounds at whose end no agent may step
--     IsRoundRobinOf c journal logs    its journal and logs
use Rattle.std.specs.Prelude.{◌≡◌, ◌<◌, ◌==◌, ℕ, zero, suc, ◌+◌, List, [], ◌∷◌, ◌++◌, Option, None, Some, is_some, slice_get, slice_index, slice_index_or, fold, map, length, replicate, if◌then◌else◌}
use Rattle.std.specs.Int.{bit_at}
use Rattle.mpb_spec.specs.declared.agent.Agent.{Agent}
use Rattle.mpb_spec.specs.declared.agent.Agent.TheVariants.{Cpu, Io, Dev}
use Rattle.mpb_spec.specs.declared.agent.Offer.{Offer}
use Rattle.mpb_spec.specs.declared.agent.Offer.TheVariants.{Next, Collect, Sweep}
use Rattle.mpb_spec.specs.declared.agent.Op.{Op}
use Rattle.mpb_spec.specs.declared.config.DevWord.{DevWord}
use Rattle.mpb_spec.specs.declared.config.DevWord.TheVariants as word
use Rattle.mpb_spec.specs.declared.entry.Entry.{Entry}
use Rattle.mpb_spec.specs.State.{BoardState, change_at}
use Rattle.mpb_spec.specs.Steps.{next_op}
use Rattle.mpb_spec.specs.Outcomes.{outcomes_of}
use Rattle.mpb_spec.specs.Journal.{final_state_of}
use Rattle.mpb_spec.specs.May.{IsQuiescent}
use Rattle.mpb_spec.specs.Agents.{agents_of}
use Rattle.mpb_spec.specs.Plan.{Plan}
use Rattle.mpb_robin.specs.declared.act.Act.{Act}
use Rattle.mpb_robin.specs.declared.act.Act.TheVariants as act
use Rattle.mpb_spec.specs.declared.pulse.Pulse.{Pulse}
use Rattle.mpb_spec.specs.declared.pulse.Hit.{Hit}
use Rattle.mpb_spec.specs.Pulses.{hit_of, with_pins}
use Rattle.mpb_spec.specs.PlainLatch.{PlainState, empty_latch, pins_at, pulsed, collected}

-- the board's plan and the journal so far; the latch; for each device how many things it has done, and its log; for each
-- I/O APIC how often each of its pins was collected
pub record Run : Type 0 where
  pub plan : Plan
  pub journal : List Entry
  pub latch : PlainState
  pub made : List ℕ
  pub logs : List (List (Pulse × Hit))
  pub counts : List (List ℕ)

-- the state that the journal leaves
abbrev pub state_in : Run → BoardState
state_in r = final_state_of r.plan r.journal

-- the entry of an op in a state
abbrev pub entry_of : Agent → Op → BoardState → Entry
entry_of g o s = record { agent = g; op = o; outcomes = record { items = outcomes_of g o s } }

-- the op is made
abbrev pub with_op : Agent → Op → Run → Run
with_op g o r = record r { journal = r.journal ++ entry_of g o (state_in r) ∷ [] }

-- where there is one
abbrev pub with_op_of : Agent → Option Op → Run → Run
with_op_of g None r = r
with_op_of g (Some o) r = with_op g o r

-- one step with the offer, where the agent may make it
abbrev pub with_step : Agent → Offer → Run → Run
with_step g f r = with_op_of g (next_op (state_in r) g f) r

-- ---- an I/O APIC

-- its latch word is taken
abbrev pub with_taken : ℕ → Run → Run
with_taken a r = record r { latch = collected a r.latch }

-- these pins are counted as collected
abbrev pub with_counted : ℕ → ℕ → Run → Run
with_counted a pins r = record r { counts = change_at a (with_pins pins) r.counts }

-- they are collected
abbrev pub with_collected : ℕ → ℕ → Run → Run
with_collected a pins r = with_counted a pins (with_step (Io a) (Collect pins) r)

-- a send where a pin is due; else a sweep, once all devices have ended
abbrev pub send_or_sweep : ℕ → Run → Run
send_or_sweep a r =
    if is_some (next_op (state_in r) (Io a) Next) then with_step (Io a) Next r
    else (if r.latch.ended == r.latch.devices then with_step (Io a) Sweep r else r)

-- it takes its latch word: where that has pins, they are collected
abbrev pub io_turn : ℕ → Run → Run
io_turn a r = if pins_at a r.latch == 0 then send_or_sweep a (with_taken a r) else with_collected a (pins_at a r.latch) (with_taken a r)

-- ---- a device

-- what it does, one thing a turn: it begins, makes its words in order, and ends
abbrev pub acts_of : List DevWord → List Act
acts_of words = act.Begin ∷ (map act.Word words ++ act.End ∷ [])

-- what it does next
abbrev pub next_act : ℕ → Run → Option Act
next_act d r = slice_get (acts_of (slice_index_or r.plan.devices d [])) (slice_index r.made d)

-- it has done one thing more
abbrev pub with_made : ℕ → Run → Run
with_made d r = record r { made = change_at d suc r.made }

-- the pulse goes to the latch, and with its answer to the log
abbrev pub with_pulse : ℕ → Pulse → Run → Run
with_pulse d p r =
    record r {
      latch = pulsed p r.latch;
      logs = change_at d (λ log. log ++ (p, hit_of (bit_at (pins_at p.io r.latch) p.pin)) ∷ []) r.logs;
    }

-- one device more has ended
abbrev pub with_end : Run → Run
with_end r = record r { latch = record r.latch { ended = r.latch.ended + 1 } }

-- it begins where it can; a pulse is no step, a high or a low word is one; it ends on the latch and on the board together
abbrev pub act_turn : ℕ → Option Act → Run → Run
act_turn d None r = r
act_turn d (Some act.Begin) r = if is_some (next_op (state_in r) (Dev d) Next) then with_made d (with_step (Dev d) Next r) else r
act_turn d (Some (act.Word (word.Pulse a pin))) r = with_made d (with_pulse d (record { io = a; pin = pin }) r)
act_turn d (Some (act.Word w)) r = with_made d (with_step (Dev d) Next r)
act_turn d (Some act.End) r = with_made d (with_end (with_step (Dev d) Next r))

abbrev pub device_turn : ℕ → Run → Run
device_turn d r = act_turn d (next_act d r) r

-- ---- rounds

-- one turn of an agent: a processor makes one step, where it can
abbrev pub turn : Agent → Run → Run
turn (Cpu id) r = with_step (Cpu id) Next r
turn (Io a) r = io_turn a r
turn (Dev d) r = device_turn d r

-- one turn of each agent
abbrev pub round : Run → Run
round r = fold (λ s g. turn g s) r (agents_of r.plan)

abbrev pub rounds : ℕ → Run → Run
rounds zero r = r
rounds (suc n) r = round (rounds n r)

-- nothing is done yet
abbrev pub first_run : Plan → Run
first_run c = record {
  plan = c;
  journal = [];
  latch = empty_latch (length c.ios) (length c.devices);
  made = replicate (length c.devices) 0;
  logs = replicate (length c.devices) [];
  counts = replicate (length c.ios) (replicate 24 0);
}

-- the run after so many rounds that no agent may step, and not before
pub record IsRoundRobinEnd (c : Plan) (r : Run) : Type 0 where
  pub count : ℕ
  pub run : r ≡ rounds count (first_run c)
  pub quiet : IsQuiescent (state_in r)
  pub first : (n : ℕ) → n < count → ¬ IsQuiescent (state_in (rounds n (first_run c)))

-- its journal and its logs
abbrev pub IsRoundRobinOf : Plan → List Entry → List (List (Pulse × Hit)) → Type 0
IsRoundRobinOf c journal logs = (r : Run) × IsRoundRobinEnd c r × (r.journal ≡ journal) × (r.logs ≡ logs)
