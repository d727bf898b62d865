-- Why an entry is no step of a board (this project's own).
--     has_agent c g             the board has the agent
--     has_to_wait s g o         the agent has to wait before it makes the op
--     offer_for g o             the offer with which it makes the op
--     IsWrong why c s x         the reason holds of the entry in the state
--     IsFirstBad c xs n why     entry n is the first that is no step, and this the first reason that holds
use Rattle.std.specs.Prelude.{◌≡◌, ◌≢◌, ◌<◌, ℕ, Bool, true, false, not, ◌&&◌, ◌||◌, List, Option, None, Some, is_some, length, map, nat_lt, slice_get, take}
use Rattle.mpb_spec.specs.declared.agent.Agent.{Agent}
use Rattle.mpb_spec.specs.declared.agent.Agent.TheVariants.{Cpu, Io, Dev}
use Rattle.mpb_spec.specs.declared.agent.Offer.{Offer}
use Rattle.mpb_spec.specs.declared.agent.Offer.TheVariants as offer
use Rattle.mpb_spec.specs.declared.agent.Op.{Op}
use Rattle.mpb_spec.specs.declared.agent.Op.TheVariants as op
use Rattle.mpb_spec.specs.declared.entry.Entry.{Entry}
use Rattle.mpb_spec.specs.Numbers.{has}
use Rattle.mpb_spec.specs.LocalApic.{next_vector}
use Rattle.mpb_spec.specs.State.{Processor, Device, BoardState, runs, processor_of, op_at, device_op_at, boot_is_through, all_ended}
use Rattle.mpb_spec.specs.Steps.{next_op, due_at}
use Rattle.mpb_spec.specs.Outcomes.{outcomes_of}
use Rattle.mpb_spec.specs.Plan.{Plan}
use Rattle.mpb_spec.specs.Journal.{IsLegal, final_state_of}
use Rattle.mpb_replay_laws.specs.declared.verdict.BadWhy.{BadWhy}
use Rattle.mpb_replay_laws.specs.declared.verdict.BadWhy.TheVariants.{NoAgent, Waits, Program, Outcome}

-- the board has the agent: a processor of its plan, or a place or a device below their numbers
abbrev pub has_agent : Plan → Agent → Bool
has_agent c (Cpu id) = has id (map (λ p. p.id) c.cpus)
has_agent c (Io a) = nat_lt a (length c.ios)
has_agent c (Dev d) = nat_lt d (length c.devices)

abbrev pub is_take : Option Op → Bool
is_take (Some op.Take) = true
is_take o = false

abbrev pub is_begin : Option Op → Bool
is_begin (Some op.Begin) = true
is_begin o = false

-- a processor waits where it doesn't run, and at a Take that is its next op where it has nothing to take
abbrev pub processor_waits : Option Processor → Op → Bool
processor_waits None o = false
processor_waits (Some p) o = not (runs p.life) || (is_take (Some o) && (is_take (op_at (Some p)) && not (is_some (next_vector p.apic))))

-- a device waits at a Begin that is its next op until the boot program is through
abbrev pub device_waits : Bool → Option Device → Op → Bool
device_waits through d o = is_begin (Some o) && (is_begin (device_op_at d) && not through)

-- an I/O APIC waits with a Send until a pin is due, with a Collect until the boot program is through, with a Sweep until
-- each device has ended
abbrev pub place_waits : BoardState → ℕ → Op → Bool
place_waits s a (op.Send pin) = not (is_some (due_at a s))
place_waits s a (op.Collect pins) = not (boot_is_through s)
place_waits s a op.Sweep = not (all_ended s)
place_waits s a o = false

-- the agent has to wait before it makes the op
abbrev pub has_to_wait : BoardState → Agent → Op → Bool
has_to_wait s (Cpu id) o = processor_waits (processor_of id s.processors) o
has_to_wait s (Io a) o = place_waits s a o
has_to_wait s (Dev d) o = device_waits (boot_is_through s) (slice_get s.devices d) o

-- the offer with which an agent makes the op: an I/O APIC collects the pins that are offered, and sweeps where it is offered
abbrev pub offer_for : Agent → Op → Offer
offer_for (Io a) (op.Collect pins) = offer.Collect pins
offer_for (Io a) op.Sweep = offer.Sweep
offer_for g o = offer.Next

-- the reason holds: the board has no such agent; it has to wait; the op is with no offer what it makes next; the outcomes
-- aren't those of the op
abbrev pub IsWrong : BadWhy → Plan → BoardState → Entry → Type 0
IsWrong NoAgent c s x = has_agent c x.agent ≡ false
IsWrong Waits c s x = has_to_wait s x.agent x.op ≡ true
IsWrong Program c s x = (f : Offer) → next_op s x.agent f ≢ Some x.op
IsWrong Outcome c s x = x.outcomes.items ≢ outcomes_of x.agent x.op s

-- the order of the reasons
abbrev pub reason_number : BadWhy → ℕ
reason_number NoAgent = 0
reason_number Waits = 1
reason_number Program = 2
reason_number Outcome = 3

-- the reason is the first that holds
pub record IsFirstWrong (why : BadWhy) (c : Plan) (s : BoardState) (x : Entry) : Type 0 where
  pub holds : IsWrong why c s x
  pub first : (w : BadWhy) → reason_number w < reason_number why → ¬ IsWrong w c s x

-- the entries before entry n are steps; it is none, and this is why
pub record IsFirstBad (c : Plan) (entries : List Entry) (n : ℕ) (why : BadWhy) : Type 0 where
  pub legal : IsLegal c (take n entries)
  pub entry : Entry
  pub there : slice_get entries n ≡ Some entry
  pub wrong : IsFirstWrong why c (final_state_of c (take n entries)) entry
