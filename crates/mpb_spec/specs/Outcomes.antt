-- What comes of an op, at each target or without one (this project's own).
--     outcomes_of agent op s    the outcomes of the op in the state
use Rattle.std.specs.Prelude.{ℕ, Bool, true, false, List, [], ◌∷◌, Option, None, Some, slice_get}
use Rattle.mpb_spec.specs.declared.agent.Agent.{Agent}
use Rattle.mpb_spec.specs.declared.agent.Agent.TheVariants.{Cpu, Io, Dev}
use Rattle.mpb_spec.specs.declared.agent.Op.{Op}
use Rattle.mpb_spec.specs.declared.agent.Op.TheVariants as op
use Rattle.mpb_spec.specs.declared.entry.Outcome.{Outcome}
use Rattle.mpb_spec.specs.declared.entry.What.{What}
use Rattle.mpb_spec.specs.declared.entry.What.TheVariants as what
use Rattle.mpb_spec.specs.declared.apic.Delivery.TheVariants as sends
use Rattle.mpb_spec.specs.declared.apic.Effect.{Effect}
use Rattle.mpb_spec.specs.declared.apic.Effect.TheVariants as effect
use Rattle.mpb_spec.specs.declared.config.Life.{Life}
use Rattle.mpb_spec.specs.declared.config.Life.TheVariants as life
use Rattle.mpb_spec.specs.IoApic.{register, write_effect, effect_at, with_line, pulsed_due, pulsed_joined}
use Rattle.mpb_spec.specs.State.{Processor, Place, BoardState, processor_of}
use Rattle.mpb_spec.specs.Delivery.{delivery_outcomes, to_id, to_logical}
use Rattle.mpb_spec.specs.Steps.{due_at, send_outcomes, vector_at, ended_at}

-- one outcome without a target
abbrev pub only : What → List Outcome
only w = record { at = 0; what = w } ∷ []

-- how a processor is found
abbrev pub found_alive : Life → What
found_alive life.Asleep = what.Asleep
found_alive life.Waiting = what.Waiting
found_alive (life.Started page) = what.Runs page
found_alive life.First = what.RunsFirst

-- the processor that is looked for
abbrev pub found : Option Processor → What
found None = what.Absent
found (Some p) = found_alive p.life

-- the vector that is taken
abbrev pub what_taken : Option ℕ → What
what_taken None = what.Nothing
what_taken (Some v) = what.Taken v

-- the processor's next vector
abbrev pub taken_by : Option Processor → What
taken_by p = what_taken (vector_at p)

-- the interrupt that ends
abbrev pub what_ended : Option (ℕ × Bool) → What
what_ended None = what.Nothing
what_ended (Some e) = what.Ended e.0 e.1

-- the processor's interrupt in service
abbrev pub ended_by : Option Processor → What
ended_by p = what_ended (ended_at p)

-- what happened to a pending send
abbrev pub what_effect : Effect → What
what_effect effect.Plain = what.Plain
what_effect effect.Due = what.Due
what_effect effect.Withdrawn = what.Withdrawn

-- of a write at the place: what it did to the pending send
abbrev pub of_write : ℕ → Option Place → What
of_write v None = what.Plain
of_write v (Some p) = what_effect (write_effect v p.chip)

-- of a read: the register
abbrev pub of_read : Option Place → What
of_read None = what.Read 0
of_read (Some p) = what.Read (register p.chip)

-- of a level of a line: what it did to the pending send
abbrev pub of_line : ℕ → Bool → Option Place → What
of_line pin high None = what.Plain
of_line pin high (Some p) = what_effect (effect_at pin (with_line high) p.chip.pins)

-- of a collection: the pins that became due, and those that were
abbrev pub of_collect : ℕ → Option Place → What
of_collect pins None = what.Pins 0 0
of_collect pins (Some p) = what.Pins (pulsed_due pins p.chip.pins) (pulsed_joined pins p.chip.pins)

-- of a processor: Imcr, Warm, Tpr, Ldr, Dfr, IoSel and Pause come to Done
abbrev pub outcomes_of_cpu : ℕ → Op → BoardState → List Outcome
outcomes_of_cpu id (op.Init d) s = delivery_outcomes (to_id d) sends.Init s
outcomes_of_cpu id (op.Startup d page) s = delivery_outcomes (to_id d) (sends.Startup page) s
outcomes_of_cpu id (op.Check d) s = record { at = d; what = found (processor_of d s.processors) } ∷ []
outcomes_of_cpu id (op.Ipi d v) s = delivery_outcomes (to_id d) (sends.Fixed v false) s
outcomes_of_cpu id (op.Ipl d v) s = delivery_outcomes (to_logical d) (sends.Fixed v false) s
outcomes_of_cpu id (op.Nmi d) s = delivery_outcomes (to_id d) sends.Nmi s
outcomes_of_cpu id op.Take s = only (taken_by (processor_of id s.processors))
outcomes_of_cpu id op.Poll s = only (taken_by (processor_of id s.processors))
outcomes_of_cpu id op.Eoi s = only (ended_by (processor_of id s.processors))
outcomes_of_cpu id (op.IoWin a v) s = only (of_write v (slice_get s.places a))
outcomes_of_cpu id (op.IoRead a) s = only (of_read (slice_get s.places a))
outcomes_of_cpu id o s = only what.Done

-- of a device: Begin and End come to Done
abbrev pub outcomes_of_dev : Op → BoardState → List Outcome
outcomes_of_dev (op.High a pin) s = only (of_line pin true (slice_get s.places a))
outcomes_of_dev (op.Low a pin) s = only (of_line pin false (slice_get s.places a))
outcomes_of_dev o s = only what.Done

-- of an I/O APIC: Sweep comes to Done
abbrev pub outcomes_of_io : ℕ → Op → BoardState → List Outcome
outcomes_of_io a (op.Collect pins) s = only (of_collect pins (slice_get s.places a))
outcomes_of_io a (op.Send pin) s = send_outcomes (due_at a s) s
outcomes_of_io a o s = only what.Done

-- the outcomes of the op in the state
abbrev pub outcomes_of : Agent → Op → BoardState → List Outcome
outcomes_of (Cpu id) o s = outcomes_of_cpu id o s
outcomes_of (Dev d) o s = outcomes_of_dev o s
outcomes_of (Io a) o s = outcomes_of_io a o s
