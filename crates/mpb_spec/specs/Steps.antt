-- One step of a board (this project's own): which op an agent makes next, and what it does.
--     next_op s agent offer      what the agent makes next with the offer, none where it may not step
--     after agent op s           the state after the op
--     kind_of m, aim_of m        the message of a pin as a delivery, none where no processor hears it, and where it goes
--     due_at a s                 the message of the least due pin at a place
use Rattle.std.specs.Prelude.{◌==◌, ℕ, suc, ◌-◌, ◌/◌, ◌%◌, ◌^◌, Bool, true, false, not, ◌&&◌, List, [], ◌∷◌, Option, None, Some, map, slice_get, if◌then◌else◌, nat_lt, is_some}
use Rattle.std.specs.List.{list_any}
use Rattle.mpb_spec.specs.declared.agent.Agent.{Agent}
use Rattle.mpb_spec.specs.declared.agent.Agent.TheVariants.{Cpu, Io, Dev}
use Rattle.mpb_spec.specs.declared.agent.Offer.{Offer}
use Rattle.mpb_spec.specs.declared.agent.Offer.TheVariants as offer
use Rattle.mpb_spec.specs.declared.agent.Op.{Op}
use Rattle.mpb_spec.specs.declared.agent.Op.TheVariants as op
use Rattle.mpb_spec.specs.declared.entry.Outcome.{Outcome}
use Rattle.mpb_spec.specs.declared.entry.What.{What}
use Rattle.mpb_spec.specs.declared.entry.What.TheVariants as what
use Rattle.mpb_spec.specs.declared.apic.Message.{Message}
use Rattle.mpb_spec.specs.declared.apic.Aim.{Aim}
use Rattle.mpb_spec.specs.declared.apic.Destination.TheVariants.{Physical, Logical}
use Rattle.mpb_spec.specs.declared.apic.Delivery.{Delivery}
use Rattle.mpb_spec.specs.declared.apic.Delivery.TheVariants as sends
use Rattle.mpb_spec.specs.declared.config.Imcr.TheVariants.{Apic}
use Rattle.mpb_spec.specs.LocalApic.{LocalApic, next_vector, taken, ended, after_end}
use Rattle.mpb_spec.specs.IoApic.{IoChip, next_due, written, change_pin, with_line, with_eoi, with_sent, pulsed}
use Rattle.mpb_spec.specs.State.{Processor, Place, Device, BoardState, runs, processor_of, change_processor, change_at, boot_is_through, all_ended}
use Rattle.mpb_spec.specs.Delivery.{delivered, delivery_outcomes, to_id, to_logical}

-- the op where its processor need not wait for it
abbrev pub unless_waiting : LocalApic → Option Op → Option Op
unless_waiting a None = None
unless_waiting a (Some op.Take) = if is_some (next_vector a) then Some op.Take else None
unless_waiting a (Some o) = Some o

-- the next op of a processor that runs
abbrev pub op_of_processor : Option Processor → Option Op
op_of_processor None = None
op_of_processor (Some p) = if runs p.life then unless_waiting p.apic (slice_get p.program p.position) else None

-- the op where a device may begin
abbrev pub unless_early : Bool → Option Op → Option Op
unless_early through None = None
unless_early through (Some op.Begin) = if through then Some op.Begin else None
unless_early through (Some o) = Some o

-- the next op of a device
abbrev pub op_of_device : Bool → Option Device → Option Op
op_of_device through None = None
op_of_device through (Some d) = unless_early through (slice_get d.program d.position)

-- each pin that is named is there, and has a collection left
abbrev pub all_left : ℕ → List ℕ → Bool
all_left pins [] = pins == 0
all_left pins (n ∷ ns) = (if pins % 2 == 1 then nat_lt 0 n else true) && all_left (pins / 2) ns

-- a due message is sent
abbrev pub send_of : Option Message → Option Op
send_of None = None
send_of (Some m) = Some (op.Send m.pin)

-- the next op of an I/O APIC: the send of the least due pin; a collection of pins that are left, once the boot program is
-- through and until it has swept; one sweep, once each device has ended
abbrev pub op_of_place : Bool → Bool → Offer → Option Place → Option Op
op_of_place through over o None = None
op_of_place through over offer.Next (Some p) = send_of (next_due p.chip)
op_of_place through over (offer.Collect pins) (Some p) =
    if through && (not p.swept && (nat_lt 0 pins && (nat_lt pins (2 ^ 24) && all_left pins p.left))) then Some (op.Collect pins) else None
op_of_place through over offer.Sweep (Some p) = if not p.swept && over then Some op.Sweep else None

-- what the agent makes next with the offer, none where it may not step
abbrev pub next_op : BoardState → Agent → Offer → Option Op
next_op s (Cpu id) offer.Next = op_of_processor (processor_of id s.processors)
next_op s (Dev d) offer.Next = op_of_device (boot_is_through s) (slice_get s.devices d)
next_op s (Io a) o = op_of_place (boot_is_through s) (all_ended s) o (slice_get s.places a)
next_op s (Cpu id) (offer.Collect pins) = None
next_op s (Cpu id) offer.Sweep = None
next_op s (Dev d) (offer.Collect pins) = None
next_op s (Dev d) offer.Sweep = None

-- an I/O APIC with other registers
abbrev pub with_chip : (IoChip → IoChip) → Place → Place
with_chip f p = record p { chip = f p.chip }

-- with other pins
abbrev pub with_pins_of : (List Rattle.mpb_spec.specs.declared.apic.Pin.Pin → List Rattle.mpb_spec.specs.declared.apic.Pin.Pin) → IoChip → IoChip
with_pins_of f c = record c { pins = f c.pins }

-- the collections that are left after one of these pins
abbrev pub left_after : ℕ → List ℕ → List ℕ
left_after pins [] = []
left_after pins (n ∷ ns) = (n - pins % 2) ∷ left_after (pins / 2) ns

-- an I/O APIC after a collection of these pins
abbrev pub collected : ℕ → Place → Place
collected pins p = record p { chip = with_pins_of (pulsed pins) p.chip; left = left_after pins p.left }

-- the message by its delivery mode: 000 fixed, 001 lowest priority, 010 SMI, 100 NMI, 111 ExtINT; INIT and the reserved modes
-- aren't heard
abbrev pub kind_of : Message → Option Delivery
kind_of m =
    if nat_lt m.mode 2 then Some (sends.Fixed m.vector m.level)
    else (if m.mode == 2 then Some sends.Pass
    else (if m.mode == 4 then Some sends.Nmi
    else (if m.mode == 7 then Some sends.Pass else None)))

-- where it goes: physical destination 15 is all, and mode 001 is of lowest priority
abbrev pub aim_of : Message → Aim
aim_of m = record { at = if m.logical then Logical m.dest else Physical m.dest 15; lowest = m.mode == 1 }

-- a message is accepted where an outcome is Set or Merged
abbrev pub is_accepted : What → Bool
is_accepted what.Set = true
is_accepted what.Merged = true
is_accepted o = false

-- some target accepted it
abbrev pub was_accepted : List Outcome → Bool
was_accepted os = list_any (λ o. is_accepted o.what) os

-- a message of an I/O APIC is delivered where it is heard
abbrev pub deliver_kind : Aim → Option Delivery → BoardState → BoardState
deliver_kind aim None s = s
deliver_kind aim (Some d) s = delivered aim d s

-- and its outcomes
abbrev pub kind_outcomes : Aim → Option Delivery → BoardState → List Outcome
kind_outcomes aim None s = record { at = 0; what = what.Unheard } ∷ []
kind_outcomes aim (Some d) s = delivery_outcomes aim d s

-- the least due message of an I/O APIC
abbrev pub due_of : Option Place → Option Message
due_of None = None
due_of (Some p) = next_due p.chip

-- the message of the least due pin at the place
abbrev pub due_at : ℕ → BoardState → Option Message
due_at a s = due_of (slice_get s.places a)

-- the outcomes of sending it
abbrev pub send_outcomes : Option Message → BoardState → List Outcome
send_outcomes None s = []
send_outcomes (Some m) s = kind_outcomes (aim_of m) (kind_of m) s

-- the state after it is delivered and sent
abbrev pub sent_message : ℕ → Option Message → BoardState → BoardState
sent_message a None s = s
sent_message a (Some m) s =
    let d = deliver_kind (aim_of m) (kind_of m) s in
    record d { places = change_at a (with_chip (with_pins_of (change_pin m.pin (with_sent (was_accepted (send_outcomes (Some m) s)))))) s.places }

-- the vector where the interrupt is level-triggered: each I/O APIC has its end of interrupt
abbrev pub level_vector : Option (ℕ × Bool) → Option ℕ
level_vector None = None
level_vector (Some e) = if e.1 then Some e.0 else None

-- each I/O APIC after an end of interrupt of the vector
abbrev pub ended_at_places : Option ℕ → List Place → List Place
ended_at_places None ps = ps
ended_at_places (Some v) ps = map (with_chip (with_pins_of (map (with_eoi v)))) ps

-- the interrupt that a processor ends
abbrev pub ended_at : Option Processor → Option (ℕ × Bool)
ended_at None = None
ended_at (Some p) = ended p.apic

-- its vector where it is level-triggered
abbrev pub level_end : Option Processor → Option ℕ
level_end p = level_vector (ended_at p)

-- the vector that a processor would take
abbrev pub vector_at : Option Processor → Option ℕ
vector_at None = None
vector_at (Some p) = next_vector p.apic

-- a processor with another local APIC
abbrev pub with_apic : (LocalApic → LocalApic) → Processor → Processor
with_apic f p = record p { apic = f p.apic }

-- the state after an op of a processor, but for its position
abbrev pub effect_of_cpu : ℕ → Op → BoardState → BoardState
effect_of_cpu id op.Imcr s = record s { imcr = Apic }
effect_of_cpu id (op.Warm page) s = record s { warm = Some page }
effect_of_cpu id (op.Init d) s = delivered (to_id d) sends.Init s
effect_of_cpu id (op.Startup d page) s = delivered (to_id d) (sends.Startup page) s
effect_of_cpu id (op.Ipi d v) s = delivered (to_id d) (sends.Fixed v false) s
effect_of_cpu id (op.Ipl d v) s = delivered (to_logical d) (sends.Fixed v false) s
effect_of_cpu id (op.Nmi d) s = delivered (to_id d) sends.Nmi s
effect_of_cpu id op.Take s = record s { processors = change_processor id (with_apic taken) s.processors }
effect_of_cpu id op.Poll s = record s { processors = change_processor id (with_apic taken) s.processors }
effect_of_cpu id op.Eoi s =
    record s {
      processors = change_processor id (with_apic after_end) s.processors;
      places = ended_at_places (level_end (processor_of id s.processors)) s.places;
    }
effect_of_cpu id (op.Tpr n) s = record s { processors = change_processor id (with_apic (λ a. record a { tpr = n })) s.processors }
effect_of_cpu id (op.Ldr n) s = record s { processors = change_processor id (with_apic (λ a. record a { ldr = n })) s.processors }
effect_of_cpu id (op.Dfr n) s = record s { processors = change_processor id (with_apic (λ a. record a { dfr = n })) s.processors }
effect_of_cpu id (op.IoSel a r) s = record s { places = change_at a (with_chip (λ c. record c { index = r })) s.places }
effect_of_cpu id (op.IoWin a v) s = record s { places = change_at a (with_chip (written v)) s.places }
-- Check, IoRead and Pause change nothing
effect_of_cpu id o s = s

-- of a device
abbrev pub effect_of_dev : Op → BoardState → BoardState
effect_of_dev (op.High a pin) s = record s { places = change_at a (with_chip (with_pins_of (change_pin pin (with_line true)))) s.places }
effect_of_dev (op.Low a pin) s = record s { places = change_at a (with_chip (with_pins_of (change_pin pin (with_line false)))) s.places }
-- Begin and End change nothing
effect_of_dev o s = s

-- of an I/O APIC
abbrev pub effect_of_io : ℕ → Op → BoardState → BoardState
effect_of_io a (op.Collect pins) s = record s { places = change_at a (collected pins) s.places }
effect_of_io a (op.Send pin) s = sent_message a (due_at a s) s
effect_of_io a op.Sweep s = record s { places = change_at a (λ p. record p { swept = true }) s.places }
effect_of_io a o s = s

-- the state after an op, but for the position in the agent's program
abbrev pub effect_of_op : Agent → Op → BoardState → BoardState
effect_of_op (Cpu id) o s = effect_of_cpu id o s
effect_of_op (Dev d) o s = effect_of_dev o s
effect_of_op (Io a) o s = effect_of_io a o s

-- the agent's program is one op further
abbrev pub advanced : Agent → BoardState → BoardState
advanced (Cpu id) s = record s { processors = change_processor id (λ p. record p { position = suc p.position }) s.processors }
advanced (Dev d) s = record s { devices = change_at d (λ v. record v { position = suc v.position }) s.devices }
advanced (Io a) s = s

-- the state after an op
abbrev pub after : Agent → Op → BoardState → BoardState
after g o s = advanced g (effect_of_op g o s)
