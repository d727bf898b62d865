-- Each step spends at least one of what there is to spend.
use Rattle.std.proofs.Common.{◌≡◌, ◌==◌, ℕ, zero, suc, ◌+◌, ◌-◌, ◌*◌, ◌/◌, ◌%◌, ◌^◌, ◌<◌, ◌≤◌, Bool, true, false, not, cond, List, [], ◌∷◌, ◌++◌, length, drop, map, refl, sym, ap, ap₂, ◌∙◌, subst, arith, Option, Some, None, slice_get, sum, sum_by, count_by, true≢false, nat_lt, ◌&&◌, inl, inr, ◌⊎◌, fold}
use Rattle.std.proofs.lemmas.List.Sums.{sum_by-cons}
use Rattle.std.proofs.lemmas.Bool.{and_parts, ltb-true, not-true}
use Rattle.mpb_spec.specs.declared.agent.Agent.{Agent}
use Rattle.mpb_spec.specs.declared.agent.Agent.TheVariants.{Cpu, Io, Dev}
use Rattle.mpb_spec.specs.declared.entry.Entry.{Entry}
use Rattle.mpb_spec.specs.declared.agent.Offer.{Offer}
use Rattle.mpb_spec.specs.declared.agent.Offer.TheVariants as offer
use Rattle.mpb_spec.specs.declared.agent.Op.{Op}
use Rattle.mpb_spec.specs.declared.agent.Op.TheVariants as op
use Rattle.mpb_spec.specs.declared.apic.Pin.{Pin}
use Rattle.mpb_spec.specs.declared.apic.Message.{Message}
use Rattle.mpb_spec.specs.declared.apic.Aim.{Aim}
use Rattle.mpb_spec.specs.declared.apic.Delivery.{Delivery}
use Rattle.mpb_spec.specs.declared.apic.Delivery.TheVariants as sends
use Rattle.mpb_spec.specs.LocalApic.{LocalApic, next_vector, taken, after_end, accepted}
use Rattle.mpb_spec.specs.IoApic.{is_level, change_pin, next_due, written, with_half, with_line, with_sent, with_eoi}
use Rattle.mpb_spec.specs.State.{Processor, Place, Device, BoardState, processor_of, change_processor, change_at, runs, boot_is_through, all_ended}
use Rattle.mpb_spec.specs.Delivery.{is_target, received, to_id, to_logical}
use Rattle.mpb_spec.specs.Steps.{next_op, op_of_processor, op_of_device, op_of_place, unless_waiting, unless_early, effect_of_op, after, with_chip, with_pins_of, with_apic, ended_at_places, level_end, collected, all_left, sent_message, due_at, send_of, kind_of, aim_of, deliver_kind, was_accepted, send_outcomes}
use Rattle.mpb_spec.specs.Journal.{AreSteps, after_entry}
use Rattle.mpb_spec.specs.Room.{program_cost, processor_cost, device_cost, place_cost, sends_by, cost, pins_in}
use Rattle.mpb_laws.proofs.PinsStay.{pins-stay}
use Rattle.mpb_laws.proofs.RoomLemmas.{processors-spend, kept-costs, kept-changed, KeepsProgram, sum-rises, sum-changes, due-le-pins, due-rises, due-spent, left-spent, due-rises-by-named, cost-at, named}

abbrev step_on : Processor → Processor
step_on q = record q { position = suc q.position }

-- the op is that of the program
op-of-processor : (r : Option Processor) (o : Op) → op_of_processor r ≡ Some o → (p : Processor) × (r ≡ Some p) × (slice_get p.program p.position ≡ Some o)
op-of-processor None o e = cc
op-of-processor (Some p) o e = (p, refl, go (runs p.life) e) where
  waits : (r : Option Op) → unless_waiting p.apic r ≡ Some o → r ≡ Some o
  waits None e = cc
  waits (Some op.Take) e = taking (Rattle.std.proofs.Common.is_some (next_vector p.apic)) e where
    taking : (b : Bool) → cond b (Some op.Take) None ≡ Some o → Some op.Take ≡ Some o
    taking true e = e
    taking false e = cc
  waits (Some x) e = e

  go : (b : Bool) → cond b (unless_waiting p.apic (slice_get p.program p.position)) None ≡ Some o → slice_get p.program p.position ≡ Some o
  go true e = waits (slice_get p.program p.position) e
  go false e = cc

-- what a processor's op does besides going on: programs are kept, and it makes no more due than it may
record Bounded (n id : ℕ) (s t : BoardState) (o : Op) : Type 0 where
  processors : sum_by (processor_cost n) (change_processor id step_on t.processors) ≡ sum_by (processor_cost n) (change_processor id step_on s.processors)
  places : sum_by place_cost t.places ≤ sum_by place_cost s.places + sends_by n o
  devices : t.devices ≡ s.devices

same-places : (n id : ℕ) (s : BoardState) (o : Op) (k : Processor → Processor) → KeepsProgram k → Bounded n id s (record s { processors = map k s.processors }) o
same-places n id s o k keeps = record { processors = kept-costs n id k s.processors keeps; places = omega arith; devices = refl }

apic-keeps : (f : LocalApic → LocalApic) → KeepsProgram (with_apic f)
apic-keeps f = record { id = λ p. refl; program = λ p. refl; position = λ p. refl }

same-changed : (n id : ℕ) (s : BoardState) (o : Op) (k : Processor → Processor) → KeepsProgram k → Bounded n id s (record s { processors = change_processor id k s.processors }) o
same-changed n id s o k keeps = record { processors = kept-changed n id k s.processors keeps; places = omega arith; devices = refl }

received-keeps : (warm : Option ℕ) (d : Delivery) → KeepsProgram (received warm d)
received-keeps warm (sends.Fixed v level) = record {
  id = λ p. elim (runs p.life) as (λ b. (cond b (record p { apic = accepted v level p.apic }) p).id ≡ p.id) [ true ↦ refl | false ↦ refl ];
  program = λ p. elim (runs p.life) as (λ b. (cond b (record p { apic = accepted v level p.apic }) p).program ≡ p.program) [ true ↦ refl | false ↦ refl ];
  position = λ p. elim (runs p.life) as (λ b. (cond b (record p { apic = accepted v level p.apic }) p).position ≡ p.position) [ true ↦ refl | false ↦ refl ];
}
received-keeps warm d = record { id = λ p. refl; program = λ p. refl; position = λ p. refl }

delivered-keeps : (test : Processor → Bool) (warm : Option ℕ) (d : Delivery) → KeepsProgram (λ p. cond (test p) (received warm d p) p)
delivered-keeps test warm d =
    let h = received-keeps warm d in
    record {
      id = λ p. elim (test p) as (λ b. (cond b (received warm d p) p).id ≡ p.id) [ true ↦ h.id p | false ↦ refl ];
      program = λ p. elim (test p) as (λ b. (cond b (received warm d p) p).program ≡ p.program) [ true ↦ h.program p | false ↦ refl ];
      position = λ p. elim (test p) as (λ b. (cond b (received warm d p) p).position ≡ p.position) [ true ↦ h.position p | false ↦ refl ];
    }

-- a write makes one pin more due at most
write-rises : (v : ℕ) (p : Place) → place_cost (with_chip (written v) p) ≤ place_cost p + 1
write-rises v p = go (p.chip.index == 0) (nat_lt p.chip.index 16) where
  go : (a b : Bool) → place_cost (record p { chip = cond a (record p.chip { id = v / 16777216 % 16; arbitration = v / 16777216 % 16 }) (cond b p.chip (record p.chip { pins = change_pin ((p.chip.index - 16) / 2) (with_half (p.chip.index % 2) v) p.chip.pins })) }) ≤ place_cost p + 1
  go true b = omega arith
  go false true = omega arith
  go false false = omega (arith, due-rises ((p.chip.index - 16) / 2) (with_half (p.chip.index % 2) v) p.chip.pins)

length-mapped : {X Y : Type 0} (f : X → Y) (xs : List X) → length (map f xs) ≡ length xs
length-mapped f [] = refl
length-mapped f (x ∷ xs) = ap suc (length-mapped f xs)

-- an end of interrupt makes no more due than there are pins
ends-rise : (v : ℕ) (ps : List Place) → sum_by place_cost (map (with_chip (with_pins_of (map (with_eoi v)))) ps) ≤ sum_by place_cost ps + pins_in ps
ends-rise v [] = omega arith
ends-rise v (p ∷ ps) =
    rw (sum_by-cons place_cost (with_chip (with_pins_of (map (with_eoi v))) p) (map (with_chip (with_pins_of (map (with_eoi v)))) ps), sum_by-cons place_cost p ps, sum_by-cons (λ (q : Place). length q.chip.pins) p ps)
    (omega (arith, ends-rise v ps, due-le-pins (map (with_eoi v) p.chip.pins), length-mapped (with_eoi v) p.chip.pins))

ended-rise : (n : ℕ) (v : Option ℕ) (ps : List Place) → pins_in ps ≤ n → sum_by place_cost (ended_at_places v ps) ≤ sum_by place_cost ps + n
ended-rise n None ps le = omega arith
ended-rise n (Some v) ps le = omega (arith, ends-rise v ps)

bounded : (n id : ℕ) (s : BoardState) (o : Op) → pins_in s.places ≤ n → Bounded n id s (effect_of_op (Cpu id) o s) o
bounded n id s (op.Init d) le = same-places n id s (op.Init d) _ (delivered-keeps (is_target (to_id d) s.processors) s.warm sends.Init)
bounded n id s (op.Startup d page) le = same-places n id s (op.Startup d page) _ (delivered-keeps (is_target (to_id d) s.processors) s.warm (sends.Startup page))
bounded n id s (op.Ipi d v) le = same-places n id s (op.Ipi d v) _ (delivered-keeps (is_target (to_id d) s.processors) s.warm (sends.Fixed v false))
bounded n id s (op.Ipl d v) le = same-places n id s (op.Ipl d v) _ (delivered-keeps (is_target (to_logical d) s.processors) s.warm (sends.Fixed v false))
bounded n id s (op.Nmi d) le = same-places n id s (op.Nmi d) _ (delivered-keeps (is_target (to_id d) s.processors) s.warm sends.Nmi)
bounded n id s op.Take le = same-changed n id s op.Take _ (apic-keeps taken)
bounded n id s op.Poll le = same-changed n id s op.Poll _ (apic-keeps taken)
bounded n id s (op.Tpr t) le = same-changed n id s (op.Tpr t) _ (apic-keeps (λ a. record a { tpr = t }))
bounded n id s (op.Ldr t) le = same-changed n id s (op.Ldr t) _ (apic-keeps (λ a. record a { ldr = t }))
bounded n id s (op.Dfr t) le = same-changed n id s (op.Dfr t) _ (apic-keeps (λ a. record a { dfr = t }))
bounded n id s op.Eoi le = record {
  processors = kept-changed n id _ s.processors (apic-keeps after_end);
  places = ended-rise n (level_end (processor_of id s.processors)) s.places le;
  devices = refl;
}
bounded n id s (op.IoSel a r) le = record { processors = refl; places = omega (arith, sum-rises place_cost (with_chip (λ c. record c { index = r })) 0 a s.places (λ x. omega arith)); devices = refl }
bounded n id s (op.IoWin a v) le = record { processors = refl; places = sum-rises place_cost (with_chip (written v)) 1 a s.places (write-rises v); devices = refl }
bounded n id s o le = record { processors = refl; places = omega arith; devices = refl }

-- a processor's step
pub processor-spends : (n : ℕ) (s : BoardState) (id : ℕ) (o : Op) → next_op s (Cpu id) offer.Next ≡ Some o → pins_in s.places ≤ n → cost n (after (Cpu id) o s) + 1 ≤ cost n s
processor-spends n s id o e le =
    let h = op-of-processor (processor_of id s.processors) o e in
    let b = bounded n id s o le in
    let t = processors-spend n id s.processors h.0 o h.1 h.2 in
    omega (arith, b.processors, b.places, ap (sum_by (device_cost n)) b.devices, t)

-- a device's step
abbrev device_on : Device → Device
device_on v = record v { position = suc v.position }

op-of-device : (through : Bool) (r : Option Device) (o : Op) → op_of_device through r ≡ Some o → (d : Device) × (r ≡ Some d) × (slice_get d.program d.position ≡ Some o)
op-of-device through None o e = cc
op-of-device through (Some d) o e = (d, refl, early (slice_get d.program d.position) e) where
  early : (r : Option Op) → unless_early through r ≡ Some o → r ≡ Some o
  early None e = cc
  early (Some op.Begin) e = begins through e where
    begins : (b : Bool) → cond b (Some op.Begin) None ≡ Some o → Some op.Begin ≡ Some o
    begins true e = e
    begins false e = cc
  early (Some x) e = e

due-no-rise : (n : ℕ) (g : Pin → Pin) (ps : List Pin) → ((p : Pin) → cond (g p).due 1 0 ≤ cond p.due 1 0) → count_by (λ (q : Pin). q.due) (change_pin n g ps) ≤ count_by (λ (q : Pin). q.due) ps
due-no-rise n g [] falls = omega arith
due-no-rise zero g (p ∷ ps) falls = rw (sum_by-cons (λ (q : Pin). cond q.due 1 0) (g p) ps, sum_by-cons (λ (q : Pin). cond q.due 1 0) p ps) (omega (arith, falls p))
due-no-rise (suc n) g (p ∷ ps) falls =
    rw (sum_by-cons (λ (q : Pin). cond q.due 1 0) p (change_pin n g ps), sum_by-cons (λ (q : Pin). cond q.due 1 0) p ps) (omega (arith, due-no-rise n g ps falls))

low-falls : (p : Pin) → cond (with_line false p).due 1 0 ≤ cond p.due 1 0
low-falls p = go (is_level p) p.due p.line where
  go : (a d l : Bool) → cond (cond a (d && not l) d) 1 0 ≤ cond d 1 0
  go true true true = omega arith
  go true true false = omega arith
  go true false l = omega arith
  go false d l = omega arith

record DeviceBounded (n : ℕ) (s t : BoardState) (o : Op) : Type 0 where
  processors : t.processors ≡ s.processors
  places : sum_by place_cost t.places ≤ sum_by place_cost s.places + sends_by n o
  devices : t.devices ≡ s.devices

device-bounded : (n d : ℕ) (s : BoardState) (o : Op) → DeviceBounded n s (effect_of_op (Dev d) o s) o
device-bounded n d s (op.High a pin) = record {
  processors = refl;
  places = sum-rises place_cost (with_chip (with_pins_of (change_pin pin (with_line true)))) 1 a s.places (λ p. omega (arith, due-rises pin (with_line true) p.chip.pins));
  devices = refl;
}
device-bounded n d s (op.Low a pin) = record {
  processors = refl;
  places = omega (arith, sum-rises place_cost (with_chip (with_pins_of (change_pin pin (with_line false)))) 0 a s.places (λ p. omega (arith, due-no-rise pin (with_line false) p.chip.pins low-falls)));
  devices = refl;
}
device-bounded n d s o = record { processors = refl; places = omega arith; devices = refl }

pub device-spends : (n : ℕ) (s : BoardState) (d : ℕ) (o : Op) → next_op s (Dev d) offer.Next ≡ Some o → cost n (after (Dev d) o s) + 1 ≤ cost n s
device-spends n s d o e =
    let h = op-of-device (boot_is_through s) (slice_get s.devices d) o e in
    let b = device-bounded n d s o in
    let t = sum-changes (device_cost n) device_on d s.devices h.0 h.1 in
    omega (arith, ap (sum_by (processor_cost n)) b.processors, b.places, ap (λ (ds : List Device). sum_by (device_cost n) (change_at d device_on ds)) b.devices, t, cost-at n h.0.position h.0.program o h.2)

-- an I/O APIC's step
kept-plain : (n : ℕ) (k : Processor → Processor) (ps : List Processor) → KeepsProgram k → sum_by (processor_cost n) (map k ps) ≡ sum_by (processor_cost n) ps
kept-plain n k [] keeps = refl
kept-plain n k (p ∷ ps) keeps =
    rw (sum_by-cons (processor_cost n) (k p) (map k ps), sum_by-cons (processor_cost n) p ps)
    (ap₂ (λ a b. a + b) (ap₂ (λ (ops : List Op) (at : ℕ). program_cost n (drop at ops)) (keeps.program p) (keeps.position p)) (kept-plain n k ps keeps))

place-at : (through over : Bool) (f : Offer) (r : Option Place) (o : Op) → op_of_place through over f r ≡ Some o → (p : Place) × (r ≡ Some p)
place-at through over f None o e = cc
place-at through over f (Some p) o e = (p, refl)

sent-off : (accepted : Bool) (p : Pin) → (with_sent accepted p).due ≡ false
sent-off accepted p = refl

-- what a message of a pin leaves of the processors' costs, and of the devices
delivery-keeps : (n : ℕ) (aim : Aim) (k : Option Delivery) (s : BoardState) → (sum_by (processor_cost n) (deliver_kind aim k s).processors ≡ sum_by (processor_cost n) s.processors) × ((deliver_kind aim k s).devices ≡ s.devices) × ((deliver_kind aim k s).places ≡ s.places)
delivery-keeps n aim None s = (refl, refl, refl)
delivery-keeps n aim (Some d) s = (kept-plain n _ s.processors (delivered-keeps (is_target aim s.processors) s.warm d), refl, refl)

sends-spend : (n a : ℕ) (s : BoardState) (p : Place) (m : Message) → slice_get s.places a ≡ Some p → next_due p.chip ≡ Some m → cost n (sent_message a (Some m) s) + 1 ≤ cost n s
sends-spend n a s p m at due =
    let accepted = was_accepted (send_outcomes (Some m) s) in
    let g : Pin → Pin = with_sent accepted in
    let kept = delivery-keeps n (aim_of m) (kind_of m) s in
    let h = due-spent 0 g p.chip.pins m (sent-off accepted) due in
    let j : m.pin ≡ h.0 = omega (arith, h.1) in
    let falls = sum-changes place_cost (with_chip (with_pins_of (change_pin m.pin g))) a s.places p at in
    let spent = subst (λ (v : ℕ). count_by (λ (q : Pin). q.due) (change_pin v g p.chip.pins) + 1 ≡ count_by (λ (q : Pin). q.due) p.chip.pins) (sym j) h.2 in
    omega (arith, kept.0, ap (sum_by (device_cost n)) kept.1, falls, spent)

collects-spend : (n a pins : ℕ) (s : BoardState) (p : Place) → slice_get s.places a ≡ Some p → 0 < pins → all_left pins p.left ≡ true → cost n (record s { places = change_at a (collected pins) s.places }) + 1 ≤ cost n s
collects-spend n a pins s p at some all =
    let falls = sum-changes place_cost (collected pins) a s.places p at in
    let spent = left-spent pins p.left all in
    let rises = due-rises-by-named pins p.chip.pins p.left all in
    let one : 0 < named pins p.left = elim spent.1 [ inl none ↦ absurd (omega arith) | inr lt ↦ lt ] in
    omega (arith, falls, spent.0, rises, one)

sweeps-spend : (n a : ℕ) (s : BoardState) (p : Place) → slice_get s.places a ≡ Some p → p.swept ≡ false → cost n (record s { places = change_at a (λ p. record p { swept = true }) s.places }) + 1 ≤ cost n s
sweeps-spend n a s p at fresh =
    let falls = sum-changes place_cost (λ p. record p { swept = true }) a s.places p at in
    let one : cond {A = ℕ} p.swept 0 1 ≡ 1 = ap (λ b. cond {A = ℕ} b 0 1) fresh in
    omega (arith, falls, one)

pub place-spends : (n : ℕ) (s : BoardState) (a : ℕ) (f : Offer) (o : Op) → next_op s (Io a) f ≡ Some o → cost n (after (Io a) o s) + 1 ≤ cost n s
place-spends n s a f o e = go f (slice_get s.places a) refl e where
  go : (f : Offer) (r : Option Place) → slice_get s.places a ≡ r → op_of_place (boot_is_through s) (all_ended s) f r ≡ Some o → cost n (after (Io a) o s) + 1 ≤ cost n s
  go f None at e = cc
  go offer.Next (Some p) at e = sending (next_due p.chip) refl e where
    sending : (m : Option Message) → next_due p.chip ≡ m → send_of m ≡ Some o → cost n (after (Io a) o s) + 1 ≤ cost n s
    sending None due e = cc
    sending (Some m) due e =
        let is : op.Send m.pin ≡ o = cc in
        let same : due_at a s ≡ Some m = rw at due in
        rw (← is) (rw same (sends-spend n a s p m at due))
  go (offer.Collect pins) (Some p) at e =
      collecting (boot_is_through s && (not p.swept && (nat_lt 0 pins && (nat_lt pins (2 ^ 24) && all_left pins p.left)))) refl e where
        collecting : (b : Bool) → (boot_is_through s && (not p.swept && (nat_lt 0 pins && (nat_lt pins (2 ^ 24) && all_left pins p.left)))) ≡ b → cond b (Some (op.Collect pins)) None ≡ Some o → cost n (after (Io a) o s) + 1 ≤ cost n s
        collecting false t e = cc
        collecting true t e =
            let is : op.Collect pins ≡ o = cc in
            let t1 = and_parts (boot_is_through s) (not p.swept && (nat_lt 0 pins && (nat_lt pins (2 ^ 24) && all_left pins p.left))) t in
            let t2 = and_parts (not p.swept) (nat_lt 0 pins && (nat_lt pins (2 ^ 24) && all_left pins p.left)) t1.1 in
            let t3 = and_parts (nat_lt 0 pins) (nat_lt pins (2 ^ 24) && all_left pins p.left) t2.1 in
            let t4 = and_parts (nat_lt pins (2 ^ 24)) (all_left pins p.left) t3.1 in
            rw (← is) (collects-spend n a pins s p at (ltb-true 0 pins t3.0) t4.1)
  go offer.Sweep (Some p) at e = sweeping (not p.swept && all_ended s) refl e where
    sweeping : (b : Bool) → (not p.swept && all_ended s) ≡ b → cond b (Some op.Sweep) None ≡ Some o → cost n (after (Io a) o s) + 1 ≤ cost n s
    sweeping false t e = cc
    sweeping true t e =
        let is : op.Sweep ≡ o = cc in
        rw (← is) (sweeps-spend n a s p at (not-true p.swept (and_parts (not p.swept) (all_ended s) t).0))

-- any step
pub step-spends : (n : ℕ) (s : BoardState) (g : Agent) (f : Offer) (o : Op) → next_op s g f ≡ Some o → pins_in s.places ≤ n → cost n (after g o s) + 1 ≤ cost n s
step-spends n s (Cpu id) offer.Next o e le = processor-spends n s id o e le
step-spends n s (Cpu id) (offer.Collect pins) o e le = cc
step-spends n s (Cpu id) offer.Sweep o e le = cc
step-spends n s (Dev d) offer.Next o e le = device-spends n s d o e
step-spends n s (Dev d) (offer.Collect pins) o e le = cc
step-spends n s (Dev d) offer.Sweep o e le = cc
step-spends n s (Io a) f o e le = place-spends n s a f o e

-- so no journal is longer than what there is to spend
pub steps_within : (n : ℕ) (s : BoardState) (xs : List Entry) → AreSteps s xs → pins_in s.places ≤ n → length xs + cost n (fold after_entry s xs) ≤ cost n s
steps_within n s [] steps le = omega arith
steps_within n s (x ∷ xs) steps le =
    let t = step-spends n s x.agent steps.0.offer x.op steps.0.may le in
    let rest = steps_within n (after x.agent x.op s) xs steps.1 (omega (arith, le, pins-stay s x.agent x.op)) in
    omega (arith, t, rest)
