-- The numbers of a board's state fit, from the opening on.
use Rattle.std.proofs.Common.{◌≡◌, ◌==◌, ℕ, zero, suc, ◌+◌, ◌-◌, ◌/◌, ◌%◌, ◌^◌, ◌<◌, ◌≤◌, Bool, true, false, ◌&&◌, cond, not, List, [], ◌∷◌, length, map, filter, Option, None, Some, slice_get, nat_lt, nat_le, refl, sym, ap, ◌∙◌, subst, arith}
use Rattle.std.specs.List.{AllByRecursion}
use Rattle.std.proofs.lemmas.List.{length-map}
use Rattle.std.proofs.lemmas.Nat.{and_le_r}
use Rattle.std.specs.Prelude.{bit_and, ⊤}
use Rattle.mpb_spec.specs.declared.agent.Agent.{Agent}
use Rattle.mpb_spec.specs.declared.agent.Agent.TheVariants.{Cpu, Io, Dev}
use Rattle.mpb_spec.specs.declared.agent.Op.{Op}
use Rattle.mpb_spec.specs.declared.agent.Op.TheVariants as op
use Rattle.mpb_spec.specs.declared.apic.Pin.{Pin}
use Rattle.mpb_spec.specs.declared.apic.Message.{Message}
use Rattle.mpb_spec.specs.declared.apic.Aim.{Aim}
use Rattle.mpb_spec.specs.declared.apic.Delivery.{Delivery}
use Rattle.mpb_spec.specs.declared.apic.Delivery.TheVariants as sends
use Rattle.mpb_spec.specs.declared.config.Life.{Life}
use Rattle.mpb_spec.specs.declared.config.Life.TheVariants as life
use Rattle.mpb_spec.specs.Numbers.{with_number, without, greatest}
use Rattle.mpb_spec.specs.LocalApic.{LocalApic, ppr, above, next_vector, accepted, taken, taken_from, after_end, after_end_of}
use Rattle.mpb_spec.specs.IoApic.{IoChip, is_level, is_masked, vector_of, written, with_half, with_low, with_high, with_line, with_pulse, with_sent, with_eoi, change_pin, pulsed, is_logical, message_of, next_due_from}
use Rattle.mpb_spec.specs.State.{Processor, Place, Device, BoardState, runs, processor_of, change_processor, change_at}
use Rattle.mpb_spec.specs.Delivery.{is_target, received, delivered_to, delivered, started_by, life_after_init, life_after_startup, to_id, to_logical}
use Rattle.mpb_spec.specs.Steps.{after, effect_of_cpu, effect_of_dev, effect_of_io, with_apic, with_chip, with_pins_of, ended_at_places, level_end, collected, due_at, due_of, kind_of, aim_of, deliver_kind, sent_message, was_accepted, send_outcomes}
use Rattle.mpb_report_line.specs.Values.{IsRightOp, IsRightLife}
use Rattle.mpb_report_laws.proofs.RightOps.{all-append, all-filter, all-map, one-at}

-- the registers of a local APIC, a processor, a pin, an I/O APIC, a device, the page of the warm-reset vector
abbrev pub IsByte : ℕ → Type 0
IsByte n = n < 256

pub record IsFitApic (a : LocalApic) : Type 0 where
  pub irr : AllByRecursion IsByte a.irr
  pub isr : AllByRecursion IsByte a.isr
  pub tpr : a.tpr < 256

pub record AreFitParts (id : ℕ) (program : List Op) (l : Life) (a : LocalApic) : Type 0 where
  pub id_fits : id < 256
  pub ops : AllByRecursion IsRightOp program
  pub life : IsRightLife l
  pub apic : IsFitApic a

abbrev pub IsFitProcessor : Processor → Type 0
IsFitProcessor p = AreFitParts p.id p.program p.life p.apic

abbrev pub IsFitPin : Pin → Type 0
IsFitPin p = (p.low < 2 ^ 32) × (p.high < 2 ^ 32)

pub record AreFitRegisters (id arbitration : ℕ) (pins : List Pin) : Type 0 where
  pub id_fits : id < 16
  pub arbitration_fits : arbitration < 16
  pub many : length pins ≡ 24
  pub pins_fit : AllByRecursion IsFitPin pins

abbrev pub IsFitChip : IoChip → Type 0
IsFitChip c = AreFitRegisters c.id c.arbitration c.pins

abbrev pub IsFitPlace : Place → Type 0
IsFitPlace p = IsFitChip p.chip

abbrev pub IsFitDevice : Device → Type 0
IsFitDevice d = AllByRecursion IsRightOp d.program

abbrev pub IsFitPage : Option ℕ → Type 0
IsFitPage None = ⊤
IsFitPage (Some page) = page < 256

-- a state
pub record AreFit (ps : List Processor) (as_ : List Place) (ds : List Device) (warm : Option ℕ) : Type 0 where
  pub few : length ps ≤ 8
  pub few_places : length as_ ≤ 4
  pub few_devices : length ds ≤ 4
  pub processors : AllByRecursion IsFitProcessor ps
  pub places : AllByRecursion IsFitPlace as_
  pub devices : AllByRecursion IsFitDevice ds
  pub page : IsFitPage warm

abbrev pub IsFit : BoardState → Type 0
IsFit s = AreFit s.processors s.places s.devices s.warm

-- one part changed
with-processors : {ps qs : List Processor} {as_ : List Place} {ds : List Device} {warm : Option ℕ} → AreFit ps as_ ds warm → length qs ≡ length ps → AllByRecursion IsFitProcessor qs → AreFit qs as_ ds warm
with-processors h e v = record { few = (let k = h.few in omega (arith, e, k)); few_places = h.few_places; few_devices = h.few_devices; processors = v; places = h.places; devices = h.devices; page = h.page }

with-places : {ps : List Processor} {as_ bs : List Place} {ds : List Device} {warm : Option ℕ} → AreFit ps as_ ds warm → length bs ≡ length as_ → AllByRecursion IsFitPlace bs → AreFit ps bs ds warm
with-places h e v = record { few = h.few; few_places = (let k = h.few_places in omega (arith, e, k)); few_devices = h.few_devices; processors = h.processors; places = v; devices = h.devices; page = h.page }

-- lists with one item changed
change-length : {X : Type 0} (f : X → X) (n : ℕ) (xs : List X) → length (change_at n f xs) ≡ length xs
change-length f n [] = refl
change-length f zero (x ∷ xs) = refl
change-length f (suc n) (x ∷ xs) = ap suc (change-length f n xs)

change-fit : {X : Type 0} (P : X → Type 0) (f : X → X) (n : ℕ) (xs : List X) → ((x : X) → P x → P (f x)) → AllByRecursion P xs → AllByRecursion P (change_at n f xs)
change-fit P f n [] keeps h = tt
change-fit P f zero (x ∷ xs) keeps h = (keeps x h.0, h.1)
change-fit P f (suc n) (x ∷ xs) keeps h = (h.0, change-fit P f n xs keeps h.1)

processor-length : (id : ℕ) (f : Processor → Processor) (ps : List Processor) → length (change_processor id f ps) ≡ length ps
processor-length id f [] = refl
processor-length id f (p ∷ ps) = go (p.id == id) (processor-length id f ps)
  where
    go : (b : Bool) → length (change_processor id f ps) ≡ length ps → length (cond b (f p ∷ ps) (p ∷ change_processor id f ps)) ≡ suc (length ps)
    go true e = refl
    go false e = ap suc e

processor-fit : (id : ℕ) (f : Processor → Processor) (ps : List Processor) → ((p : Processor) → IsFitProcessor p → IsFitProcessor (f p)) → AllByRecursion IsFitProcessor ps → AllByRecursion IsFitProcessor (change_processor id f ps)
processor-fit id f [] keeps h = tt
processor-fit id f (p ∷ ps) keeps h = go (p.id == id) (processor-fit id f ps keeps h.1)
  where
    go : (b : Bool) → AllByRecursion IsFitProcessor (change_processor id f ps) → AllByRecursion IsFitProcessor (cond b (f p ∷ ps) (p ∷ change_processor id f ps))
    go true rest = (keeps p h.0, h.1)
    go false rest = (h.0, rest)

-- sets of vectors
with-fit : (v : ℕ) (xs : List ℕ) → v < 256 → AllByRecursion IsByte xs → AllByRecursion IsByte (with_number v xs)
with-fit v xs lt h = all-append IsByte (filter (λ x. nat_lt x v) xs) (v ∷ filter (λ x. nat_lt v x) xs) (all-filter IsByte (λ x. nat_lt x v) xs h) (lt, all-filter IsByte (λ x. nat_lt v x) xs h)

without-fit : (v : ℕ) (xs : List ℕ) → AllByRecursion IsByte xs → AllByRecursion IsByte (without v xs)
without-fit v xs h = all-filter IsByte (λ x. not (x == v)) xs h

pub greatest-fit : (xs : List ℕ) (v : ℕ) → AllByRecursion IsByte xs → greatest xs ≡ Some v → v < 256
greatest-fit xs v h e = one-at IsByte xs (length xs - 1) v h e

-- local APICs
pub next-fit : (a : LocalApic) (v : ℕ) → IsFitApic a → next_vector a ≡ Some v → v < 256
next-fit a v h e = go (greatest a.irr) refl e
  where
    pick : (b : Bool) (u : ℕ) → greatest a.irr ≡ Some u → cond b (Some u) None ≡ Some v → v < 256
    pick true u w k = let same : u ≡ v = cc in subst (λ (n : ℕ). n < 256) same (greatest-fit a.irr u h.irr w)
    pick false u w k = absurd (cc (k))

    go : (r : Option ℕ) → greatest a.irr ≡ r → above (ppr a) r ≡ Some v → v < 256
    go None w k = absurd (cc (k))
    go (Some u) w k = pick (nat_lt (ppr a / 16) (u / 16)) u w k

accepted-fit : (v : ℕ) (level : Bool) (a : LocalApic) → v < 256 → IsFitApic a → IsFitApic (accepted v level a)
accepted-fit v level a lt h =
    elim (nat_lt v 16) as (λ b. IsFitApic (cond b a (record a { irr = with_number v a.irr; tmr = cond level (with_number v a.tmr) (without v a.tmr) })))
    [ true ↦ h | false ↦ record { irr = with-fit v a.irr lt h.irr; isr = h.isr; tpr = h.tpr } ]

taken-fit : (a : LocalApic) → IsFitApic a → IsFitApic (taken a)
taken-fit a h = go (next_vector a) refl
  where
    go : (r : Option ℕ) → next_vector a ≡ r → IsFitApic (taken_from a r)
    go None w = h
    go (Some v) w = record { irr = without-fit v a.irr h.irr; isr = with-fit v a.isr (next-fit a v h w) h.isr; tpr = h.tpr }

end-fit : (a : LocalApic) → IsFitApic a → IsFitApic (after_end a)
end-fit a h = go (greatest a.isr)
  where
    go : (r : Option ℕ) → IsFitApic (after_end_of a r)
    go None = h
    go (Some v) = record { irr = h.irr; isr = without-fit v a.isr h.isr; tpr = h.tpr }

apic-fit : (f : LocalApic → LocalApic) → ((a : LocalApic) → IsFitApic a → IsFitApic (f a)) → (p : Processor) → IsFitProcessor p → IsFitProcessor (with_apic f p)
apic-fit f keeps p h = record { id_fits = h.id_fits; ops = h.ops; life = h.life; apic = keeps p.apic h.apic }

-- a message
abbrev pub IsFitDelivery : Delivery → Type 0
IsFitDelivery (sends.Fixed v level) = v < 256
IsFitDelivery (sends.Startup page) = page < 256
IsFitDelivery d = ⊤

started-right : (warm : Option ℕ) → IsFitPage warm → IsRightLife (started_by warm)
started-right None h = tt
started-right (Some page) h = h

init-right : (warm : Option ℕ) (version : ℕ) (l : Life) → IsFitPage warm → IsRightLife l → IsRightLife (life_after_init warm version l)
init-right warm version life.Asleep w h = elim (nat_le 16 version) as (λ b. IsRightLife (cond b life.Waiting (started_by warm))) [ true ↦ tt | false ↦ started-right warm w ]
init-right warm version life.Waiting w h = tt
init-right warm version (life.Started page) w h = h
init-right warm version life.First w h = tt

startup-right : (page : ℕ) (l : Life) → page < 256 → IsRightLife l → IsRightLife (life_after_startup page l)
startup-right page life.Asleep lt h = tt
startup-right page life.Waiting lt h = lt
startup-right page (life.Started q) lt h = h
startup-right page life.First lt h = tt

received-fit : (warm : Option ℕ) (d : Delivery) (p : Processor) → IsFitPage warm → IsFitDelivery d → IsFitProcessor p → IsFitProcessor (received warm d p)
received-fit warm (sends.Fixed v level) p w k h =
    elim (runs p.life) as (λ b. IsFitProcessor (cond b (record p { apic = accepted v level p.apic }) p))
    [ true ↦ record { id_fits = h.id_fits; ops = h.ops; life = h.life; apic = accepted-fit v level p.apic k h.apic } | false ↦ h ]
received-fit warm sends.Nmi p w k h = h
received-fit warm sends.Pass p w k h = h
received-fit warm sends.Init p w k h = record { id_fits = h.id_fits; ops = h.ops; life = init-right warm p.version p.life w h.life; apic = h.apic }
received-fit warm (sends.Startup page) p w k h = record { id_fits = h.id_fits; ops = h.ops; life = startup-right page p.life k h.life; apic = h.apic }

delivered-fit : (s : BoardState) (aim : Aim) (d : Delivery) → IsFitDelivery d → IsFit s → IsFit (delivered aim d s)
delivered-fit s aim d k h =
    let test : Processor → Bool = is_target aim s.processors in
    with-processors h (length-map s.processors (delivered_to s.warm test d))
    (all-map IsFitProcessor IsFitProcessor (delivered_to s.warm test d) s.processors
    (λ p v. elim (test p) as (λ b. IsFitProcessor (cond b (received s.warm d p) p)) [ true ↦ received-fit s.warm d p h.page k v | false ↦ v ]) h.processors)

-- the pins of an I/O APIC
pin-length : (n : ℕ) (f : Pin → Pin) (ps : List Pin) → length (change_pin n f ps) ≡ length ps
pin-length n f [] = refl
pin-length zero f (p ∷ ps) = refl
pin-length (suc n) f (p ∷ ps) = ap suc (pin-length n f ps)

pin-fit : (n : ℕ) (f : Pin → Pin) (ps : List Pin) → ((p : Pin) → IsFitPin p → IsFitPin (f p)) → AllByRecursion IsFitPin ps → AllByRecursion IsFitPin (change_pin n f ps)
pin-fit n f [] keeps h = tt
pin-fit zero f (p ∷ ps) keeps h = (keeps p h.0, h.1)
pin-fit (suc n) f (p ∷ ps) keeps h = (h.0, pin-fit n f ps keeps h.1)

half-fit : (half v : ℕ) (p : Pin) → IsFitPin p → IsFitPin (with_half half v p)
half-fit half v p h =
    let low : bit_and v 0x1AFFF ≤ 0x1AFFF = and_le_r v 0x1AFFF in
    let high : bit_and v 0xFF000000 ≤ 0xFF000000 = and_le_r v 0xFF000000 in
    elim (half == 0) as (λ b. IsFitPin (cond b (with_low v p) (with_high v p))) [ true ↦ (omega (arith, low), h.1) | false ↦ (h.0, omega (arith, high)) ]

eoi-fit : (v : ℕ) (p : Pin) → IsFitPin p → IsFitPin (with_eoi v p)
eoi-fit v p h = elim (is_level p && ((vector_of p == v) && p.remote)) as (λ b. IsFitPin (cond b (record p { remote = false; due = p.line && not (is_masked p) }) p)) [ true ↦ h | false ↦ h ]

pulsed-length : (m : ℕ) (ps : List Pin) → length (pulsed m ps) ≡ length ps
pulsed-length m [] = refl
pulsed-length m (p ∷ ps) = ap suc (pulsed-length (m / 2) ps)

pulsed-fit : (m : ℕ) (ps : List Pin) → AllByRecursion IsFitPin ps → AllByRecursion IsFitPin (pulsed m ps)
pulsed-fit m [] h = tt
pulsed-fit m (p ∷ ps) h = (elim (m % 2 == 1) as (λ b. IsFitPin (cond b (with_pulse p) p)) [ true ↦ h.0 | false ↦ h.0 ], pulsed-fit (m / 2) ps h.1)

-- an I/O APIC with other pins
pins-fit : (f : List Pin → List Pin) (p : Place) → length (f p.chip.pins) ≡ length p.chip.pins → AllByRecursion IsFitPin (f p.chip.pins) → IsFitPlace p → IsFitPlace (with_chip (with_pins_of f) p)
pins-fit f p e v h = record { id_fits = h.id_fits; arbitration_fits = h.arbitration_fits; many = e ∙ h.many; pins_fit = v }

one-pin-fit : (n : ℕ) (f : Pin → Pin) → ((p : Pin) → IsFitPin p → IsFitPin (f p)) → (p : Place) → IsFitPlace p → IsFitPlace (with_chip (with_pins_of (change_pin n f)) p)
one-pin-fit n f keeps p h = pins-fit (change_pin n f) p (pin-length n f p.chip.pins) (pin-fit n f p.chip.pins keeps h.pins_fit) h

written-fit : (v : ℕ) (p : Place) → IsFitPlace p → IsFitPlace (with_chip (written v) p)
written-fit v p h = go (p.chip.index == 0) (nat_lt p.chip.index 16)
  where
    go : (a b : Bool) → IsFitChip (cond a (record p.chip { id = v / 16777216 % 16; arbitration = v / 16777216 % 16 }) (cond b p.chip (record p.chip { pins = change_pin ((p.chip.index - 16) / 2) (with_half (p.chip.index % 2) v) p.chip.pins })))
    go true b = record { id_fits = omega arith; arbitration_fits = omega arith; many = h.many; pins_fit = h.pins_fit }
    go false true = h
    go false false = record { id_fits = h.id_fits; arbitration_fits = h.arbitration_fits; many = pin-length ((p.chip.index - 16) / 2) (with_half (p.chip.index % 2) v) p.chip.pins ∙ h.many; pins_fit = pin-fit ((p.chip.index - 16) / 2) (with_half (p.chip.index % 2) v) p.chip.pins (half-fit (p.chip.index % 2) v) h.pins_fit }

ends-fit : (v : Option ℕ) (as_ : List Place) → AllByRecursion IsFitPlace as_ → AllByRecursion IsFitPlace (ended_at_places v as_)
ends-fit None as_ h = h
ends-fit (Some v) as_ h = all-map IsFitPlace IsFitPlace (with_chip (with_pins_of (map (with_eoi v)))) as_ (λ p k. pins-fit (map (with_eoi v)) p (length-map p.chip.pins (with_eoi v)) (all-map IsFitPin IsFitPin (with_eoi v) p.chip.pins (eoi-fit v) k.pins_fit) k) h

ends-length : (v : Option ℕ) (as_ : List Place) → length (ended_at_places v as_) ≡ length as_
ends-length None as_ = refl
ends-length (Some v) as_ = length-map as_ (with_chip (with_pins_of (map (with_eoi v))))

-- one place changed
place-fit : (s : BoardState) (a : ℕ) (f : Place → Place) → ((p : Place) → IsFitPlace p → IsFitPlace (f p)) → IsFit s → IsFit (record s { places = change_at a f s.places })
place-fit s a f keeps h = with-places h (change-length f a s.places) (change-fit IsFitPlace f a s.places keeps h.places)

one-processor-fit : (s : BoardState) (id : ℕ) (f : Processor → Processor) → ((p : Processor) → IsFitProcessor p → IsFitProcessor (f p)) → IsFit s → IsFit (record s { processors = change_processor id f s.processors })
one-processor-fit s id f keeps h = with-processors h (processor-length id f s.processors) (processor-fit id f s.processors keeps h.processors)

-- a processor's op, but for its position
cpu-fit : (id : ℕ) (o : Op) (s : BoardState) → IsRightOp o → IsFit s → IsFit (effect_of_cpu id o s)
cpu-fit id (op.Warm page) s v h = record { few = h.few; few_places = h.few_places; few_devices = h.few_devices; processors = h.processors; places = h.places; devices = h.devices; page = v }
cpu-fit id (op.Init d) s v h = delivered-fit s (to_id d) sends.Init tt h
cpu-fit id (op.Startup d page) s v h = delivered-fit s (to_id d) (sends.Startup page) v.1 h
cpu-fit id (op.Ipi d u) s v h = delivered-fit s (to_id d) (sends.Fixed u false) v.1 h
cpu-fit id (op.Ipl d u) s v h = delivered-fit s (to_logical d) (sends.Fixed u false) v.1 h
cpu-fit id (op.Nmi d) s v h = delivered-fit s (to_id d) sends.Nmi tt h
cpu-fit id op.Take s v h = one-processor-fit s id (with_apic taken) (apic-fit taken taken-fit) h
cpu-fit id op.Poll s v h = one-processor-fit s id (with_apic taken) (apic-fit taken taken-fit) h
cpu-fit id op.Eoi s v h = with-places (one-processor-fit s id (with_apic after_end) (apic-fit after_end end-fit) h) (ends-length (level_end (processor_of id s.processors)) s.places) (ends-fit (level_end (processor_of id s.processors)) s.places h.places)
cpu-fit id (op.Tpr n) s v h = one-processor-fit s id (with_apic (λ a. record a { tpr = n })) (apic-fit (λ a. record a { tpr = n }) (λ a k. record { irr = k.irr; isr = k.isr; tpr = v })) h
cpu-fit id (op.Ldr n) s v h = one-processor-fit s id (with_apic (λ a. record a { ldr = n })) (apic-fit (λ a. record a { ldr = n }) (λ a k. record { irr = k.irr; isr = k.isr; tpr = k.tpr })) h
cpu-fit id (op.Dfr n) s v h = one-processor-fit s id (with_apic (λ a. record a { dfr = n })) (apic-fit (λ a. record a { dfr = n }) (λ a k. record { irr = k.irr; isr = k.isr; tpr = k.tpr })) h
cpu-fit id (op.IoSel a r) s v h = place-fit s a (with_chip (λ c. record c { index = r })) (λ p k. k) h
cpu-fit id (op.IoWin a u) s v h = place-fit s a (with_chip (written u)) (written-fit u) h
cpu-fit id o s v h = h

-- a device's
dev-fit : (o : Op) (s : BoardState) → IsFit s → IsFit (effect_of_dev o s)
dev-fit (op.High a pin) s h = place-fit s a (with_chip (with_pins_of (change_pin pin (with_line true)))) (one-pin-fit pin (with_line true) (λ p k. k)) h
dev-fit (op.Low a pin) s h = place-fit s a (with_chip (with_pins_of (change_pin pin (with_line false)))) (one-pin-fit pin (with_line false) (λ p k. k)) h
dev-fit o s h = h

-- the message of a due pin
pub record IsFitMessage (n : ℕ) (m : Message) : Type 0 where
  pub pin : m.pin < n
  pub dest : m.dest < 256
  pub vector : m.vector < 256

message-fit : (k n : ℕ) (p : Pin) → k < n → IsFitPin p → IsFitMessage n (message_of k p)
message-fit k n p lt h =
    let high : p.high < 2 ^ 32 = h.1 in
    record {
      pin = lt;
      dest = elim (is_logical p) as (λ b. cond b (p.high / 16777216) (p.high / 16777216 % 16) < 256) [ true ↦ omega (arith, high) | false ↦ omega arith ];
      vector = omega arith;
    }

due-from : (k n : ℕ) (ps : List Pin) (m : Message) → k + length ps ≡ n → AllByRecursion IsFitPin ps → next_due_from k ps ≡ Some m → IsFitMessage n m
due-from k n [] m e h w = absurd (cc (w))
due-from k n (p ∷ ps) m e h w = go p.due w (λ rest. due-from (k + 1) n ps m (omega (arith, e)) h.1 rest)
  where
    go : (b : Bool) → cond b (Some (message_of k p)) (next_due_from (k + 1) ps) ≡ Some m → (next_due_from (k + 1) ps ≡ Some m → IsFitMessage n m) → IsFitMessage n m
    go true u rest = let same : message_of k p ≡ m = cc in subst (IsFitMessage n) same (message-fit k n p (omega (arith, e)) h.0)
    go false u rest = rest u

pub due-fit : (as_ : List Place) (a : ℕ) (m : Message) → AllByRecursion IsFitPlace as_ → due_of (slice_get as_ a) ≡ Some m → IsFitMessage 24 m
due-fit as_ a m h w = go (slice_get as_ a) refl w
  where
    go : (r : Option Place) → slice_get as_ a ≡ r → due_of r ≡ Some m → IsFitMessage 24 m
    go None e u = absurd (cc (u))
    go (Some p) e u = let k : IsFitPlace p = one-at IsFitPlace as_ a p h e in due-from 0 24 p.chip.pins m (omega (arith, k.many)) k.pins_fit u

pub kind-fits : (m : Message) (d : Delivery) → m.vector < 256 → kind_of m ≡ Some d → IsFitDelivery d
kind-fits m d lt e = go (nat_lt m.mode 2) (m.mode == 2) (m.mode == 4) (m.mode == 7) e
  where
    go : (a b c f : Bool) → cond {A = Option Delivery} a (Some (sends.Fixed m.vector m.level)) (cond b (Some sends.Pass) (cond c (Some sends.Nmi) (cond f (Some sends.Pass) None))) ≡ Some d → IsFitDelivery d
    go true b c f h = let same : sends.Fixed m.vector m.level ≡ d = cc in subst IsFitDelivery same lt
    go false true c f h = let same : sends.Pass ≡ d = cc in subst IsFitDelivery same tt
    go false false true f h = let same : sends.Nmi ≡ d = cc in subst IsFitDelivery same tt
    go false false false true h = let same : sends.Pass ≡ d = cc in subst IsFitDelivery same tt
    go false false false false h = absurd (cc (h))

-- an I/O APIC's op
kind-state-fit : (aim : Aim) (k : Option Delivery) (s : BoardState) → ((d : Delivery) → k ≡ Some d → IsFitDelivery d) → IsFit s → IsFit (deliver_kind aim k s)
kind-state-fit aim None s fits h = h
kind-state-fit aim (Some d) s fits h = delivered-fit s aim d (fits d refl) h

send-fit : (a : ℕ) (r : Option Message) (s : BoardState) → ((m : Message) → r ≡ Some m → m.vector < 256) → IsFit s → IsFit (sent_message a r s)
send-fit a None s fits h = h
send-fit a (Some m) s fits h =
    let d : BoardState = deliver_kind (aim_of m) (kind_of m) s in
    let k : IsFit d = kind-state-fit (aim_of m) (kind_of m) s (λ x e. kind-fits m x (fits m refl) e) h in
    let f : Pin → Pin = with_sent (was_accepted (send_outcomes (Some m) s)) in
    with-places k (change-length (with_chip (with_pins_of (change_pin m.pin f))) a s.places ∙ sym (kind-places (aim_of m) (kind_of m) s)) (change-fit IsFitPlace (with_chip (with_pins_of (change_pin m.pin f))) a s.places (one-pin-fit m.pin f (λ p v. v)) h.places)
  where
    kind-places : (aim : Aim) (k : Option Delivery) (s : BoardState) → length (deliver_kind aim k s).places ≡ length s.places
    kind-places aim None s = refl
    kind-places aim (Some d) s = refl

io-fit : (a : ℕ) (o : Op) (s : BoardState) → IsFit s → IsFit (effect_of_io a o s)
io-fit a (op.Collect pins) s h = place-fit s a (collected pins) (λ p k. record { id_fits = k.id_fits; arbitration_fits = k.arbitration_fits; many = pulsed-length pins p.chip.pins ∙ k.many; pins_fit = pulsed-fit pins p.chip.pins k.pins_fit }) h
io-fit a (op.Send pin) s h = send-fit a (due_at a s) s (λ m e. (due-fit s.places a m h.places e).vector) h
io-fit a op.Sweep s h = place-fit s a (λ p. record p { swept = true }) (λ p k. k) h
io-fit a o s h = h

-- a step
pub step_fits : (g : Agent) (o : Op) (s : BoardState) → IsRightOp o → IsFit s → IsFit (after g o s)
step_fits (Cpu id) o s v h = one-processor-fit (effect_of_cpu id o s) id (λ p. record p { position = suc p.position }) (λ p k. k) (cpu-fit id o s v h)
step_fits (Dev n) o s v h =
    let k : IsFit (effect_of_dev o s) = dev-fit o s h in
    let ds : List Device = (effect_of_dev o s).devices in
    record {
      few = k.few;
      few_places = k.few_places;
      few_devices = (let e : length (change_at n (λ (x : Device). record x { position = suc x.position }) ds) ≡ length ds = change-length (λ (x : Device). record x { position = suc x.position }) n ds in let f = k.few_devices in omega (arith, e, f));
      processors = k.processors;
      places = k.places;
      devices = change-fit IsFitDevice (λ x. record x { position = suc x.position }) n ds (λ x q. q) k.devices;
      page = k.page;
    }
step_fits (Io a) o s v h = io-fit a o s h
