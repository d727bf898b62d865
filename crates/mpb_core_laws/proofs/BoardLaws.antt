-- What every step keeps of each local APIC, and of each pin.
use Rattle.std.proofs.Common.{◌≡◌, ℕ, zero, suc, ◌+◌, ◌-◌, ◌==◌, ◌/◌, ◌%◌, ◌<◌, Bool, true, false, cond, List, [], ◌∷◌, map, refl, sym, ap, subst, arith, Option, None, Some, fold, slice_get, length, replicate, nat_lt, nat_le}
use Rattle.std.specs.List.{AllByRecursion, range_with_len}
use Rattle.mpb_spec.specs.declared.agent.Agent.{Agent}
use Rattle.mpb_spec.specs.declared.agent.Agent.TheVariants.{Cpu, Io, Dev}
use Rattle.mpb_spec.specs.declared.agent.Op.{Op}
use Rattle.mpb_spec.specs.declared.agent.Op.TheVariants as op
use Rattle.mpb_spec.specs.declared.apic.Aim.{Aim}
use Rattle.mpb_spec.specs.declared.apic.Message.{Message}
use Rattle.mpb_spec.specs.declared.apic.Pin.{Pin}
use Rattle.mpb_spec.specs.declared.apic.Delivery.{Delivery}
use Rattle.mpb_spec.specs.declared.apic.Delivery.TheVariants as sends
use Rattle.mpb_spec.specs.declared.config.DevWord.{DevWord}
use Rattle.mpb_spec.specs.declared.entry.Entry.{Entry}
use Rattle.mpb_spec.specs.Numbers.{AreBytes, with_number, without, greatest}
use Rattle.mpb_spec.specs.LocalApic.{LocalApic, reset, accepted, taken, taken_from, after_end, after_end_of, next_vector, above, ppr}
use Rattle.mpb_spec.specs.IoApic.{IoChip, reset_pin, with_half, with_line, with_pulse, with_sent, with_eoi, pulsed, change_pin, next_due, next_due_from, message_of, written}
use Rattle.mpb_spec.specs.State.{Processor, Place, BoardState, runs, change_processor, change_at}
use Rattle.mpb_spec.specs.Delivery.{is_target, received, delivered_to, to_id, to_logical}
use Rattle.mpb_spec.specs.Steps.{after, effect_of_cpu, with_apic, with_chip, with_pins_of, collected, ended_at_places, level_end, due_at, due_of, kind_of, aim_of, deliver_kind, sent_message, was_accepted, send_outcomes}
use Rattle.mpb_spec.specs.Plan.{Plan, CpuPlan, initial_state_of, first_processor, first_place, first_places}
use Rattle.mpb_spec.specs.Journal.{after_entry, final_state_of}
use Rattle.mpb_spec.specs.State.{processor_of}
use Rattle.mpb_spec.proofs.NumberLemmas.{AllBelow-with, AllBelow-without}
use Rattle.mpb_core_laws.specs.Words.{IsOrdered, IsQuietWhereMasked, NamesByte, HoldsBytes}
use Rattle.mpb_core_laws.proofs.LocalLemmas.{ordered-reset, ordered-accepted, ordered-taken, ordered-after_end}
use Rattle.mpb_core_laws.proofs.PinLaws.{quiet-low, quiet-high, quiet-line, quiet-pulse, quiet-sent, quiet-eoi}

-- ---- lists

each-map : {X : Type 0} (P : X → Type 0) (k : X → X) (xs : List X) → ((x : X) → P x → P (k x)) → AllByRecursion P xs → AllByRecursion P (map k xs)
each-map P k [] keeps all = tt
each-map P k (x ∷ xs) keeps all = (keeps x all.0, each-map P k xs keeps all.1)

each-change_at : {X : Type 0} (P : X → Type 0) (n : ℕ) (k : X → X) (xs : List X) → ((x : X) → P x → P (k x)) → AllByRecursion P xs → AllByRecursion P (change_at n k xs)
each-change_at P n k [] keeps all = tt
each-change_at P zero k (x ∷ xs) keeps all = (keeps x all.0, all.1)
each-change_at P (suc n) k (x ∷ xs) keeps all = (all.0, each-change_at P n k xs keeps all.1)

each-change_pin : (P : Pin → Type 0) (n : ℕ) (k : Pin → Pin) (xs : List Pin) → ((x : Pin) → P x → P (k x)) → AllByRecursion P xs → AllByRecursion P (change_pin n k xs)
each-change_pin P n k [] keeps all = tt
each-change_pin P zero k (x ∷ xs) keeps all = (keeps x all.0, all.1)
each-change_pin P (suc n) k (x ∷ xs) keeps all = (all.0, each-change_pin P n k xs keeps all.1)

-- ---- local APICs: P holds of each, and every message has a vector of which V holds

abbrev Of : (LocalApic → Type 0) → Processor → Type 0
Of P p = P p.apic

each-processor : (P : LocalApic → Type 0) (id : ℕ) (k : Processor → Processor) (ps : List Processor) → ((p : Processor) → Of P p → Of P (k p)) → AllByRecursion (Of P) ps → AllByRecursion (Of P) (change_processor id k ps)
each-processor P id k [] keeps all = tt
each-processor P id k (p ∷ ps) keeps all = go (p.id == id) (each-processor P id k ps keeps all.1) where
  go : (b : Bool) → AllByRecursion (Of P) (change_processor id k ps) → AllByRecursion (Of P) (cond b (k p ∷ ps) (p ∷ change_processor id k ps))
  go true rest = (keeps p all.0, all.1)
  go false rest = (all.0, rest)

-- V holds of the vector of a delivery, where it has one
abbrev VectorOf : (ℕ → Type 0) → Delivery → Type 0
VectorOf V (sends.Fixed v level) = V v
VectorOf V d = Unit {0}

-- and of an op
abbrev VectorIn : (ℕ → Type 0) → Op → Type 0
VectorIn V (op.Ipi d v) = V v
VectorIn V (op.Ipl d v) = V v
VectorIn V o = Unit {0}

-- what a property of a local APIC keeps
record Keeps (P : LocalApic → Type 0) (V : ℕ → Type 0) : Type 0 where
  accept : (a : LocalApic) (v : ℕ) (level : Bool) → V v → P a → P (accepted v level a)
  take : (a : LocalApic) → P a → P (taken a)
  end : (a : LocalApic) → P a → P (after_end a)
  tpr : (a : LocalApic) (n : ℕ) → P a → P (record a { tpr = n })
  ldr : (a : LocalApic) (n : ℕ) → P a → P (record a { ldr = n })
  dfr : (a : LocalApic) (n : ℕ) → P a → P (record a { dfr = n })
  bytes : (n : ℕ) → n < 256 → V n

received-keeps : (P : LocalApic → Type 0) (V : ℕ → Type 0) (warm : Option ℕ) (d : Delivery) (p : Processor) → Keeps P V → VectorOf V d → Of P p → Of P (received warm d p)
received-keeps P V warm (sends.Fixed v level) p k fits h = elim (runs p.life) as (λ b. Of P (cond b (record p { apic = accepted v level p.apic }) p)) [ true ↦ k.accept p.apic v level fits h | false ↦ h ]
received-keeps P V warm sends.Nmi p k fits h = h
received-keeps P V warm sends.Pass p k fits h = h
received-keeps P V warm sends.Init p k fits h = h
received-keeps P V warm (sends.Startup page) p k fits h = h

delivered-keeps : (P : LocalApic → Type 0) (V : ℕ → Type 0) (warm : Option ℕ) (test : Processor → Bool) (d : Delivery) (ps : List Processor) → Keeps P V → VectorOf V d → AllByRecursion (Of P) ps → AllByRecursion (Of P) (map (delivered_to warm test d) ps)
delivered-keeps P V warm test d ps k fits all = each-map (Of P) (delivered_to warm test d) ps one all where
  one : (p : Processor) → Of P p → Of P (delivered_to warm test d p)
  one p h = elim (test p) as (λ b. Of P (cond b (received warm d p) p)) [ true ↦ received-keeps P V warm d p k fits h | false ↦ h ]

cpu-keeps : (P : LocalApic → Type 0) (V : ℕ → Type 0) (id : ℕ) (o : Op) (s : BoardState) → Keeps P V → VectorIn V o → AllByRecursion (Of P) s.processors → AllByRecursion (Of P) (effect_of_cpu id o s).processors
cpu-keeps P V id (op.Init d) s k fits all = delivered-keeps P V s.warm (is_target (to_id d) s.processors) sends.Init s.processors k tt all
cpu-keeps P V id (op.Startup d page) s k fits all = delivered-keeps P V s.warm (is_target (to_id d) s.processors) (sends.Startup page) s.processors k tt all
cpu-keeps P V id (op.Ipi d v) s k fits all = delivered-keeps P V s.warm (is_target (to_id d) s.processors) (sends.Fixed v false) s.processors k fits all
cpu-keeps P V id (op.Ipl d v) s k fits all = delivered-keeps P V s.warm (is_target (to_logical d) s.processors) (sends.Fixed v false) s.processors k fits all
cpu-keeps P V id (op.Nmi d) s k fits all = delivered-keeps P V s.warm (is_target (to_id d) s.processors) sends.Nmi s.processors k tt all
cpu-keeps P V id op.Take s k fits all = each-processor P id (with_apic taken) s.processors (λ p h. k.take p.apic h) all
cpu-keeps P V id op.Poll s k fits all = each-processor P id (with_apic taken) s.processors (λ p h. k.take p.apic h) all
cpu-keeps P V id op.Eoi s k fits all = each-processor P id (with_apic after_end) s.processors (λ p h. k.end p.apic h) all
cpu-keeps P V id (op.Tpr n) s k fits all = each-processor P id (with_apic (λ a. record a { tpr = n })) s.processors (λ p h. k.tpr p.apic n h) all
cpu-keeps P V id (op.Ldr n) s k fits all = each-processor P id (with_apic (λ a. record a { ldr = n })) s.processors (λ p h. k.ldr p.apic n h) all
cpu-keeps P V id (op.Dfr n) s k fits all = each-processor P id (with_apic (λ a. record a { dfr = n })) s.processors (λ p h. k.dfr p.apic n h) all
cpu-keeps P V id o s k fits all = all

-- the vector of a pin's message is a byte
due-byte : (n : ℕ) (pins : List Pin) (m : Message) → next_due_from n pins ≡ Some m → m.vector < 256
due-byte n [] m e = absurd (cc)
due-byte n (p ∷ ps) m e = go p.due e (due-byte (n + 1) ps m) where
  go : (b : Bool) → cond b (Some (message_of n p)) (next_due_from (n + 1) ps) ≡ Some m → (next_due_from (n + 1) ps ≡ Some m → m.vector < 256) → m.vector < 256
  go true w rest =
      let is : message_of n p ≡ m = cc in
      let same : p.low % 256 ≡ m.vector = ap (λ (x : Message). x.vector) is in
      omega arith
  go false w rest = rest w

due-is-byte : (a : ℕ) (s : BoardState) (m : Message) → due_at a s ≡ Some m → m.vector < 256
due-is-byte a s m e = go (slice_get s.places a) e where
  go : (r : Option Place) → due_of r ≡ Some m → m.vector < 256
  go None w = absurd (cc)
  go (Some p) w = due-byte 0 p.chip.pins m w

kind-fits : (V : ℕ → Type 0) (m : Message) → V m.vector → (d : Delivery) → kind_of m ≡ Some d → VectorOf V d
kind-fits V m fits d e = go (nat_lt m.mode 2) (m.mode == 2) (m.mode == 4) (m.mode == 7) e where
  go : (a b c f : Bool) → cond a (Some (sends.Fixed m.vector m.level)) (cond b (Some sends.Pass) (cond c (Some sends.Nmi) (cond f (Some sends.Pass) None))) ≡ Some d → VectorOf V d
  go true b c f w = let is : sends.Fixed m.vector m.level ≡ d = cc in subst (VectorOf V) is fits
  go false true c f w = let is : sends.Pass ≡ d = cc in subst (VectorOf V) is tt
  go false false true f w = let is : sends.Nmi ≡ d = cc in subst (VectorOf V) is tt
  go false false false true w = let is : sends.Pass ≡ d = cc in subst (VectorOf V) is tt
  go false false false false w = absurd (cc)

send-keeps : (P : LocalApic → Type 0) (V : ℕ → Type 0) (a : ℕ) (r : Option Message) (s : BoardState) → due_at a s ≡ r → Keeps P V → AllByRecursion (Of P) s.processors → AllByRecursion (Of P) (sent_message a r s).processors
send-keeps P V a None s e k all = all
send-keeps P V a (Some m) s e k all = go (kind_of m) refl where
  go : (r : Option Delivery) → kind_of m ≡ r → AllByRecursion (Of P) (deliver_kind (aim_of m) r s).processors
  go None w = all
  go (Some d) w = delivered-keeps P V s.warm (is_target (aim_of m) s.processors) d s.processors k (kind-fits V m (k.bytes m.vector (due-is-byte a s m e)) d w) all

step-keeps : (P : LocalApic → Type 0) (V : ℕ → Type 0) (g : Agent) (o : Op) (s : BoardState) → Keeps P V → VectorIn V o → AllByRecursion (Of P) s.processors → AllByRecursion (Of P) (after g o s).processors
step-keeps P V (Cpu id) o s k fits all = each-processor P id (λ p. record p { position = suc p.position }) (effect_of_cpu id o s).processors (λ p h. h) (cpu-keeps P V id o s k fits all)
step-keeps P V (Dev n) (op.High a pin) s k fits all = all
step-keeps P V (Dev n) (op.Low a pin) s k fits all = all
step-keeps P V (Dev n) o s k fits all = all
step-keeps P V (Io a) (op.Collect pins) s k fits all = all
step-keeps P V (Io a) (op.Send pin) s k fits all = send-keeps P V a (due_at a s) s refl k all
step-keeps P V (Io a) op.Sweep s k fits all = all
step-keeps P V (Io a) o s k fits all = all

run-keeps : (P : LocalApic → Type 0) (V : ℕ → Type 0) (s : BoardState) (xs : List Entry) → Keeps P V → AllByRecursion (λ x. VectorIn V x.op) xs → AllByRecursion (Of P) s.processors → AllByRecursion (Of P) (fold after_entry s xs).processors
run-keeps P V s [] k fits all = all
run-keeps P V s (x ∷ xs) k fits all = run-keeps P V (after_entry s x) xs k fits.1 (step-keeps P V x.agent x.op s k fits.0 all)

first-keeps : (P : LocalApic → Type 0) (boot : ℕ) (ps : List CpuPlan) → P reset → AllByRecursion (Of P) (map (first_processor boot) ps)
first-keeps P boot [] h = tt
first-keeps P boot (p ∷ ps) h = (h, first-keeps P boot ps h)

-- ---- the sets of a local APIC ascend

abbrev Any' : ℕ → Type 0
Any' v = Unit {0}

any-vector : (o : Op) → VectorIn Any' o
any-vector (op.Ipi d v) = tt
any-vector (op.Ipl d v) = tt
any-vector o = tt

any-vectors : (xs : List Entry) → AllByRecursion (λ x. VectorIn Any' x.op) xs
any-vectors [] = tt
any-vectors (x ∷ xs) = (any-vector x.op, any-vectors xs)

ordered-keeps : Keeps IsOrdered Any'
ordered-keeps = record {
  accept = λ a v level fits o. ordered-accepted a v level o;
  take = ordered-taken;
  end = ordered-after_end;
  tpr = λ a n o. record { irr = o.irr; isr = o.isr; tmr = o.tmr };
  ldr = λ a n o. record { irr = o.irr; isr = o.isr; tmr = o.tmr };
  dfr = λ a n o. record { irr = o.irr; isr = o.isr; tmr = o.tmr };
  bytes = λ n lt. tt;
}

pub sets_ascend : (c : Plan) (journal : List Entry) → AllByRecursion (λ p. IsOrdered p.apic) (final_state_of c journal).processors
sets_ascend c journal = run-keeps IsOrdered Any' (initial_state_of c) journal ordered-keeps (any-vectors journal) (first-keeps IsOrdered c.boot c.cpus ordered-reset)

-- ---- their members are bytes

got-byte : (xs : List ℕ) (i v : ℕ) → AreBytes xs → slice_get xs i ≡ Some v → v < 256
got-byte [] i v all e = absurd (cc)
got-byte (x ∷ xs) zero v all e = let is : x ≡ v = cc in omega (arith, is, all.0)
got-byte (x ∷ xs) (suc i) v all e = got-byte xs i v all.1 e

bytes-reset : HoldsBytes reset
bytes-reset = record { irr = tt; isr = tt; tmr = tt }

bytes-accepted : (a : LocalApic) (v : ℕ) (level : Bool) → v < 256 → HoldsBytes a → HoldsBytes (accepted v level a)
bytes-accepted a v level lt o = go (nat_lt v 16) where
  trigger : (level : Bool) → AreBytes (cond level (with_number v a.tmr) (without v a.tmr))
  trigger true = AllBelow-with 256 v a.tmr lt o.tmr
  trigger false = AllBelow-without 256 v a.tmr o.tmr

  go : (b : Bool) → HoldsBytes (cond b a (record a { irr = with_number v a.irr; tmr = cond level (with_number v a.tmr) (without v a.tmr) }))
  go true = o
  go false = record { irr = AllBelow-with 256 v a.irr lt o.irr; isr = o.isr; tmr = trigger level }

above-is : (p v : ℕ) (r : Option ℕ) → above p r ≡ Some v → r ≡ Some v
above-is p v None e = e
above-is p v (Some u) e = go (nat_lt (p / 16) (u / 16)) e where
  go : (b : Bool) → cond b (Some u) None ≡ Some v → Some u ≡ Some v
  go true w = w
  go false w = absurd (cc)

bytes-taken : (a : LocalApic) → HoldsBytes a → HoldsBytes (taken a)
bytes-taken a o = go (next_vector a) refl where
  go : (r : Option ℕ) → next_vector a ≡ r → HoldsBytes (taken_from a r)
  go None e = o
  go (Some v) e = record { irr = AllBelow-without 256 v a.irr o.irr; isr = AllBelow-with 256 v a.isr (got-byte a.irr (length a.irr - 1) v o.irr (above-is (ppr a) v (greatest a.irr) e)) o.isr; tmr = o.tmr }

bytes-after_end : (a : LocalApic) → HoldsBytes a → HoldsBytes (after_end a)
bytes-after_end a o = go (greatest a.isr) where
  go : (r : Option ℕ) → HoldsBytes (after_end_of a r)
  go None = o
  go (Some v) = record { irr = o.irr; isr = AllBelow-without 256 v a.isr o.isr; tmr = o.tmr }

abbrev Byte : ℕ → Type 0
Byte v = v < 256

byte-vector : (o : Op) → NamesByte o → VectorIn Byte o
byte-vector (op.Ipi d v) h = h
byte-vector (op.Ipl d v) h = h
byte-vector o h = tt

byte-vectors : (xs : List Entry) → AllByRecursion (λ x. NamesByte x.op) xs → AllByRecursion (λ x. VectorIn Byte x.op) xs
byte-vectors [] h = tt
byte-vectors (x ∷ xs) h = (byte-vector x.op h.0, byte-vectors xs h.1)

bytes-keep : Keeps HoldsBytes Byte
bytes-keep = record {
  accept = bytes-accepted;
  take = bytes-taken;
  end = bytes-after_end;
  tpr = λ a n o. record { irr = o.irr; isr = o.isr; tmr = o.tmr };
  ldr = λ a n o. record { irr = o.irr; isr = o.isr; tmr = o.tmr };
  dfr = λ a n o. record { irr = o.irr; isr = o.isr; tmr = o.tmr };
  bytes = λ n lt. lt;
}

pub vectors_are_bytes : (c : Plan) (journal : List Entry) → AllByRecursion (λ x. NamesByte x.op) journal → AllByRecursion (λ p. HoldsBytes p.apic) (final_state_of c journal).processors
vectors_are_bytes c journal named = run-keeps HoldsBytes Byte (initial_state_of c) journal bytes-keep (byte-vectors journal named) (first-keeps HoldsBytes c.boot c.cpus bytes-reset)

-- ---- masked pins aren't due

abbrev Quiet : Place → Type 0
Quiet p = AllByRecursion IsQuietWhereMasked p.chip.pins

pins-keep : (f : IoChip → IoChip) (ps : List Place) → ((c : IoChip) → AllByRecursion IsQuietWhereMasked c.pins → AllByRecursion IsQuietWhereMasked (f c).pins) → AllByRecursion Quiet ps → (a : ℕ) → AllByRecursion Quiet (change_at a (with_chip f) ps)
pins-keep f ps keeps all a = each-change_at Quiet a (with_chip f) ps (λ p h. keeps p.chip h) all

quiet-half : (half value : ℕ) (p : Pin) → IsQuietWhereMasked p → IsQuietWhereMasked (with_half half value p)
quiet-half half value p h = elim (half == 0) as (λ b. IsQuietWhereMasked (cond b (Rattle.mpb_spec.specs.IoApic.with_low value p) (Rattle.mpb_spec.specs.IoApic.with_high value p))) [ true ↦ quiet-low p value | false ↦ quiet-high p value h ]

quiet-written : (v : ℕ) (c : IoChip) → AllByRecursion IsQuietWhereMasked c.pins → AllByRecursion IsQuietWhereMasked (written v c).pins
quiet-written v c all = go (c.index == 0) (nat_lt c.index 16) where
  go : (x y : Bool) → AllByRecursion IsQuietWhereMasked (cond x (record c { id = v / 16777216 % 16; arbitration = v / 16777216 % 16 }) (cond y c (record c { pins = change_pin ((c.index - 16) / 2) (with_half (c.index % 2) v) c.pins }))).pins
  go true y = all
  go false true = all
  go false false = each-change_pin IsQuietWhereMasked ((c.index - 16) / 2) (with_half (c.index % 2) v) c.pins (λ p h. quiet-half (c.index % 2) v p h) all

quiet-pulsed : (mask : ℕ) (pins : List Pin) → AllByRecursion IsQuietWhereMasked pins → AllByRecursion IsQuietWhereMasked (pulsed mask pins)
quiet-pulsed mask [] all = tt
quiet-pulsed mask (p ∷ ps) all = (one (mask % 2 == 1), quiet-pulsed (mask / 2) ps all.1) where
  one : (b : Bool) → IsQuietWhereMasked (cond b (with_pulse p) p)
  one true = quiet-pulse p all.0
  one false = all.0

quiet-ended : (r : Option ℕ) (ps : List Place) → AllByRecursion Quiet ps → AllByRecursion Quiet (ended_at_places r ps)
quiet-ended None ps all = all
quiet-ended (Some v) ps all = each-map Quiet (with_chip (with_pins_of (map (with_eoi v)))) ps (λ p h. each-map IsQuietWhereMasked (with_eoi v) p.chip.pins (λ x q. quiet-eoi x v q) h) all

quiet-cpu : (id : ℕ) (o : Op) (s : BoardState) → AllByRecursion Quiet s.places → AllByRecursion Quiet (effect_of_cpu id o s).places
quiet-cpu id (op.Init d) s all = all
quiet-cpu id op.Eoi s all = quiet-ended (level_end (processor_of id s.processors)) s.places all
quiet-cpu id (op.IoSel a r) s all = pins-keep (λ c. record c { index = r }) s.places (λ c h. h) all a
quiet-cpu id (op.IoWin a v) s all = pins-keep (written v) s.places (λ c h. quiet-written v c h) all a
quiet-cpu id o s all = all

quiet-send : (a : ℕ) (r : Option Message) (s : BoardState) → AllByRecursion Quiet s.places → AllByRecursion Quiet (sent_message a r s).places
quiet-send a None s all = all
quiet-send a (Some m) s all =
    pins-keep (with_pins_of (change_pin m.pin (with_sent (was_accepted (send_outcomes (Some m) s))))) s.places
    (λ c h. each-change_pin IsQuietWhereMasked m.pin (with_sent (was_accepted (send_outcomes (Some m) s))) c.pins (λ p q. quiet-sent p (was_accepted (send_outcomes (Some m) s))) h)
    all a

quiet-driven : (pin : ℕ) (high : Bool) (c : IoChip) → AllByRecursion IsQuietWhereMasked c.pins → AllByRecursion IsQuietWhereMasked (change_pin pin (with_line high) c.pins)
quiet-driven pin high c h = each-change_pin IsQuietWhereMasked pin (with_line high) c.pins (λ p q. quiet-line p high q) h

quiet-step : (g : Agent) (o : Op) (s : BoardState) → AllByRecursion Quiet s.places → AllByRecursion Quiet (after g o s).places
quiet-step (Cpu id) o s all = quiet-cpu id o s all
quiet-step (Dev n) (op.High a pin) s all = pins-keep (with_pins_of (change_pin pin (with_line true))) s.places (λ c h. quiet-driven pin true c h) all a
quiet-step (Dev n) (op.Low a pin) s all = pins-keep (with_pins_of (change_pin pin (with_line false))) s.places (λ c h. quiet-driven pin false c h) all a
quiet-step (Dev n) o s all = all
quiet-step (Io a) (op.Collect pins) s all = each-change_at Quiet a (collected pins) s.places (λ p h. quiet-pulsed pins p.chip.pins h) all
quiet-step (Io a) (op.Send pin) s all = quiet-send a (due_at a s) s all
quiet-step (Io a) op.Sweep s all = each-change_at Quiet a (λ p. record p { swept = true }) s.places (λ p h. h) all
quiet-step (Io a) o s all = all

quiet-run : (s : BoardState) (xs : List Entry) → AllByRecursion Quiet s.places → AllByRecursion Quiet (fold after_entry s xs).places
quiet-run s [] all = all
quiet-run s (x ∷ xs) all = quiet-run (after_entry s x) xs (quiet-step x.agent x.op s all)

quiet-pins : (n : ℕ) → AllByRecursion IsQuietWhereMasked (replicate n reset_pin)
quiet-pins zero = tt
quiet-pins (suc n) = (λ e. refl, quiet-pins n)

quiet-first : (ds : List (List DevWord)) (a : ℕ) (ids : List ℕ) → AllByRecursion Quiet (first_places ds a ids)
quiet-first ds a [] = tt
quiet-first ds a (id ∷ ids) = (quiet-pins 24, quiet-first ds (a + 1) ids)

pub masked_are_quiet : (c : Plan) (journal : List Entry) → AllByRecursion (λ p. AllByRecursion IsQuietWhereMasked p.chip.pins) (final_state_of c journal).places
masked_are_quiet c journal = quiet-run (initial_state_of c) journal (quiet-first c.devices 0 c.ios)
