-- What a step leaves as it was: the devices, where the agent is none; which I/O APICs have swept; that the boot program is
-- through.
use Rattle.std.proofs.Common.{◌≡◌, ◌==◌, ℕ, suc, ◌≤◌, Bool, true, false, cond, List, [], ◌∷◌, map, refl, sym, ap, subst, Option, None, Some, nat_le, arith, true≢false}
use Rattle.std.proofs.lemmas.Bool.{leb-true, le-leb}
use Rattle.mpb_spec.specs.declared.agent.Agent.TheVariants.{Cpu, Io, Dev}
use Rattle.mpb_spec.specs.declared.agent.Op.{Op}
use Rattle.mpb_spec.specs.declared.agent.Op.TheVariants as op
use Rattle.mpb_spec.specs.declared.apic.Message.{Message}
use Rattle.mpb_spec.specs.declared.apic.Aim.{Aim}
use Rattle.mpb_spec.specs.declared.apic.Delivery.{Delivery}
use Rattle.mpb_spec.specs.declared.apic.Delivery.TheVariants as sends
use Rattle.mpb_spec.specs.LocalApic.{LocalApic, taken, after_end}
use Rattle.mpb_spec.specs.IoApic.{written, change_pin, with_line, with_sent, with_eoi}
use Rattle.mpb_spec.specs.State.{Processor, Place, Device, BoardState, processor_of, change_processor, change_at, is_through, boot_is_through, runs}
use Rattle.mpb_spec.specs.Delivery.{delivered_to, received, is_target, to_id, to_logical}
use Rattle.mpb_spec.specs.Steps.{after, effect_of_cpu, with_apic, with_chip, with_pins_of, ended_at_places, level_end, collected, sent_message, deliver_kind, kind_of, aim_of, due_at, was_accepted, send_outcomes}
use Rattle.mpb_robin.proofs.Places.{map-change, map-map}

-- ---- devices

cpu-leaves : (id : ℕ) (o : Op) (s : BoardState) → (effect_of_cpu id o s).devices ≡ s.devices
cpu-leaves id op.Imcr s = refl
cpu-leaves id o s = refl

kind-leaves : (aim : Aim) (k : Option Delivery) (s : BoardState) → (deliver_kind aim k s).devices ≡ s.devices
kind-leaves aim None s = refl
kind-leaves aim (Some m) s = refl

send-leaves : (a : ℕ) (m : Option Message) (s : BoardState) → (sent_message a m s).devices ≡ s.devices
send-leaves a None s = refl
send-leaves a (Some m) s = kind-leaves (aim_of m) (kind_of m) s

pub cpu-devices : (id : ℕ) (o : Op) (s : BoardState) → (after (Cpu id) o s).devices ≡ s.devices
cpu-devices id o s = cpu-leaves id o s

pub io-devices : (a : ℕ) (o : Op) (s : BoardState) → (after (Io a) o s).devices ≡ s.devices
io-devices a (op.Collect pins) s = refl
io-devices a (op.Send pin) s = send-leaves a (due_at a s) s
io-devices a op.Sweep s = refl
io-devices a o s = refl

abbrev pub one_on : Device → Device
one_on v = record v { position = suc v.position }

pub dev-devices : (d : ℕ) (o : Op) (s : BoardState) → (after (Dev d) o s).devices ≡ change_at d one_on s.devices
dev-devices d (op.High a pin) s = refl
dev-devices d (op.Low a pin) s = refl
dev-devices d o s = refl

-- ---- which have swept

abbrev pub sweeps : BoardState → List Bool
sweeps s = map (λ p. p.swept) s.places

chips : (f : Rattle.mpb_spec.specs.IoApic.IoChip → Rattle.mpb_spec.specs.IoApic.IoChip) (a : ℕ) (ps : List Place) → map (λ p. p.swept) (change_at a (with_chip f) ps) ≡ map (λ p. p.swept) ps
chips f a ps = map-change (λ (p : Place). p.swept) (with_chip f) a ps (λ p. refl)

ends : (v : Option ℕ) (ps : List Place) → map (λ p. p.swept) (ended_at_places v ps) ≡ map (λ p. p.swept) ps
ends None ps = refl
ends (Some v) ps = map-map (λ (p : Place). p.swept) (with_chip (with_pins_of (map (with_eoi v)))) ps (λ p. refl)

sent : (a : ℕ) (m : Option Message) (s : BoardState) → sweeps (sent_message a m s) ≡ sweeps s
sent a None s = refl
sent a (Some m) s = chips (with_pins_of (change_pin m.pin (with_sent (was_accepted (send_outcomes (Some m) s))))) a s.places

pub cpu-sweeps : (id : ℕ) (o : Op) (s : BoardState) → sweeps (after (Cpu id) o s) ≡ sweeps s
cpu-sweeps id (op.IoSel a r) s = chips (λ c. record c { index = r }) a s.places
cpu-sweeps id (op.IoWin a v) s = chips (written v) a s.places
cpu-sweeps id op.Eoi s = ends (level_end (processor_of id s.processors)) s.places
cpu-sweeps id o s = refl

pub dev-sweeps : (d : ℕ) (o : Op) (s : BoardState) → sweeps (after (Dev d) o s) ≡ sweeps s
dev-sweeps d (op.High a pin) s = chips (with_pins_of (change_pin pin (with_line true))) a s.places
dev-sweeps d (op.Low a pin) s = chips (with_pins_of (change_pin pin (with_line false))) a s.places
dev-sweeps d o s = refl

pub collect-sweeps : (a pins : ℕ) (s : BoardState) → sweeps (after (Io a) (op.Collect pins) s) ≡ sweeps s
collect-sweeps a pins s = map-change (λ (p : Place). p.swept) (collected pins) a s.places (λ p. refl)

pub send-sweeps : (a pin : ℕ) (s : BoardState) → sweeps (after (Io a) (op.Send pin) s) ≡ sweeps s
send-sweeps a pin s = sent a (due_at a s) s

-- ---- the boot program stays through

-- a change that keeps ids and takes no position back
record GoesOn (k : Processor → Processor) : Type 0 where
  id : (p : Processor) → (k p).id ≡ p.id
  position : (p : Processor) → p.position ≤ (k p).position

through-at : (n : ℕ) (p q : Processor) → p.position ≤ q.position → nat_le n p.position ≡ true → nat_le n q.position ≡ true
through-at n p q le e = le-leb n q.position (let l = leb-true n p.position e in omega arith)

through-map : (k : Processor → Processor) (id n : ℕ) (ps : List Processor) → GoesOn k → is_through (processor_of id ps) n ≡ true → is_through (processor_of id (map k ps)) n ≡ true
through-map k id n [] g e = e
through-map k id n (p ∷ ps) g e = go (p.id == id) ((k p).id == id) (ap (λ v. v == id) (g.id p)) e (through-map k id n ps g) where
  go : (b c : Bool) → c ≡ b → is_through (cond b (Some p) (processor_of id ps)) n ≡ true → (is_through (processor_of id ps) n ≡ true → is_through (processor_of id (map k ps)) n ≡ true) → is_through (cond c (Some (k p)) (processor_of id (map k ps))) n ≡ true
  go true true w e rest = through-at n p (k p) (g.position p) e
  go false false w e rest = rest e
  go true false w e rest = absurd (true≢false (sym w))
  go false true w e rest = absurd (true≢false w)

through-change : (k : Processor → Processor) (j id n : ℕ) (ps : List Processor) → GoesOn k → is_through (processor_of id ps) n ≡ true → is_through (processor_of id (change_processor j k ps)) n ≡ true
through-change k j id n [] g e = e
through-change k j id n (p ∷ ps) g e = at (p.id == j) refl (through-change k j id n ps g) where
  here : (b c : Bool) → c ≡ b → is_through (cond b (Some p) (processor_of id ps)) n ≡ true → is_through (cond c (Some (k p)) (processor_of id ps)) n ≡ true
  here true true w e = through-at n p (k p) (g.position p) e
  here false false w e = e
  here true false w e = absurd (true≢false (sym w))
  here false true w e = absurd (true≢false w)

  there : (b : Bool) → is_through (cond b (Some p) (processor_of id ps)) n ≡ true → (is_through (processor_of id ps) n ≡ true → is_through (processor_of id (change_processor j k ps)) n ≡ true) → is_through (cond b (Some p) (processor_of id (change_processor j k ps))) n ≡ true
  there true e rest = e
  there false e rest = rest e

  at : (b : Bool) → (p.id == j) ≡ b → (is_through (processor_of id ps) n ≡ true → is_through (processor_of id (change_processor j k ps)) n ≡ true) → is_through (processor_of id (cond b (k p ∷ ps) (p ∷ change_processor j k ps))) n ≡ true
  at true w rest = here (p.id == id) ((k p).id == id) (ap (λ v. v == id) (g.id p)) e
  at false w rest = there (p.id == id) e rest

received-goes : (warm : Option ℕ) (d : Delivery) (p : Processor) → ((received warm d p).id ≡ p.id) × ((received warm d p).position ≡ p.position)
received-goes warm (sends.Fixed v level) p = go (runs p.life) where
  go : (b : Bool) → ((cond b (record p { apic = Rattle.mpb_spec.specs.LocalApic.accepted v level p.apic }) p).id ≡ p.id) × ((cond b (record p { apic = Rattle.mpb_spec.specs.LocalApic.accepted v level p.apic }) p).position ≡ p.position)
  go true = (refl, refl)
  go false = (refl, refl)
received-goes warm sends.Nmi p = (refl, refl)
received-goes warm sends.Pass p = (refl, refl)
received-goes warm sends.Init p = (refl, refl)
received-goes warm (sends.Startup page) p = (refl, refl)

delivered-goes : (warm : Option ℕ) (test : Processor → Bool) (d : Delivery) → GoesOn (delivered_to warm test d)
delivered-goes warm test d = record { id = λ p. (kept p).0; position = λ p. (let e = (kept p).1 in omega arith) } where
  kept : (p : Processor) → ((delivered_to warm test d p).id ≡ p.id) × ((delivered_to warm test d p).position ≡ p.position)
  kept p = go (test p) where
    go : (b : Bool) → ((cond b (received warm d p) p).id ≡ p.id) × ((cond b (received warm d p) p).position ≡ p.position)
    go true = received-goes warm d p
    go false = (refl, refl)

apic-goes : (f : LocalApic → LocalApic) → GoesOn (with_apic f)
apic-goes f = record { id = λ p. refl; position = λ p. omega arith }

step-goes : GoesOn (λ p. record p { position = suc p.position })
step-goes = record { id = λ p. refl; position = λ p. omega arith }

abbrev pub Through : BoardState → Type 0
Through s = boot_is_through s ≡ true

effect-through : (id : ℕ) (o : Op) (s : BoardState) → Through s → is_through (processor_of s.boot (effect_of_cpu id o s).processors) s.boot_len ≡ true
effect-through id (op.Init d) s h = through-map (delivered_to s.warm (is_target (to_id d) s.processors) sends.Init) s.boot s.boot_len s.processors (delivered-goes s.warm (is_target (to_id d) s.processors) sends.Init) h
effect-through id (op.Startup d page) s h = through-map (delivered_to s.warm (is_target (to_id d) s.processors) (sends.Startup page)) s.boot s.boot_len s.processors (delivered-goes s.warm (is_target (to_id d) s.processors) (sends.Startup page)) h
effect-through id (op.Ipi d v) s h = through-map (delivered_to s.warm (is_target (to_id d) s.processors) (sends.Fixed v false)) s.boot s.boot_len s.processors (delivered-goes s.warm (is_target (to_id d) s.processors) (sends.Fixed v false)) h
effect-through id (op.Ipl d v) s h = through-map (delivered_to s.warm (is_target (to_logical d) s.processors) (sends.Fixed v false)) s.boot s.boot_len s.processors (delivered-goes s.warm (is_target (to_logical d) s.processors) (sends.Fixed v false)) h
effect-through id (op.Nmi d) s h = through-map (delivered_to s.warm (is_target (to_id d) s.processors) sends.Nmi) s.boot s.boot_len s.processors (delivered-goes s.warm (is_target (to_id d) s.processors) sends.Nmi) h
effect-through id op.Take s h = through-change (with_apic taken) id s.boot s.boot_len s.processors (apic-goes taken) h
effect-through id op.Poll s h = through-change (with_apic taken) id s.boot s.boot_len s.processors (apic-goes taken) h
effect-through id op.Eoi s h = through-change (with_apic after_end) id s.boot s.boot_len s.processors (apic-goes after_end) h
effect-through id (op.Tpr n) s h = through-change (with_apic (λ a. record a { tpr = n })) id s.boot s.boot_len s.processors (apic-goes (λ a. record a { tpr = n })) h
effect-through id (op.Ldr n) s h = through-change (with_apic (λ a. record a { ldr = n })) id s.boot s.boot_len s.processors (apic-goes (λ a. record a { ldr = n })) h
effect-through id (op.Dfr n) s h = through-change (with_apic (λ a. record a { dfr = n })) id s.boot s.boot_len s.processors (apic-goes (λ a. record a { dfr = n })) h
effect-through id o s h = h

effect-boot : (id : ℕ) (o : Op) (s : BoardState) → ((effect_of_cpu id o s).boot ≡ s.boot) × ((effect_of_cpu id o s).boot_len ≡ s.boot_len)
effect-boot id op.Imcr s = (refl, refl)
effect-boot id o s = (refl, refl)

pub cpu-through : (id : ℕ) (o : Op) (s : BoardState) → Through s → Through (after (Cpu id) o s)
cpu-through id o s h =
    let e : BoardState = effect_of_cpu id o s in
    let same = effect-boot id o s in
    let f = through-change (λ p. record p { position = suc p.position }) id s.boot s.boot_len e.processors step-goes (effect-through id o s h) in
    subst (λ (q : ℕ × ℕ). is_through (processor_of q.0 (change_processor id (λ p. record p { position = suc p.position }) e.processors)) q.1 ≡ true) (λ i. (sym same.0 i, sym same.1 i)) f

pub dev-through : (d : ℕ) (o : Op) (s : BoardState) → Through s → Through (after (Dev d) o s)
dev-through d (op.High a pin) s h = h
dev-through d (op.Low a pin) s h = h
dev-through d o s h = h

kind-through : (aim : Aim) (k : Option Delivery) (s : BoardState) → Through s → Through (deliver_kind aim k s)
kind-through aim None s h = h
kind-through aim (Some m) s h = through-map (delivered_to s.warm (is_target aim s.processors) m) s.boot s.boot_len s.processors (delivered-goes s.warm (is_target aim s.processors) m) h

send-through : (a : ℕ) (m : Option Message) (s : BoardState) → Through s → Through (sent_message a m s)
send-through a None s h = h
send-through a (Some m) s h = kind-through (aim_of m) (kind_of m) s h

pub io-through : (a : ℕ) (o : Op) (s : BoardState) → Through s → Through (after (Io a) o s)
io-through a (op.Collect pins) s h = h
io-through a (op.Send pin) s h = send-through a (due_at a s) s h
io-through a op.Sweep s h = h
io-through a o s h = h
