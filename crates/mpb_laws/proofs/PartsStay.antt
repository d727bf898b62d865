-- No step changes which processors, I/O APICs and devices there are.
use Rattle.std.proofs.Common.{◌≡◌, ℕ, zero, suc, ◌+◌, true, false, List, [], ◌∷◌, length, map, refl, ap, ◌∙◌, Option, None, Some, fold}
use Rattle.mpb_spec.specs.declared.agent.Agent.{Agent}
use Rattle.mpb_spec.specs.declared.agent.Agent.TheVariants.{Cpu, Io, Dev}
use Rattle.mpb_spec.specs.declared.agent.Op.{Op}
use Rattle.mpb_spec.specs.declared.agent.Op.TheVariants as op
use Rattle.mpb_spec.specs.declared.apic.Message.{Message}
use Rattle.mpb_spec.specs.declared.apic.Aim.{Aim}
use Rattle.mpb_spec.specs.declared.apic.Delivery.{Delivery}
use Rattle.mpb_spec.specs.declared.config.DevWord.{DevWord}
use Rattle.mpb_spec.specs.declared.entry.Entry.{Entry}
use Rattle.mpb_spec.specs.IoApic.{written, change_pin, with_line, with_sent, with_eoi}
use Rattle.mpb_spec.specs.State.{Place, Device, BoardState, processor_of, change_at}
use Rattle.mpb_spec.specs.Steps.{after, effect_of_cpu, with_chip, with_pins_of, ended_at_places, level_end, collected, sent_message, deliver_kind, kind_of, aim_of, due_at, was_accepted, send_outcomes}
use Rattle.mpb_spec.specs.Plan.{Plan, initial_state_of, first_places, first_device}
use Rattle.mpb_spec.specs.Journal.{after_entry, final_state_of}
use Rattle.mpb_laws.proofs.StepAccounts.{run-ids, first-ids}

change-keeps : {X : Type 0} (f : X → X) (n : ℕ) (xs : List X) → length (change_at n f xs) ≡ length xs
change-keeps f n [] = refl
change-keeps f zero (x ∷ xs) = refl
change-keeps f (suc n) (x ∷ xs) = ap suc (change-keeps f n xs)

map-keeps : {X Y : Type 0} (f : X → Y) (xs : List X) → length (map f xs) ≡ length xs
map-keeps f [] = refl
map-keeps f (x ∷ xs) = ap suc (map-keeps f xs)

ends-keep : (v : Option ℕ) (ps : List Place) → length (ended_at_places v ps) ≡ length ps
ends-keep None ps = refl
ends-keep (Some v) ps = map-keeps (with_chip (with_pins_of (map (with_eoi v)))) ps

sends-keep : (a : ℕ) (m : Option Message) (s : BoardState) → length (sent_message a m s).places ≡ length s.places
sends-keep a None s = refl
sends-keep a (Some m) s = change-keeps (with_chip (with_pins_of (change_pin m.pin (with_sent (was_accepted (send_outcomes (Some m) s)))))) a s.places

places-stay : (g : Agent) (o : Op) (s : BoardState) → length (after g o s).places ≡ length s.places
places-stay (Cpu id) (op.IoSel a r) s = change-keeps (with_chip (λ c. record c { index = r })) a s.places
places-stay (Cpu id) (op.IoWin a v) s = change-keeps (with_chip (written v)) a s.places
places-stay (Cpu id) op.Eoi s = ends-keep (level_end (processor_of id s.processors)) s.places
places-stay (Cpu id) o s = refl
places-stay (Dev n) (op.High a pin) s = change-keeps (with_chip (with_pins_of (change_pin pin (with_line true)))) a s.places
places-stay (Dev n) (op.Low a pin) s = change-keeps (with_chip (with_pins_of (change_pin pin (with_line false)))) a s.places
places-stay (Dev n) o s = refl
places-stay (Io a) (op.Collect pins) s = change-keeps (collected pins) a s.places
places-stay (Io a) (op.Send pin) s = sends-keep a (due_at a s) s
places-stay (Io a) op.Sweep s = change-keeps (λ p. record p { swept = true }) a s.places
places-stay (Io a) o s = refl

kind-devices : (aim : Aim) (k : Option Delivery) (s : BoardState) → (deliver_kind aim k s).devices ≡ s.devices
kind-devices aim None s = refl
kind-devices aim (Some m) s = refl

send-devices : (a : ℕ) (m : Option Message) (s : BoardState) → (sent_message a m s).devices ≡ s.devices
send-devices a None s = refl
send-devices a (Some m) s = kind-devices (aim_of m) (kind_of m) s

cpu-devices : (id : ℕ) (o : Op) (s : BoardState) → (effect_of_cpu id o s).devices ≡ s.devices
cpu-devices id op.Imcr s = refl
cpu-devices id o s = refl

devices-stay : (g : Agent) (o : Op) (s : BoardState) → length (after g o s).devices ≡ length s.devices
devices-stay (Cpu id) o s = ap (λ (ds : List Device). length ds) (cpu-devices id o s)
devices-stay (Dev n) (op.High a pin) s = change-keeps (λ v. record v { position = suc v.position }) n s.devices
devices-stay (Dev n) (op.Low a pin) s = change-keeps (λ v. record v { position = suc v.position }) n s.devices
devices-stay (Dev n) o s = change-keeps (λ v. record v { position = suc v.position }) n s.devices
devices-stay (Io a) (op.Collect pins) s = refl
devices-stay (Io a) (op.Send pin) s = ap (λ (ds : List Device). length ds) (send-devices a (due_at a s) s)
devices-stay (Io a) op.Sweep s = refl
devices-stay (Io a) o s = refl

run-places : (s : BoardState) (xs : List Entry) → length (fold after_entry s xs).places ≡ length s.places
run-places s [] = refl
run-places s (x ∷ xs) = run-places (after_entry s x) xs ∙ places-stay x.agent x.op s

run-devices : (s : BoardState) (xs : List Entry) → length (fold after_entry s xs).devices ≡ length s.devices
run-devices s [] = refl
run-devices s (x ∷ xs) = run-devices (after_entry s x) xs ∙ devices-stay x.agent x.op s

first-places : (ds : List (List DevWord)) (a : ℕ) (ids : List ℕ) → length (first_places ds a ids) ≡ length ids
first-places ds a [] = refl
first-places ds a (id ∷ ids) = ap suc (first-places ds (a + 1) ids)

pub ids_stay : (c : Plan) (journal : List Entry) → map (λ p. p.id) (final_state_of c journal).processors ≡ map (λ p. p.id) c.cpus
ids_stay c journal = run-ids (initial_state_of c) journal ∙ first-ids c.boot c.cpus

pub places_stay : (c : Plan) (journal : List Entry) → length (final_state_of c journal).places ≡ length c.ios
places_stay c journal = run-places (initial_state_of c) journal ∙ first-places c.devices 0 c.ios

pub devices_stay : (c : Plan) (journal : List Entry) → length (final_state_of c journal).devices ≡ length c.devices
devices_stay c journal = run-devices (initial_state_of c) journal ∙ map-keeps first_device c.devices
