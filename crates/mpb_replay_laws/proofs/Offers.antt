-- An entry that is a step is made with the offer for its op; an agent that isn't there, or has to wait, makes no step.
use Rattle.std.proofs.Common.{◌≡◌, ◌≢◌, ◌==◌, ℕ, ◌^◌, Bool, true, false, not, cond, ◌&&◌, ◌||◌, List, [], ◌∷◌, length, map, refl, sym, ap, ◌∙◌, subst, arith, Option, Some, None, is_some, slice_get, nat_lt, true≢false}
use Rattle.std.proofs.lemmas.Bool.{ltb-false, and_parts}
use Rattle.mpb_spec.specs.declared.agent.Agent.{Agent}
use Rattle.mpb_spec.specs.declared.agent.Agent.TheVariants.{Cpu, Io, Dev}
use Rattle.mpb_spec.specs.declared.agent.Offer.{Offer}
use Rattle.mpb_spec.specs.declared.agent.Offer.TheVariants as offer
use Rattle.mpb_spec.specs.declared.agent.Op.{Op}
use Rattle.mpb_spec.specs.declared.agent.Op.TheVariants as op
use Rattle.mpb_spec.specs.declared.apic.Message.{Message}
use Rattle.mpb_spec.specs.declared.entry.Entry.{Entry}
use Rattle.mpb_spec.specs.Numbers.{has}
use Rattle.mpb_spec.specs.LocalApic.{next_vector}
use Rattle.mpb_spec.specs.IoApic.{next_due}
use Rattle.mpb_spec.specs.State.{Processor, Place, Device, BoardState, runs, processor_of, op_at, device_op_at, boot_is_through, all_ended}
use Rattle.mpb_spec.specs.Steps.{next_op, op_of_processor, op_of_device, op_of_place, unless_waiting, unless_early, send_of, due_of, all_left}
use Rattle.mpb_spec.specs.Plan.{Plan}
use Rattle.mpb_spec.specs.Journal.{IsStep, final_state_of}
use Rattle.mpb_spec.proofs.StateLemmas.{got_beyond}
use Rattle.mpb_laws.proofs.PartsStay.{ids_stay, places_stay, devices_stay}
use Rattle.mpb_replay_laws.specs.declared.verdict.BadWhy.{BadWhy}
use Rattle.mpb_replay_laws.specs.declared.verdict.BadWhy.TheVariants.{NoAgent, Waits, Program, Outcome}
use Rattle.mpb_replay_laws.specs.Wrong.{has_agent, has_to_wait, processor_waits, device_waits, place_waits, is_take, is_begin, offer_for, IsWrong}

-- ---- the offer

send-offer : (m : Option Message) (a : ℕ) (o : Op) → send_of m ≡ Some o → offer_for (Io a) o ≡ offer.Next
send-offer None a o e = cc
send-offer (Some m) a o e = let same : op.Send m.pin ≡ o = cc in subst (λ (x : Op). offer_for (Io a) x ≡ offer.Next) same refl

tested : (b : Bool) (x o : Op) → cond b (Some x) None ≡ Some o → x ≡ o
tested true x o e = cc
tested false x o e = cc

place-offer : (t v : Bool) (a : ℕ) (f : Offer) (r : Option Place) (o : Op) → op_of_place t v f r ≡ Some o → offer_for (Io a) o ≡ f
place-offer t v a f None o e = cc
place-offer t v a offer.Next (Some p) o e = send-offer (next_due p.chip) a o e
place-offer t v a (offer.Collect pins) (Some p) o e =
    let same : op.Collect pins ≡ o = tested (t && (not p.swept && (nat_lt 0 pins && (nat_lt pins (2 ^ 24) && all_left pins p.left)))) (op.Collect pins) o e in
    subst (λ (x : Op). offer_for (Io a) x ≡ offer.Collect pins) same refl
place-offer t v a offer.Sweep (Some p) o e =
    let same : op.Sweep ≡ o = tested (not p.swept && v) op.Sweep o e in
    subst (λ (x : Op). offer_for (Io a) x ≡ offer.Sweep) same refl

-- what an agent makes with some offer it makes with the one for the op
pub offered : (s : BoardState) (g : Agent) (f : Offer) (o : Op) → next_op s g f ≡ Some o → next_op s g (offer_for g o) ≡ Some o
offered s (Cpu id) offer.Next o e = e
offered s (Cpu id) (offer.Collect pins) o e = cc
offered s (Cpu id) offer.Sweep o e = cc
offered s (Dev d) offer.Next o e = e
offered s (Dev d) (offer.Collect pins) o e = cc
offered s (Dev d) offer.Sweep o e = cc
offered s (Io a) f o e = subst (λ (h : Offer). next_op s (Io a) h ≡ Some o) (sym (place-offer (boot_is_through s) (all_ended s) a f (slice_get s.places a) o e)) e

-- ---- an agent that has to wait makes nothing

no-take : (p : Processor) (r : Option Op) → (is_take r && not (is_some (next_vector p.apic))) ≡ true → unless_waiting p.apic r ≡ None
no-take p None e = refl
no-take p (Some op.Take) e = go (is_some (next_vector p.apic)) e where
  go : (b : Bool) → not b ≡ true → cond b (Some op.Take) None ≡ None
  go true e = cc
  go false e = refl
no-take p (Some o) e = cc

processor-waits : (r : Option Processor) (o : Op) → processor_waits r o ≡ true → op_of_processor r ≡ None
processor-waits None o e = refl
processor-waits (Some p) o e = go (runs p.life) (is_take (Some o)) e where
  go : (b t : Bool) → (not b || (t && (is_take (op_at (Some p)) && not (is_some (next_vector p.apic))))) ≡ true → cond b (unless_waiting p.apic (slice_get p.program p.position)) None ≡ None
  go false t e = refl
  go true true e = no-take p (slice_get p.program p.position) e
  go true false e = cc

no-begin : (t : Bool) (r : Option Op) → (is_begin r && not t) ≡ true → unless_early t r ≡ None
no-begin true r e = absurd (true≢false (sym (and_parts (is_begin r) false e).1))
no-begin false None e = refl
no-begin false (Some op.Begin) e = refl
no-begin false (Some o) e = cc

device-waits : (t : Bool) (r : Option Device) (o : Op) → device_waits t r o ≡ true → op_of_device t r ≡ None
device-waits t None o e = refl
device-waits t (Some d) o e = no-begin t (slice_get d.program d.position) (and_parts (is_begin (Some o)) (is_begin (device_op_at (Some d)) && not t) e).1

no-send : (m : Option Message) → not (is_some m) ≡ true → send_of m ≡ None
no-send None e = refl
no-send (Some m) e = cc

not-so : (b : Bool) → not b ≡ true → b ≡ false
not-so true e = cc
not-so false e = refl

no-and : (b : Bool) → (not b && false) ≡ false
no-and true = refl
no-and false = refl

place-sends : (t v : Bool) (r : Option Place) → not (is_some (due_of r)) ≡ true → op_of_place t v offer.Next r ≡ None
place-sends t v None e = refl
place-sends t v (Some p) e = no-send (next_due p.chip) e

place-collects : (t v : Bool) (pins : ℕ) (r : Option Place) → t ≡ false → op_of_place t v (offer.Collect pins) r ≡ None
place-collects t v pins None e = refl
place-collects t v pins (Some p) e = rw e refl

place-sweeps : (t v : Bool) (r : Option Place) → v ≡ false → op_of_place t v offer.Sweep r ≡ None
place-sweeps t v None e = refl
place-sweeps t v (Some p) e = rw e (ap (λ (b : Bool). cond b (Some op.Sweep) None) (no-and p.swept))

place-waits : (s : BoardState) (a : ℕ) (o : Op) → place_waits s a o ≡ true → next_op s (Io a) (offer_for (Io a) o) ≡ None
place-waits s a (op.Send pin) e = place-sends (boot_is_through s) (all_ended s) (slice_get s.places a) e
place-waits s a (op.Collect pins) e = place-collects (boot_is_through s) (all_ended s) pins (slice_get s.places a) (not-so (boot_is_through s) e)
place-waits s a op.Sweep e = place-sweeps (boot_is_through s) (all_ended s) (slice_get s.places a) (not-so (all_ended s) e)
place-waits s a o e = cc

pub waits_none : (s : BoardState) (g : Agent) (o : Op) → has_to_wait s g o ≡ true → next_op s g (offer_for g o) ≡ None
waits_none s (Cpu id) o e = processor-waits (processor_of id s.processors) o e
waits_none s (Dev d) o e = device-waits (boot_is_through s) (slice_get s.devices d) o e
waits_none s (Io a) o e = place-waits s a o e

-- ---- an agent that isn't there makes nothing

not-found : (id : ℕ) (ps : List Processor) → has id (map (λ p. p.id) ps) ≡ false → processor_of id ps ≡ None
not-found id [] e = refl
not-found id (p ∷ ps) e = go (p.id == id) e (not-found id ps) where
  go : (b : Bool) → (b || has id (map (λ p. p.id) ps)) ≡ false → (has id (map (λ p. p.id) ps) ≡ false → processor_of id ps ≡ None) → cond b (Some p) (processor_of id ps) ≡ None
  go true e rest = cc
  go false e rest = rest e

pub no_processor : (c : Plan) (journal : List Entry) (id : ℕ) → has id (map (λ p. p.id) c.cpus) ≡ false → processor_of id (final_state_of c journal).processors ≡ None
no_processor c journal id e = not-found id (final_state_of c journal).processors (subst (λ (is : List ℕ). has id is ≡ false) (sym (ids_stay c journal)) e)

pub absent_none : (c : Plan) (journal : List Entry) (g : Agent) → has_agent c g ≡ false → (f : Offer) → next_op (final_state_of c journal) g f ≡ None
absent_none c journal (Cpu id) e offer.Next = ap op_of_processor (no_processor c journal id e)
absent_none c journal (Cpu id) e (offer.Collect pins) = refl
absent_none c journal (Cpu id) e offer.Sweep = refl
absent_none c journal (Io a) e f =
    let s : BoardState = final_state_of c journal in
    let beyond : slice_get s.places a ≡ None = got_beyond a s.places (omega (arith, places_stay c journal, ltb-false a (length c.ios) e)) in
    ap (λ (r : Option Place). op_of_place (boot_is_through s) (all_ended s) f r) beyond
absent_none c journal (Dev d) e offer.Next =
    let s : BoardState = final_state_of c journal in
    let beyond : slice_get s.devices d ≡ None = got_beyond d s.devices (omega (arith, devices_stay c journal, ltb-false d (length c.devices) e)) in
    ap (λ (r : Option Device). op_of_device (boot_is_through s) r) beyond
absent_none c journal (Dev d) e (offer.Collect pins) = refl
absent_none c journal (Dev d) e offer.Sweep = refl

-- ---- an entry with a reason is no step, and one that is no step has a first reason

pub none-some : {X : Type 0} (x : X) (r : Option X) → r ≡ None → r ≡ Some x → ⊥
none-some x r e f = (let t : None ≡ Some x = sym e ∙ f in cc)

pub wrong_none : (c : Plan) (journal : List Entry) (x : Entry) (why : BadWhy) → IsWrong why c (final_state_of c journal) x → IsStep (final_state_of c journal) x → ⊥
wrong_none c journal x NoAgent w step = none-some x.op (next_op (final_state_of c journal) x.agent step.offer) (absent_none c journal x.agent w step.offer) step.may
wrong_none c journal x Waits w step =
    let s : BoardState = final_state_of c journal in
    none-some x.op (next_op s x.agent (offer_for x.agent x.op)) (waits_none s x.agent x.op w) (offered s x.agent step.offer x.op step.may)
wrong_none c journal x Program w step = w step.offer step.may
wrong_none c journal x Outcome w step = w step.outcomes

-- with the offer for its op the agent makes nothing or another op: no offer makes it
pub other_op : (s : BoardState) (g : Agent) (o : Op) → next_op s g (offer_for g o) ≢ Some o → (f : Offer) → next_op s g f ≢ Some o
other_op s g o ne f e = ne (offered s g f o e)
