-- What a legal journal has in its entries, a report can say.
use Rattle.std.proofs.Common.{◌≡◌, ◌==◌, ℕ, suc, ◌+◌, ◌-◌, ◌*◌, ◌/◌, ◌%◌, ◌^◌, ◌<◌, ◌≤◌, Bool, true, false, ◌&&◌, cond, not, List, [], ◌∷◌, length, map, filter, Option, None, Some, slice_get, nat_lt, nat_le, fold, refl, sym, ap, ◌∙◌, subst, pow-suc, arith}
use Rattle.std.specs.List.{AllByRecursion}
use Rattle.std.proofs.lemmas.List.{length-map}
use Rattle.std.proofs.lemmas.Bool.{eqb-true}
use Rattle.std.proofs.lemmas.Bool.Decides.{nat_tests}
use Rattle.std.proofs.lemmas.Nat.{or_of_32}
use Rattle.std.specs.Prelude.{bit_or}
use Rattle.mpb_spec.specs.declared.agent.Agent.{Agent}
use Rattle.mpb_spec.specs.declared.agent.Agent.TheVariants.{Cpu, Io, Dev}
use Rattle.mpb_spec.specs.declared.agent.Offer.{Offer}
use Rattle.mpb_spec.specs.declared.agent.Offer.TheVariants as offer
use Rattle.mpb_spec.specs.declared.agent.Op.{Op}
use Rattle.mpb_spec.specs.declared.agent.Op.TheVariants as op
use Rattle.mpb_spec.specs.declared.entry.Entry.{Entry}
use Rattle.mpb_spec.specs.declared.entry.Outcome.{Outcome}
use Rattle.mpb_spec.specs.declared.entry.What.{What}
use Rattle.mpb_spec.specs.declared.entry.What.TheVariants as what
use Rattle.mpb_spec.specs.declared.apic.Accept.{Accept}
use Rattle.mpb_spec.specs.declared.apic.Accept.TheVariants as accept
use Rattle.mpb_spec.specs.declared.apic.Effect.{Effect}
use Rattle.mpb_spec.specs.declared.apic.Effect.TheVariants as effect
use Rattle.mpb_spec.specs.declared.apic.Pin.{Pin}
use Rattle.mpb_spec.specs.declared.apic.Message.{Message}
use Rattle.mpb_spec.specs.declared.apic.Aim.{Aim}
use Rattle.mpb_spec.specs.declared.apic.Destination.TheVariants.{Physical, Logical}
use Rattle.mpb_spec.specs.declared.apic.Delivery.{Delivery}
use Rattle.mpb_spec.specs.declared.apic.Delivery.TheVariants as sends
use Rattle.mpb_spec.specs.declared.config.Life.{Life}
use Rattle.mpb_spec.specs.declared.config.Life.TheVariants as life
use Rattle.mpb_spec.specs.Numbers.{has, greatest}
use Rattle.mpb_spec.specs.LocalApic.{next_vector, ended_of, acceptance}
use Rattle.mpb_spec.specs.IoApic.{IoChip, next_due, register, half_as_read, low_as_read, write_effect, effect_at, with_line, pulsed_due, pulsed_joined, mask_by, takes_pulse}
use Rattle.mpb_spec.specs.State.{Processor, Place, Device, BoardState, runs, processor_of, op_at, boot_is_through, all_ended}
use Rattle.mpb_spec.specs.Delivery.{is_target, answer, outcome_at, unless_absent, outcome_of_accept, start_outcome, init_outcome, startup_outcome, delivery_outcomes, byte_of, to_id, to_logical}
use Rattle.mpb_spec.specs.Steps.{next_op, op_of_device, op_of_place, unless_early, send_of, all_left, due_at, due_of, kind_of, aim_of, kind_outcomes, send_outcomes}
use Rattle.mpb_spec.specs.Outcomes.{only, found, found_alive, what_taken, taken_by, what_ended, ended_by, what_effect, of_write, of_read, of_line, of_collect, outcomes_of, outcomes_of_cpu, outcomes_of_dev}
use Rattle.mpb_spec.specs.Journal.{IsStep, AreSteps, after_entry}
use Rattle.mpb_spec.proofs.May.{may_cpu}
use Rattle.mpb_report_spec.specs.EntryLines.{has_target}
use Rattle.mpb_report_line.specs.Values.{IsRightAgent, IsRightOp, IsRightWhat, IsRightTarget, IsRightOutcome, IsRightEntry, IsRightLife}
use Rattle.mpb_report_laws.proofs.RightOps.{all-filter, all-map, one-at, place-below}
use Rattle.mpb_report_laws.proofs.Fitting.{IsFitApic, IsFitProcessor, IsFitPin, IsFitPlace, IsFitDevice, IsFitPage, IsFit, IsFitDelivery, IsFitMessage, greatest-fit, next-fit, due-fit, kind-fits, step_fits}

-- one outcome to eight, each right
pub record AreRightOutcomes (os : List Outcome) : Type 0 where
  pub some : 1 ≤ length os
  pub few : length os ≤ 8
  pub right : AllByRecursion IsRightOutcome os

only-right : (w : What) → has_target w ≡ false → IsRightWhat w → AreRightOutcomes (only w)
only-right w e v = record { some = omega arith; few = omega arith; right = ((let target : IsRightTarget (has_target w) 0 = subst (λ (b : Bool). IsRightTarget b 0) (sym e) refl in (target, v)), tt) }

at-right : (id : ℕ) (w : What) → id < 256 → has_target w ≡ true → IsRightWhat w → IsRightOutcome (record { at = id; what = w })
at-right id w lt e v = let target : IsRightTarget (has_target w) id = subst (λ (b : Bool). IsRightTarget b id) (sym e) lt in (target, v)

-- what comes of a message at a target
abbrev IsAtTarget : What → Type 0
IsAtTarget w = (has_target w ≡ true) × IsRightWhat w

accept-at : (x : Accept) → IsAtTarget (outcome_of_accept x)
accept-at accept.Set = (refl, tt)
accept-at accept.Merged = (refl, tt)
accept-at accept.Illegal = (refl, tt)

start-at : (warm : Option ℕ) → IsFitPage warm → IsAtTarget (start_outcome warm)
start-at None h = (refl, tt)
start-at (Some page) h = (refl, h)

init-at : (warm : Option ℕ) (version : ℕ) (l : Life) → IsFitPage warm → IsAtTarget (init_outcome warm version l)
init-at warm version life.Asleep w = elim (nat_le 16 version) as (λ b. IsAtTarget (cond b what.Waiting (start_outcome warm))) [ true ↦ (refl, tt) | false ↦ start-at warm w ]
init-at warm version life.Waiting w = elim (nat_le 16 version) as (λ b. IsAtTarget (cond b what.Waiting what.Ignored)) [ true ↦ (refl, tt) | false ↦ (refl, tt) ]
init-at warm version (life.Started page) w = (refl, tt)
init-at warm version life.First w = (refl, tt)

startup-at : (page : ℕ) (l : Life) → page < 256 → IsAtTarget (startup_outcome page l)
startup-at page life.Asleep lt = (refl, tt)
startup-at page life.Waiting lt = (refl, lt)
startup-at page (life.Started q) lt = (refl, tt)
startup-at page life.First lt = (refl, tt)

answer-at : (warm : Option ℕ) (d : Delivery) (p : Processor) → IsFitPage warm → IsFitDelivery d → IsAtTarget (answer warm d p)
answer-at warm (sends.Fixed v level) p w k = elim (runs p.life) as (λ b. IsAtTarget (cond b (outcome_of_accept (acceptance v p.apic)) what.Asleep)) [ true ↦ accept-at (acceptance v p.apic) | false ↦ (refl, tt) ]
answer-at warm sends.Nmi p w k = elim (runs p.life) as (λ b. IsAtTarget (cond b what.Nmi what.Asleep)) [ true ↦ (refl, tt) | false ↦ (refl, tt) ]
answer-at warm sends.Pass p w k = elim (runs p.life) as (λ b. IsAtTarget (cond b what.Passed what.Asleep)) [ true ↦ (refl, tt) | false ↦ (refl, tt) ]
answer-at warm sends.Init p w k = init-at warm p.version p.life w
answer-at warm (sends.Startup page) p w k = startup-at page p.life k

filter-length : {X : Type 0} (p : X → Bool) (xs : List X) → length (filter p xs) ≤ length xs
filter-length p [] = omega arith
filter-length {X} p (x ∷ xs) = go (p x) (filter-length p xs)
  where
    go : (b : Bool) → length (filter p xs) ≤ length xs → length (cond {A = List X} b (x ∷ filter p xs) (filter p xs)) ≤ suc (length xs)
    go true e = omega arith
    go false e = omega arith

absent-right : (dest : ℕ) (os : List Outcome) → dest < 256 → length os ≤ 8 → AllByRecursion IsRightOutcome os → AreRightOutcomes (unless_absent dest os)
absent-right dest [] lt few v = record { some = omega arith; few = omega arith; right = (at-right dest what.Absent lt refl tt, tt) }
absent-right dest (o ∷ os) lt few v = record { some = omega arith; few = few; right = v }

delivery-right : (s : BoardState) (aim : Aim) (d : Delivery) → byte_of aim.at < 256 → IsFitDelivery d → IsFit s → AreRightOutcomes (delivery_outcomes aim d s)
delivery-right s aim d lt k h =
    let test : Processor → Bool = is_target aim s.processors in
    let told : List Processor = filter test s.processors in
    let n : length (map (outcome_at s.warm d) told) ≡ length told = length-map told (outcome_at s.warm d) in
    let m : length told ≤ length s.processors = filter-length test s.processors in
    let few : length s.processors ≤ 8 = h.few in
    absent-right (byte_of aim.at) (map (outcome_at s.warm d) told) lt (omega arith)
    (all-map IsFitProcessor IsRightOutcome (outcome_at s.warm d) told (λ p v. let w = answer-at s.warm d p h.page k in at-right p.id (answer s.warm d p) v.id_fits w.0 w.1) (all-filter IsFitProcessor test s.processors h.processors))

-- the processor with an id
processor-fits : (id : ℕ) (ps : List Processor) (p : Processor) → AllByRecursion IsFitProcessor ps → processor_of id ps ≡ Some p → (p.id ≡ id) × IsFitProcessor p
processor-fits id [] p h e = absurd (cc (e))
processor-fits id (q ∷ ps) p h e = go (q.id == id) refl e (λ k. processor-fits id ps p h.1 k)
  where
    go : (b : Bool) → (q.id == id) ≡ b → cond b (Some q) (processor_of id ps) ≡ Some p → (processor_of id ps ≡ Some p → (p.id ≡ id) × IsFitProcessor p) → (p.id ≡ id) × IsFitProcessor p
    go true w k rest = let same : q ≡ p = cc in subst (λ (x : Processor). (x.id ≡ id) × IsFitProcessor x) same (eqb-true q.id id w, h.0)
    go false w k rest = rest k

-- the op at a position
op-at : (id : ℕ) (ps : List Processor) (o : Op) → AllByRecursion IsFitProcessor ps → op_at (processor_of id ps) ≡ Some o → (id < 256) × IsRightOp o
op-at id ps o h e = go (processor_of id ps) refl e
  where
    go : (r : Option Processor) → processor_of id ps ≡ r → op_at r ≡ Some o → (id < 256) × IsRightOp o
    go None w k = absurd (cc (k))
    go (Some p) w k = let f = processor-fits id ps p h w in (subst (λ (n : ℕ). n < 256) f.0 (f.1).id_fits, one-at IsRightOp p.program p.position o (f.1).ops k)

found-right : (d : ℕ) (s : BoardState) → d < 256 → IsFit s → AreRightOutcomes (record { at = d; what = found (processor_of d s.processors) } ∷ [])
found-right d s lt h = record { some = omega arith; few = omega arith; right = (go (processor_of d s.processors) refl, tt) }
  where
    alive : (l : Life) → IsRightLife l → IsAtTarget (found_alive l)
    alive life.Asleep v = (refl, tt)
    alive life.Waiting v = (refl, tt)
    alive (life.Started page) v = (refl, v)
    alive life.First v = (refl, tt)

    go : (r : Option Processor) → processor_of d s.processors ≡ r → IsRightOutcome (record { at = d; what = found r })
    go None e = at-right d what.Absent lt refl tt
    go (Some p) e = let k = processor-fits d s.processors p h.processors e in let w = alive p.life (k.1).life in at-right d (found_alive p.life) lt w.0 w.1

abbrev IsBare : What → Type 0
IsBare w = (has_target w ≡ false) × IsRightWhat w

taken-bare : (id : ℕ) (s : BoardState) → IsFit s → IsBare (taken_by (processor_of id s.processors))
taken-bare id s h = go (processor_of id s.processors) refl
  where
    vector : (p : Processor) → IsFitProcessor p → (r : Option ℕ) → next_vector p.apic ≡ r → IsBare (what_taken r)
    vector p k None e = (refl, tt)
    vector p k (Some v) e = (refl, next-fit p.apic v k.apic e)

    go : (r : Option Processor) → processor_of id s.processors ≡ r → IsBare (taken_by r)
    go None e = (refl, tt)
    go (Some p) e = vector p (processor-fits id s.processors p h.processors e).1 (next_vector p.apic) refl

ended-bare : (id : ℕ) (s : BoardState) → IsFit s → IsBare (ended_by (processor_of id s.processors))
ended-bare id s h = go (processor_of id s.processors) refl
  where
    vector : (p : Processor) → IsFitProcessor p → (r : Option ℕ) → greatest p.apic.isr ≡ r → IsBare (what_ended (ended_of p.apic r))
    vector p k None e = (refl, tt)
    vector p k (Some v) e = let a : IsFitApic p.apic = k.apic in (refl, greatest-fit p.apic.isr v a.isr e)

    go : (r : Option Processor) → processor_of id s.processors ≡ r → IsBare (ended_by r)
    go None e = (refl, tt)
    go (Some p) e = vector p (processor-fits id s.processors p h.processors e).1 (greatest p.apic.isr) refl

effect-bare : (e : Effect) → IsBare (what_effect e)
effect-bare effect.Plain = (refl, tt)
effect-bare effect.Due = (refl, tt)
effect-bare effect.Withdrawn = (refl, tt)

write-bare : (v : ℕ) (r : Option Place) → IsBare (of_write v r)
write-bare v None = (refl, tt)
write-bare v (Some p) = effect-bare (write_effect v p.chip)

line-bare : (pin : ℕ) (high : Bool) (r : Option Place) → IsBare (of_line pin high r)
line-bare pin high None = (refl, tt)
line-bare pin high (Some p) = effect-bare (effect_at pin (with_line high) p.chip.pins)

-- a register as it is read
low-read : (p : Pin) → IsFitPin p → low_as_read p < 2 ^ 32
low-read p h = or_of_32 (bit_or p.low (cond p.due 0x1000 0)) (cond p.remote 0x4000 0) (or_of_32 p.low (cond p.due 0x1000 0) h.0 (elim p.due as (λ b. cond b 0x1000 0 < 2 ^ 32) [ true ↦ omega arith | false ↦ omega arith ])) (elim p.remote as (λ b. cond b 0x4000 0 < 2 ^ 32) [ true ↦ omega arith | false ↦ omega arith ])

half-read : (half : ℕ) (ps : List Pin) (n : ℕ) → AllByRecursion IsFitPin ps → half_as_read half (slice_get ps n) < 2 ^ 32
half-read half ps n h = go (slice_get ps n) refl
  where
    go : (r : Option Pin) → slice_get ps n ≡ r → half_as_read half r < 2 ^ 32
    go None e = omega arith
    go (Some p) e = let k : IsFitPin p = one-at IsFitPin ps n p h e in elim (half == 0) as (λ b. cond b (low_as_read p) p.high < 2 ^ 32) [ true ↦ low-read p k | false ↦ k.1 ]

register-read : (p : Place) → IsFitPlace p → register p.chip < 2 ^ 32
register-read p h =
    let c : IoChip = p.chip in
    let id : c.id < 16 = h.id_fits in
    let arbitration : c.arbitration < 16 = h.arbitration_fits in
    let half : half_as_read (c.index % 2) (slice_get c.pins ((c.index - 16) / 2)) < 2 ^ 32 = half-read (c.index % 2) c.pins ((c.index - 16) / 2) h.pins_fit in
    go (c.index == 0) (c.index == 1) (c.index == 2) (nat_lt c.index 16) id arbitration half
  where
    go : (a b d e : Bool) → p.chip.id < 16 → p.chip.arbitration < 16 → half_as_read (p.chip.index % 2) (slice_get p.chip.pins ((p.chip.index - 16) / 2)) < 2 ^ 32
        → cond a (p.chip.id * 16777216) (cond b 0x170011 (cond d (p.chip.arbitration * 16777216) (cond e 0 (half_as_read (p.chip.index % 2) (slice_get p.chip.pins ((p.chip.index - 16) / 2)))))) < 2 ^ 32
    go true b d e i r u = omega arith
    go false true d e i r u = omega arith
    go false false true e i r u = omega arith
    go false false false true i r u = omega arith
    go false false false false i r u = u

read-bare : (r : Option Place) → ((p : Place) → r ≡ Some p → IsFitPlace p) → IsBare (of_read r)
read-bare None fits = (refl, omega arith)
read-bare (Some p) fits = (refl, register-read p (fits p refl))

-- a mask of so many pins
bit-more : (b : Bool) (n m : ℕ) → n < 2 ^ m → cond b 1 0 + 2 * n < 2 ^ suc m
bit-more b n m lt = let double : 2 ^ suc m ≡ 2 ^ m * 2 = pow-suc 2 m in elim b as (λ c. cond c 1 0 + 2 * n < 2 ^ suc m) [ true ↦ omega (arith, double) | false ↦ omega (arith, double) ]

pub mask-below : (f : Pin → Bool) (ps : List Pin) → mask_by f ps < 2 ^ length ps
mask-below f [] = omega arith
mask-below f (p ∷ ps) = bit-more (f p) (mask_by f ps) (length ps) (mask-below f ps)

due-below : (m : ℕ) (ps : List Pin) → pulsed_due m ps < 2 ^ length ps
due-below m [] = omega arith
due-below m (p ∷ ps) = bit-more ((m % 2 == 1) && (takes_pulse p && not p.due)) (pulsed_due (m / 2) ps) (length ps) (due-below (m / 2) ps)

joined-below : (m : ℕ) (ps : List Pin) → pulsed_joined m ps < 2 ^ length ps
joined-below m [] = omega arith
joined-below m (p ∷ ps) = bit-more ((m % 2 == 1) && (takes_pulse p && p.due)) (pulsed_joined (m / 2) ps) (length ps) (joined-below (m / 2) ps)

pub of-24 : (n : ℕ) (ps : List Pin) → n < 2 ^ length ps → length ps ≡ 24 → n < 2 ^ 24
of-24 n ps lt e = subst (λ (k : ℕ). n < 2 ^ k) e lt

collect-bare : (pins : ℕ) (r : Option Place) → ((p : Place) → r ≡ Some p → IsFitPlace p) → IsBare (of_collect pins r)
collect-bare pins None fits = (refl, (omega arith, omega arith))
collect-bare pins (Some p) fits = let k : IsFitPlace p = fits p refl in (refl, (of-24 (pulsed_due pins p.chip.pins) p.chip.pins (due-below pins p.chip.pins) k.many, of-24 (pulsed_joined pins p.chip.pins) p.chip.pins (joined-below pins p.chip.pins) k.many))

bare-right : (w : What) → IsBare w → AreRightOutcomes (only w)
bare-right w h = only-right w h.0 h.1

-- what comes of an op of a processor
cpu-right : (id : ℕ) (o : Op) (s : BoardState) → IsRightOp o → IsFit s → AreRightOutcomes (outcomes_of_cpu id o s)
cpu-right id (op.Init d) s v h = delivery-right s (to_id d) sends.Init v tt h
cpu-right id (op.Startup d page) s v h = delivery-right s (to_id d) (sends.Startup page) v.0 v.1 h
cpu-right id (op.Check d) s v h = found-right d s v h
cpu-right id (op.Ipi d u) s v h = delivery-right s (to_id d) (sends.Fixed u false) v.0 v.1 h
cpu-right id (op.Ipl d u) s v h = delivery-right s (to_logical d) (sends.Fixed u false) v.0 v.1 h
cpu-right id (op.Nmi d) s v h = delivery-right s (to_id d) sends.Nmi v tt h
cpu-right id op.Take s v h = bare-right (taken_by (processor_of id s.processors)) (taken-bare id s h)
cpu-right id op.Poll s v h = bare-right (taken_by (processor_of id s.processors)) (taken-bare id s h)
cpu-right id op.Eoi s v h = bare-right (ended_by (processor_of id s.processors)) (ended-bare id s h)
cpu-right id (op.IoWin a u) s v h = bare-right (of_write u (slice_get s.places a)) (write-bare u (slice_get s.places a))
cpu-right id (op.IoRead a) s v h = bare-right (of_read (slice_get s.places a)) (read-bare (slice_get s.places a) (λ p e. one-at IsFitPlace s.places a p h.places e))
cpu-right id o s v h = bare-right what.Done (refl, tt)

-- of a device
dev-right : (o : Op) (s : BoardState) → AreRightOutcomes (outcomes_of_dev o s)
dev-right (op.High a pin) s = bare-right (of_line pin true (slice_get s.places a)) (line-bare pin true (slice_get s.places a))
dev-right (op.Low a pin) s = bare-right (of_line pin false (slice_get s.places a)) (line-bare pin false (slice_get s.places a))
dev-right o s = bare-right what.Done (refl, tt)

-- of a send
send-right : (s : BoardState) (m : Message) → IsFitMessage 24 m → IsFit s → AreRightOutcomes (send_outcomes (Some m) s)
send-right s m k h = go (kind_of m) refl
  where
    byte : byte_of (aim_of m).at < 256
    byte = elim m.logical as (λ b. byte_of (cond b (Logical m.dest) (Physical m.dest 15)) < 256) [ true ↦ k.dest | false ↦ k.dest ]

    go : (r : Option Delivery) → kind_of m ≡ r → AreRightOutcomes (kind_outcomes (aim_of m) r s)
    go None e = bare-right what.Unheard (refl, tt)
    go (Some d) e = delivery-right s (aim_of m) d byte (kind-fits m d k.vector e) h

-- who may step, what it makes, and what comes of it
pub record IsRightStep (g : Agent) (o : Op) (s : BoardState) : Type 0 where
  pub agent : IsRightAgent g
  pub op_right : IsRightOp o
  pub outcomes : AreRightOutcomes (outcomes_of g o s)

cpu-step : (id : ℕ) (f : Offer) (o : Op) (s : BoardState) → IsFit s → next_op s (Cpu id) f ≡ Some o → IsRightStep (Cpu id) o s
cpu-step id f o s h e = let k = op-at id s.processors o h.processors (may_cpu s id f o e) in record { agent = k.0; op_right = k.1; outcomes = cpu-right id o s k.1 h }

begins : (b : Bool) (x : Option Op) (o : Op) → unless_early b x ≡ Some o → x ≡ Some o
begins b None o e = e
begins true (Some op.Begin) o e = e
begins false (Some op.Begin) o e = absurd (cc (e))
begins b (Some x) o e = e

dev-step : (d : ℕ) (f : Offer) (o : Op) (s : BoardState) → IsFit s → next_op s (Dev d) f ≡ Some o → IsRightStep (Dev d) o s
dev-step d (offer.Collect m) o s h e = absurd (cc (e))
dev-step d offer.Sweep o s h e = absurd (cc (e))
dev-step d offer.Next o s h e = go (slice_get s.devices d) refl e
  where
    go : (r : Option Device) → slice_get s.devices d ≡ r → op_of_device (boot_is_through s) r ≡ Some o → IsRightStep (Dev d) o s
    go None w k = absurd (cc (k))
    go (Some x) w k =
        let there : slice_get x.program x.position ≡ Some o = begins (boot_is_through s) (slice_get x.program x.position) o k in
        let lt : d < length s.devices = place-below s.devices d x w in
        let few : length s.devices ≤ 4 = h.few_devices in
        record { agent = omega arith; op_right = one-at IsRightOp x.program x.position o (one-at IsFitDevice s.devices d x h.devices w) there; outcomes = dev-right o s }

io-step : (a : ℕ) (f : Offer) (o : Op) (s : BoardState) → IsFit s → next_op s (Io a) f ≡ Some o → IsRightStep (Io a) o s
io-step a f o s h e = at f (slice_get s.places a) refl e
  where
    low : (p : Place) → slice_get s.places a ≡ Some p → a < 4
    low p w = let lt : a < length s.places = place-below s.places a p w in let few : length s.places ≤ 4 = h.few_places in omega arith

    sent : (p : Place) → slice_get s.places a ≡ Some p → (r : Option Message) → next_due p.chip ≡ r → send_of r ≡ Some o → IsRightStep (Io a) o s
    sent p w None u k = absurd (cc (k))
    sent p w (Some m) u k =
        let due : due_at a s ≡ Some m = ap due_of w ∙ u in
        let fits : IsFitMessage 24 m = due-fit s.places a m h.places due in
        let same : op.Send m.pin ≡ o = cc in
        subst (λ (x : Op). IsRightStep (Io a) x s) same
        (record { agent = low p w; op_right = fits.pin; outcomes = subst (λ (r : Option Message). AreRightOutcomes (send_outcomes r s)) (sym due) (send-right s m fits h) })

    collects : (b : Bool) (p : Place) (pins : ℕ) → slice_get s.places a ≡ Some p → (b ≡ true → pins < 2 ^ 24) → cond b (Some (op.Collect pins)) None ≡ Some o → IsRightStep (Io a) o s
    collects false p pins w lt k = absurd (cc (k))
    collects true p pins w lt k =
        let same : op.Collect pins ≡ o = cc in
        subst (λ (x : Op). IsRightStep (Io a) x s) same
        (record { agent = low p w; op_right = lt refl; outcomes = bare-right (of_collect pins (slice_get s.places a)) (collect-bare pins (slice_get s.places a) (λ q u. one-at IsFitPlace s.places a q h.places u)) })

    sweeps : (b : Bool) (p : Place) → slice_get s.places a ≡ Some p → cond b (Some op.Sweep) None ≡ Some o → IsRightStep (Io a) o s
    sweeps false p w k = absurd (cc (k))
    sweeps true p w k =
        let same : op.Sweep ≡ o = cc in
        subst (λ (x : Op). IsRightStep (Io a) x s) same (record { agent = low p w; op_right = tt; outcomes = bare-right what.Done (refl, tt) })

    named : (x y z u : Bool) (pins : ℕ) → (x && (y && (z && (nat_lt pins (2 ^ 24) && u)))) ≡ true → pins < 2 ^ 24
    named true true true u pins k = grind (arith, nat_tests, k)
    named false y z u pins k = absurd (cc (k))
    named true false z u pins k = absurd (cc (k))
    named true true false u pins k = absurd (cc (k))

    at : (f : Offer) (r : Option Place) → slice_get s.places a ≡ r → op_of_place (boot_is_through s) (all_ended s) f r ≡ Some o → IsRightStep (Io a) o s
    at f None w k = absurd (cc (k))
    at offer.Next (Some p) w k = sent p w (next_due p.chip) refl k
    at (offer.Collect pins) (Some p) w k = collects (boot_is_through s && (not p.swept && (nat_lt 0 pins && (nat_lt pins (2 ^ 24) && all_left pins p.left)))) p pins w (λ t. named (boot_is_through s) (not p.swept) (nat_lt 0 pins) (all_left pins p.left) pins t) k
    at offer.Sweep (Some p) w k = sweeps (not p.swept && all_ended s) p w k

step-right : (g : Agent) (f : Offer) (o : Op) (s : BoardState) → IsFit s → next_op s g f ≡ Some o → IsRightStep g o s
step-right (Cpu id) f o s h e = cpu-step id f o s h e
step-right (Dev d) f o s h e = dev-step d f o s h e
step-right (Io a) f o s h e = io-step a f o s h e

entry-right : (s : BoardState) (x : Entry) → IsFit s → IsStep s x → IsRightEntry x
entry-right s x h step =
    let k : IsRightStep x.agent x.op s = step-right x.agent step.offer x.op s h step.may in
    let os : AreRightOutcomes x.outcomes.items = subst AreRightOutcomes (sym step.outcomes) k.outcomes in
    record { agent = k.agent; op = k.op_right; some = os.some; few = os.few; outcomes = os.right }

-- the entries of a run, and the state at its end
pub entries_right : (s : BoardState) (xs : List Entry) → IsFit s → AreSteps s xs → AllByRecursion IsRightEntry xs
entries_right s [] h steps = tt
entries_right s (x ∷ xs) h steps =
    let k : IsRightStep x.agent x.op s = step-right x.agent (steps.0).offer x.op s h (steps.0).may in
    (entry-right s x h steps.0, entries_right (after_entry s x) xs (step_fits x.agent x.op s k.op_right h) steps.1)

pub end_fits : (s : BoardState) (xs : List Entry) → IsFit s → AreSteps s xs → IsFit (fold after_entry s xs)
end_fits s [] h steps = h
end_fits s (x ∷ xs) h steps =
    let k : IsRightStep x.agent x.op s = step-right x.agent (steps.0).offer x.op s h (steps.0).may in
    end_fits (after_entry s x) xs (step_fits x.agent x.op s k.op_right h) steps.1
