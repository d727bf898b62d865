-- The position in an agent's program is the number of its entries.
use Rattle.std.proofs.Common.{◌≡◌, ◌==◌, ℕ, zero, suc, ◌+◌, ◌<◌, Bool, true, false, cond, ◌&&◌, ◌||◌, List, [], ◌∷◌, map, refl, sym, ap, ap₂, ◌∙◌, arith, Option, Some, None, fold, slice_get, length, nat_le}
use Rattle.std.specs.List.{list_all}
use Rattle.std.specs.Option.{option_map}
use Rattle.std.proofs.lemmas.Bool.{eq-eqb, ne_eqb}
use Rattle.std.proofs.lemmas.List.Sums.{sum_by-cons}
use Rattle.mpb_spec.specs.declared.agent.Agent.{Agent}
use Rattle.mpb_spec.specs.declared.agent.Agent.TheVariants.{Cpu, Io, Dev}
use Rattle.mpb_spec.specs.declared.agent.Op.{Op}
use Rattle.mpb_spec.specs.declared.agent.Op.TheVariants as op
use Rattle.mpb_spec.specs.declared.apic.Aim.{Aim}
use Rattle.mpb_spec.specs.declared.apic.Delivery.{Delivery}
use Rattle.mpb_spec.specs.declared.apic.Message.{Message}
use Rattle.mpb_spec.specs.declared.config.DevWord.{DevWord}
use Rattle.mpb_spec.specs.declared.entry.Entry.{Entry}
use Rattle.mpb_spec.specs.Numbers.{has}
use Rattle.mpb_spec.specs.State.{Processor, Device, BoardState, processor_of, op_at, device_op_at, change_at, boot_is_through, is_through, all_ended}
use Rattle.mpb_spec.specs.Steps.{after, sent_message, deliver_kind, kind_of, aim_of, due_at}
use Rattle.mpb_spec.specs.Plan.{Plan, CpuPlan, initial_state_of, first_processor, first_device, device_program}
use Rattle.mpb_spec.specs.Configs.{IsConfig}
use Rattle.mpb_spec.specs.Journal.{after_entry, final_state_of}
use Rattle.mpb_spec.proofs.PlansStay.{plan_of}
use Rattle.mpb_start_laws.proofs.LifeSteps.{step_goes, own}
use Rattle.mpb_start_laws.proofs.Opening.{IsBootAt, boot_at}
use Rattle.mpb_robin.proofs.Frames.{one_on, cpu-devices, io-devices, dev-devices}
use Rattle.mpb_replay_laws.proofs.Offers.{no_processor, none-some}
use Rattle.mpb_replay_laws.specs.Made.{same_agent, made_by, op_of_plan, op_of_words, plan_with, all_made}

-- one entry more
made-more : (g : Agent) (x : Entry) (xs : List Entry) → made_by g (x ∷ xs) ≡ cond (same_agent x.agent g) 1 0 + made_by g xs
made-more g x xs = sum_by-cons (λ (y : Entry). cond (same_agent y.agent g) 1 0) x xs

-- ---- processors

own-is : (d : ℕ) (g : Agent) → own d g ≡ cond (same_agent g (Cpu d)) 1 0
own-is d (Cpu i) = refl
own-is d (Io a) = refl
own-is d (Dev e) = refl

record Went (d : ℕ) (s : BoardState) (xs : List Entry) (p : Processor) : Type 0 where
  now : Processor
  found : processor_of d (fold after_entry s xs).processors ≡ Some now
  plan : plan_of now ≡ plan_of p
  position : now.position ≡ p.position + made_by (Cpu d) xs

went : (d : ℕ) (s : BoardState) (xs : List Entry) (p : Processor) → processor_of d s.processors ≡ Some p → Went d s xs p
went d s [] p e = record { now = p; found = e; plan = refl; position = omega arith }
went d s (x ∷ xs) p e =
    let one = step_goes s d x.agent x.op p e in
    let rest = went d (after_entry s x) xs one.now one.found in
    record {
      now = rest.now;
      found = rest.found;
      plan = rest.plan ∙ one.plan;
      position = omega (arith, rest.position, one.position, own-is d x.agent, made-more (Cpu d) x xs);
    }

-- the processor at first
first-is : (boot id : ℕ) (cs : List CpuPlan) → processor_of id (map (first_processor boot) cs) ≡ option_map (first_processor boot) (plan_with id cs)
first-is boot id [] = refl
first-is boot id (c ∷ cs) = go (c.id == id) (first-is boot id cs) where
  go : (b : Bool) → processor_of id (map (first_processor boot) cs) ≡ option_map (first_processor boot) (plan_with id cs) → cond b (Some (first_processor boot c)) (processor_of id (map (first_processor boot) cs)) ≡ option_map (first_processor boot) (cond b (Some c) (plan_with id cs))
  go true h = refl
  go false h = h

not-planned : (id : ℕ) (cs : List CpuPlan) → plan_with id cs ≡ None → has id (map (λ p. p.id) cs) ≡ false
not-planned id [] e = refl
not-planned id (c ∷ cs) e = go (c.id == id) e (not-planned id cs) where
  go : (b : Bool) → cond b (Some c) (plan_with id cs) ≡ None → (plan_with id cs ≡ None → has id (map (λ p. p.id) cs) ≡ false) → (b || has id (map (λ p. p.id) cs)) ≡ false
  go true e rest = cc
  go false e rest = rest e

same-some : {X : Type 0} (x y : X) (r : Option X) → r ≡ Some x → r ≡ Some y → x ≡ y
same-some x y r e f = cc

-- the processor with this id at the end of a journal: its program is that of the plan, and its position the number of its entries
pub record IsAt (c : Plan) (journal : List Entry) (id : ℕ) (p : Processor) : Type 0 where
  pub planned : CpuPlan
  pub found : plan_with id c.cpus ≡ Some planned
  pub program : p.program ≡ planned.program
  pub position : p.position ≡ made_by (Cpu id) journal

pub is_at : (c : Plan) (journal : List Entry) (id : ℕ) (p : Processor) → processor_of id (final_state_of c journal).processors ≡ Some p → IsAt c journal id p
is_at c journal id p e = go (plan_with id c.cpus) refl where
  go : (r : Option CpuPlan) → plan_with id c.cpus ≡ r → IsAt c journal id p
  go None w = (let none = no_processor c journal id (not-planned id c.cpus w) in absurd (none-some p (processor_of id (final_state_of c journal).processors) none e))
  go (Some q) w =
      let first : processor_of id (initial_state_of c).processors ≡ Some (first_processor c.boot q) = first-is c.boot id c.cpus ∙ ap (option_map (first_processor c.boot)) w in
      let h = went id (initial_state_of c) journal (first_processor c.boot q) first in
      let same : h.now ≡ p = same-some h.now p (processor_of id (final_state_of c journal).processors) h.found e in
      record {
        planned = q;
        found = w;
        program = sym (ap (λ (x : Processor). x.program) same) ∙ ap (λ (x : CpuPlan). x.program) h.plan;
        position = sym (ap (λ (x : Processor). x.position) same) ∙ (let t = h.position in omega arith);
      }

-- what it makes next by its program
pub next_is : (c : Plan) (journal : List Entry) (id : ℕ) (p : Processor) → processor_of id (final_state_of c journal).processors ≡ Some p → op_at (Some p) ≡ op_of_plan (made_by (Cpu id) journal) (plan_with id c.cpus)
next_is c journal id p e =
    let h = is_at c journal id p e in
    ap (λ (l : List Op). slice_get l p.position) h.program ∙ ap (slice_get h.planned.program) h.position ∙ ap (op_of_plan (made_by (Cpu id) journal)) (sym h.found)

-- ---- the boot program

kind-boot : (aim : Aim) (k : Option Delivery) (s : BoardState) → ((deliver_kind aim k s).boot ≡ s.boot) × ((deliver_kind aim k s).boot_len ≡ s.boot_len)
kind-boot aim None s = (refl, refl)
kind-boot aim (Some m) s = (refl, refl)

send-boot : (a : ℕ) (m : Option Message) (s : BoardState) → ((sent_message a m s).boot ≡ s.boot) × ((sent_message a m s).boot_len ≡ s.boot_len)
send-boot a None s = (refl, refl)
send-boot a (Some m) s = kind-boot (aim_of m) (kind_of m) s

step-boot : (g : Agent) (o : Op) (s : BoardState) → ((after g o s).boot ≡ s.boot) × ((after g o s).boot_len ≡ s.boot_len)
step-boot (Cpu id) op.Imcr s = (refl, refl)
step-boot (Cpu id) o s = (refl, refl)
step-boot (Dev n) (op.High a pin) s = (refl, refl)
step-boot (Dev n) (op.Low a pin) s = (refl, refl)
step-boot (Dev n) o s = (refl, refl)
step-boot (Io a) (op.Collect pins) s = (refl, refl)
step-boot (Io a) (op.Send pin) s = send-boot a (due_at a s) s
step-boot (Io a) op.Sweep s = (refl, refl)
step-boot (Io a) o s = (refl, refl)

run-boot : (s : BoardState) (xs : List Entry) → ((fold after_entry s xs).boot ≡ s.boot) × ((fold after_entry s xs).boot_len ≡ s.boot_len)
run-boot s [] = (refl, refl)
run-boot s (x ∷ xs) =
    let rest = run-boot (after_entry s x) xs in
    let one = step-boot x.agent x.op s in
    (rest.0 ∙ one.0, rest.1 ∙ one.1)

-- it is through where the boot processor has as many entries
pub through_is : (c : Plan) (journal : List Entry) → IsConfig c → boot_is_through (final_state_of c journal) ≡ nat_le c.boot_len (made_by (Cpu c.boot) journal)
through_is c journal is =
    let t : BoardState = final_state_of c journal in
    let boot = boot_at c journal is in
    let at : IsBootAt c t boot.0 = boot.1 in
    let kept = run-boot (initial_state_of c) journal in
    let h = is_at c journal c.boot at.now at.found in
    ap (λ (i : ℕ). is_through (processor_of i t.processors) t.boot_len) kept.0
    ∙ ap (λ (n : ℕ). is_through (processor_of c.boot t.processors) n) kept.1
    ∙ ap (λ (r : Option Processor). is_through r c.boot_len) at.found
    ∙ ap (nat_le c.boot_len) h.position

-- ---- devices

-- a device further on
abbrev forward : ℕ → Device → Device
forward n v = record v { position = v.position + n }

-- these devices, the first being device n, after the entries
abbrev devices_after : ℕ → List Entry → List Device → List Device
devices_after n xs [] = []
devices_after n xs (v ∷ vs) = forward (made_by (Dev n) xs) v ∷ devices_after (n + 1) xs vs

stay-put : (n : ℕ) (vs : List Device) → devices_after n [] vs ≡ vs
stay-put n [] = refl
stay-put n (v ∷ vs) = ap₂ (λ (w : Device) (ws : List Device). w ∷ ws) (ap (λ (k : ℕ). record v { position = k }) (omega arith)) (stay-put (n + 1) vs)

-- after an entry of no device
others-entry : (n : ℕ) (x : Entry) (xs : List Entry) (vs : List Device) → ((d : ℕ) → same_agent x.agent (Dev d) ≡ false) → devices_after n (x ∷ xs) vs ≡ devices_after n xs vs
others-entry n x xs [] none = refl
others-entry n x xs (v ∷ vs) none =
    let same : made_by (Dev n) (x ∷ xs) ≡ made_by (Dev n) xs = omega (arith, made-more (Dev n) x xs, ap (λ (b : Bool). cond {A = ℕ} b 1 0) (none n)) in
    ap₂ (λ (k : ℕ) (ws : List Device). forward k v ∷ ws) same (others-entry (n + 1) x xs vs none)

-- after one of an earlier device
earlier-entry : (n m : ℕ) (x : Entry) (xs : List Entry) (vs : List Device) → m < n → x.agent ≡ Dev m → devices_after n (x ∷ xs) vs ≡ devices_after n xs vs
earlier-entry n m x xs [] lt e = refl
earlier-entry n m x xs (v ∷ vs) lt e =
    let other : same_agent x.agent (Dev n) ≡ false = ap (λ (g : Agent). same_agent g (Dev n)) e ∙ ne_eqb m n (λ h. omega (arith, h, lt)) in
    let same : made_by (Dev n) (x ∷ xs) ≡ made_by (Dev n) xs = omega (arith, made-more (Dev n) x xs, ap (λ (b : Bool). cond {A = ℕ} b 1 0) other) in
    ap₂ (λ (k : ℕ) (ws : List Device). forward k v ∷ ws) same (earlier-entry (n + 1) m x xs vs (omega (arith, lt)) e)

-- after one of device n + k
own-entry : (n k : ℕ) (x : Entry) (xs : List Entry) (vs : List Device) → x.agent ≡ Dev (n + k) → devices_after n xs (change_at k one_on vs) ≡ devices_after n (x ∷ xs) vs
own-entry n k x xs [] e = refl
own-entry n zero x xs (v ∷ vs) e =
    let own : same_agent x.agent (Dev n) ≡ true = ap (λ (g : Agent). same_agent g (Dev n)) e ∙ eq-eqb (n + 0) n (omega arith) in
    let more : suc v.position + made_by (Dev n) xs ≡ v.position + made_by (Dev n) (x ∷ xs) = omega (arith, made-more (Dev n) x xs, ap (λ (b : Bool). cond {A = ℕ} b 1 0) own) in
    ap₂ (λ (p : ℕ) (ws : List Device). record v { position = p } ∷ ws) more (sym (earlier-entry (n + 1) (n + 0) x xs vs (omega arith) e))
own-entry n (suc k) x xs (v ∷ vs) e =
    let other : same_agent x.agent (Dev n) ≡ false = ap (λ (g : Agent). same_agent g (Dev n)) e ∙ ne_eqb (n + suc k) n (λ h. omega (arith, h)) in
    let same : made_by (Dev n) xs ≡ made_by (Dev n) (x ∷ xs) = omega (arith, made-more (Dev n) x xs, ap (λ (b : Bool). cond {A = ℕ} b 1 0) other) in
    ap₂ (λ (p : ℕ) (ws : List Device). forward p v ∷ ws) same (own-entry (n + 1) k x xs vs (e ∙ ap Dev (omega arith)))

entry-devices : (s : BoardState) (x : Entry) (xs : List Entry) → devices_after 0 xs (after_entry s x).devices ≡ devices_after 0 (x ∷ xs) s.devices
entry-devices s x xs = go x.agent refl where
  go : (g : Agent) → x.agent ≡ g → devices_after 0 xs (after x.agent x.op s).devices ≡ devices_after 0 (x ∷ xs) s.devices
  go (Cpu id) e =
      ap (λ (g : Agent). devices_after 0 xs (after g x.op s).devices) e ∙ ap (devices_after 0 xs) (cpu-devices id x.op s)
      ∙ sym (others-entry 0 x xs s.devices (λ d. ap (λ (g : Agent). same_agent g (Dev d)) e))
  go (Io a) e =
      ap (λ (g : Agent). devices_after 0 xs (after g x.op s).devices) e ∙ ap (devices_after 0 xs) (io-devices a x.op s)
      ∙ sym (others-entry 0 x xs s.devices (λ d. ap (λ (g : Agent). same_agent g (Dev d)) e))
  go (Dev m) e =
      ap (λ (g : Agent). devices_after 0 xs (after g x.op s).devices) e ∙ ap (devices_after 0 xs) (dev-devices m x.op s)
      ∙ own-entry 0 m x xs s.devices (e ∙ ap Dev (omega arith))

run-devices : (s : BoardState) (xs : List Entry) → (fold after_entry s xs).devices ≡ devices_after 0 xs s.devices
run-devices s [] = sym (stay-put 0 s.devices)
run-devices s (x ∷ xs) = run-devices (after_entry s x) xs ∙ entry-devices s x xs

zero-more : (d : ℕ) → 0 + d ≡ d
zero-more d = omega arith

-- a device's next op, and whether all have ended, by the entries
read-after : (n d : ℕ) (xs : List Entry) (ws : List (List DevWord)) → device_op_at (slice_get (devices_after n xs (map first_device ws)) d) ≡ op_of_words (made_by (Dev (n + d)) xs) (slice_get ws d)
read-after n d xs [] = refl
read-after n zero xs (w ∷ ws) =
    let here : n ≡ n + 0 = omega arith in
    let same : 0 + made_by (Dev n) xs ≡ made_by (Dev n) xs = omega arith in
    ap (slice_get (device_program w)) (same ∙ ap (λ (k : ℕ). made_by (Dev k) xs) here)
read-after n (suc d) xs (w ∷ ws) =
    let next : (n + 1) + d ≡ n + suc d = omega arith in
    read-after (n + 1) d xs ws ∙ ap (λ (k : ℕ). op_of_words (made_by (Dev k) xs) (slice_get ws d)) next

pub device_next_is : (c : Plan) (journal : List Entry) (d : ℕ) → device_op_at (slice_get (final_state_of c journal).devices d) ≡ op_of_words (made_by (Dev d) journal) (slice_get c.devices d)
device_next_is c journal d =
    ap (λ (vs : List Device). device_op_at (slice_get vs d)) (run-devices (initial_state_of c) journal)
    ∙ read-after 0 d journal c.devices ∙ ap (λ (k : ℕ). op_of_words (made_by (Dev k) journal) (slice_get c.devices d)) (zero-more d)

all-after : (n : ℕ) (xs : List Entry) (ws : List (List DevWord)) → list_all (λ (v : Device). nat_le (length v.program) v.position) (devices_after n xs (map first_device ws)) ≡ all_made n xs ws
all-after n xs [] = refl
all-after n xs (w ∷ ws) = ap₂ (λ (k : ℕ) (b : Bool). nat_le (length (device_program w)) k && b) (zero-more (made_by (Dev n) xs)) (all-after (n + 1) xs ws)

pub ended_is : (c : Plan) (journal : List Entry) → all_ended (final_state_of c journal) ≡ all_made 0 journal c.devices
ended_is c journal =
    ap (λ (vs : List Device). list_all (λ (v : Device). nat_le (length v.program) v.position) vs) (run-devices (initial_state_of c) journal)
    ∙ all-after 0 journal c.devices
