-- No step leads past the end of a program.
use Rattle.std.proofs.Common.{◌≡◌, ℕ, zero, suc, ◌+◌, ◌≤◌, Bool, true, false, cond, List, [], ◌∷◌, length, map, refl, sym, ap, arith, Option, Some, None, slice_get, subst, fold}
use Rattle.std.specs.List.{AllByRecursion, Contains}
use Rattle.mpb_spec.specs.declared.agent.Agent.{Agent}
use Rattle.mpb_spec.specs.declared.agent.Agent.TheVariants.{Cpu, Io, Dev}
use Rattle.mpb_spec.specs.declared.agent.Offer.{Offer}
use Rattle.mpb_spec.specs.declared.agent.Op.{Op}
use Rattle.mpb_spec.specs.declared.agent.Op.TheVariants as op
use Rattle.mpb_spec.specs.declared.apic.Aim.{Aim}
use Rattle.mpb_spec.specs.declared.apic.Delivery.{Delivery}
use Rattle.mpb_spec.specs.declared.apic.Message.{Message}
use Rattle.mpb_spec.specs.declared.config.DevWord.{DevWord}
use Rattle.mpb_spec.specs.declared.entry.Entry.{Entry}
use Rattle.mpb_spec.specs.Numbers.{IsAscending}
use Rattle.mpb_spec.specs.State.{Processor, Device, BoardState, processor_of, change_at, device_op_at}
use Rattle.mpb_spec.specs.Steps.{next_op, after, effect_of_dev, sent_message, deliver_kind, kind_of, aim_of, due_at}
use Rattle.mpb_spec.specs.Plan.{Plan, CpuPlan, initial_state_of, first_processor, first_device}
use Rattle.mpb_spec.specs.Configs.{IsConfig}
use Rattle.mpb_spec.specs.Journal.{AreSteps, IsLegal, after_entry, final_state_of}
use Rattle.mpb_spec.specs.Requests.{is_cpu}
use Rattle.mpb_spec.proofs.May.{may_advance_dev}
use Rattle.mpb_start_laws.proofs.Processors.{same_found, found_in, found_member}
use Rattle.std.proofs.lemmas.Option.{slice_get_within}
use Rattle.mpb_spec.proofs.PlansStay.{plan_of, plans_stay}
use Rattle.mpb_start_laws.proofs.LifeSteps.{step_goes}
use Rattle.mpb_start_laws.proofs.UnderWay.{op_is_there, is_own}
use Rattle.mpb_start_laws.proofs.Told.{up_of}
use Rattle.mpb_start_laws.proofs.Opening.{first_found}

-- no processor is past the end of its program
stays-within : (d : ℕ) (s : BoardState) (xs : List Entry) (p : Processor) → processor_of d s.processors ≡ Some p → p.position ≤ length p.program → AreSteps s xs
    → (q : Processor) × (processor_of d (fold after_entry s xs).processors ≡ Some q) × (q.position ≤ length q.program)
stays-within d s [] p e le steps = (p, e, le)
stays-within d s (x ∷ xs) p e le steps =
    let goes = step_goes s d x.agent x.op p e in
    let program : length goes.now.program ≡ length p.program = ap (λ (c : CpuPlan). length c.program) goes.plan in
    let within : goes.now.position ≤ length goes.now.program = go (is_cpu d x.agent) refl goes.position program in
    stays-within d (after_entry s x) xs goes.now goes.found within steps.1
  where
    go : (b : Bool) → is_cpu d x.agent ≡ b → {n m : ℕ} → n ≡ p.position + cond b 1 0 → m ≡ length p.program → n ≤ m
    go false t position program = omega (arith, position, program, le)
    go true t position program =
        let mine : next_op s (Cpu d) steps.0.offer ≡ Some x.op = subst (λ (g : Agent). next_op s g steps.0.offer ≡ Some x.op) (is_own d x.agent t) steps.0.may in
        omega (arith, position, program, slice_get_within p.program p.position x.op (op_is_there s d steps.0.offer x.op p mine e))

-- no device either
abbrev pub IsWithin : Device → Type 0
IsWithin d = d.position ≤ length d.program

abbrev step-on : Device → Device
step-on d = record d { position = suc d.position }

change-within : (n : ℕ) (ds : List Device) (o : Op) → AllByRecursion IsWithin ds → device_op_at (slice_get ds n) ≡ Some o → AllByRecursion IsWithin (change_at n step-on ds)
change-within n [] o all e = tt
change-within zero (d ∷ ds) o all e = (omega (arith, slice_get_within d.program d.position o e), all.1)
change-within (suc n) (d ∷ ds) o all e = (all.0, change-within n ds o all.1 e)

kept-devices : (o : Op) (s : BoardState) → (effect_of_dev o s).devices ≡ s.devices
kept-devices (op.High a pin) s = refl
kept-devices (op.Low a pin) s = refl
kept-devices o s = refl

dev-devices : (n : ℕ) (o : Op) (s : BoardState) → (after (Dev n) o s).devices ≡ change_at n step-on s.devices
dev-devices n o s = ap (change_at n step-on) (kept-devices o s)

cpu-devices : (id : ℕ) (o : Op) (s : BoardState) → (after (Cpu id) o s).devices ≡ s.devices
cpu-devices id op.Imcr s = refl
cpu-devices id o s = refl

kind-devices : (aim : Aim) (k : Option Delivery) (s : BoardState) → (deliver_kind aim k s).devices ≡ s.devices
kind-devices aim None s = refl
kind-devices aim (Some m) s = refl

send-devices : (a : ℕ) (m : Option Message) (s : BoardState) → (sent_message a m s).devices ≡ s.devices
send-devices a None s = refl
send-devices a (Some m) s = kind-devices (aim_of m) (kind_of m) s

io-devices : (a : ℕ) (o : Op) (s : BoardState) → (after (Io a) o s).devices ≡ s.devices
io-devices a (op.Collect pins) s = refl
io-devices a (op.Send pin) s = send-devices a (due_at a s) s
io-devices a op.Sweep s = refl
io-devices a o s = refl

step-within : (s : BoardState) (g : Agent) (f : Offer) (o : Op) → next_op s g f ≡ Some o → AllByRecursion IsWithin s.devices → AllByRecursion IsWithin (after g o s).devices
step-within s (Cpu id) f o may all = subst (AllByRecursion IsWithin) (sym (cpu-devices id o s)) all
step-within s (Dev n) f o may all =
    let here : device_op_at (slice_get s.devices n) ≡ Some o = subst (λ (ds : List Device). device_op_at (slice_get ds n) ≡ Some o) (kept-devices o s) (may_advance_dev s (Dev n) n f o refl may) in
    subst (AllByRecursion IsWithin) (sym (dev-devices n o s)) (change-within n s.devices o all here)
step-within s (Io a) f o may all = subst (AllByRecursion IsWithin) (sym (io-devices a o s)) all

pub run_within : (s : BoardState) (xs : List Entry) → AreSteps s xs → AllByRecursion IsWithin s.devices → AllByRecursion IsWithin (fold after_entry s xs).devices
run_within s [] steps all = all
run_within s (x ∷ xs) steps all = run_within (after_entry s x) xs steps.1 (step-within s x.agent steps.0.offer x.op steps.0.may all)

pub first_within : (words : List (List DevWord)) → AllByRecursion IsWithin (map first_device words)
first_within [] = tt
first_within (w ∷ words) = (omega arith, first_within words)

-- a processor of a config's journal is found by its id, and is not past its end
pub processor_within : (c : Plan) (journal : List Entry) (p : Processor) → IsConfig c → IsLegal c journal → Contains (final_state_of c journal).processors p → (processor_of p.id (final_state_of c journal).processors ≡ Some p) × (p.position ≤ length p.program)
processor_within c journal p is legal here =
    let t : BoardState = final_state_of c journal in
    let up : IsAscending (map (λ q. q.id) t.processors) = up_of t.processors (subst (λ (l : List CpuPlan). IsAscending (map (λ q. q.id) l)) (sym (plans_stay c journal)) is.ascending) in
    let found : processor_of p.id t.processors ≡ Some p = found_member t.processors p up here in
    let in_plan : Contains c.cpus (plan_of p) = subst (λ (l : List CpuPlan). Contains l (plan_of p)) (plans_stay c journal) (found_in p.id t.processors p found) in
    let q = stays-within p.id (initial_state_of c) journal (first_processor c.boot (plan_of p)) (first_found c (plan_of p) is.ascending in_plan) (omega arith) legal in
    let same : q.0 ≡ p = same_found q.0 p (processor_of p.id t.processors) q.1 found in
    (found, subst (λ (x : Processor). x.position ≤ length x.program) same q.2)
