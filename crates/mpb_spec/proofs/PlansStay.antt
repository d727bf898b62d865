-- No step changes an id, a version or a program.
use Rattle.std.proofs.Common.{◌≡◌, ◌==◌, ℕ, suc, Bool, true, false, cond, List, [], ◌∷◌, map, refl, ap, ap₂, ◌∙◌, Option, None, Some, fold}
use Rattle.mpb_spec.specs.declared.agent.Agent.{Agent}
use Rattle.mpb_spec.specs.declared.agent.Agent.TheVariants.{Cpu, Io, Dev}
use Rattle.mpb_spec.specs.declared.agent.Op.{Op}
use Rattle.mpb_spec.specs.declared.agent.Op.TheVariants as op
use Rattle.mpb_spec.specs.declared.apic.Message.{Message}
use Rattle.mpb_spec.specs.declared.apic.Aim.{Aim}
use Rattle.mpb_spec.specs.declared.apic.Delivery.{Delivery}
use Rattle.mpb_spec.specs.declared.apic.Delivery.TheVariants as sends
use Rattle.mpb_spec.specs.declared.entry.Entry.{Entry}
use Rattle.mpb_spec.specs.LocalApic.{accepted, taken, after_end}
use Rattle.mpb_spec.specs.State.{Processor, BoardState, runs, change_processor}
use Rattle.mpb_spec.specs.Delivery.{is_target, received, delivered_to, to_id, to_logical}
use Rattle.mpb_spec.specs.Steps.{after, effect_of_cpu, with_apic, due_at, kind_of, aim_of, deliver_kind, sent_message}
use Rattle.mpb_spec.specs.Plan.{Plan, CpuPlan, initial_state_of, first_processor}
use Rattle.mpb_spec.specs.Journal.{after_entry, final_state_of}

-- what never changes of a processor
abbrev pub plan_of : Processor → CpuPlan
plan_of p = record { id = p.id; version = p.version; program = p.program }

abbrev pub plans_of : List Processor → List CpuPlan
plans_of ps = map plan_of ps

abbrev KeepsPlan : (Processor → Processor) → Type 0
KeepsPlan k = (p : Processor) → plan_of (k p) ≡ plan_of p

map-plans : (k : Processor → Processor) (ps : List Processor) → KeepsPlan k → plans_of (map k ps) ≡ plans_of ps
map-plans k [] keeps = refl
map-plans k (p ∷ ps) keeps = ap₂ (λ (c : CpuPlan) (l : List CpuPlan). c ∷ l) (keeps p) (map-plans k ps keeps)

change-plans : (id : ℕ) (k : Processor → Processor) (ps : List Processor) → KeepsPlan k → plans_of (change_processor id k ps) ≡ plans_of ps
change-plans id k [] keeps = refl
change-plans id k (p ∷ ps) keeps = go (p.id == id) (change-plans id k ps keeps) where
  go : (b : Bool) → plans_of (change_processor id k ps) ≡ plans_of ps → plans_of (cond b (k p ∷ ps) (p ∷ change_processor id k ps)) ≡ plans_of (p ∷ ps)
  go true h = ap (λ (c : CpuPlan). c ∷ plans_of ps) (keeps p)
  go false h = ap (λ (l : List CpuPlan). plan_of p ∷ l) h

received-plans : (warm : Option ℕ) (m : Delivery) → KeepsPlan (received warm m)
received-plans warm (sends.Fixed u level) p = elim (runs p.life) as (λ b. plan_of (cond b (record p { apic = accepted u level p.apic }) p) ≡ plan_of p) [ true ↦ refl | false ↦ refl ]
received-plans warm sends.Nmi p = refl
received-plans warm sends.Pass p = refl
received-plans warm sends.Init p = refl
received-plans warm (sends.Startup page) p = refl

delivered-plans : (test : Processor → Bool) (warm : Option ℕ) (m : Delivery) (ps : List Processor) → plans_of (map (delivered_to warm test m) ps) ≡ plans_of ps
delivered-plans test warm m ps = map-plans (delivered_to warm test m) ps (λ p. elim (test p) as (λ b. plan_of (cond b (received warm m p) p) ≡ plan_of p) [ true ↦ received-plans warm m p | false ↦ refl ])

cpu-plans : (id : ℕ) (o : Op) (s : BoardState) → plans_of (effect_of_cpu id o s).processors ≡ plans_of s.processors
cpu-plans id (op.Init dest) s = delivered-plans (is_target (to_id dest) s.processors) s.warm sends.Init s.processors
cpu-plans id (op.Startup dest page) s = delivered-plans (is_target (to_id dest) s.processors) s.warm (sends.Startup page) s.processors
cpu-plans id (op.Ipi dest u) s = delivered-plans (is_target (to_id dest) s.processors) s.warm (sends.Fixed u false) s.processors
cpu-plans id (op.Ipl dest u) s = delivered-plans (is_target (to_logical dest) s.processors) s.warm (sends.Fixed u false) s.processors
cpu-plans id (op.Nmi dest) s = delivered-plans (is_target (to_id dest) s.processors) s.warm sends.Nmi s.processors
cpu-plans id op.Take s = change-plans id (with_apic taken) s.processors (λ p. refl)
cpu-plans id op.Poll s = change-plans id (with_apic taken) s.processors (λ p. refl)
cpu-plans id op.Eoi s = change-plans id (with_apic after_end) s.processors (λ p. refl)
cpu-plans id (op.Tpr n) s = change-plans id (with_apic (λ a. record a { tpr = n })) s.processors (λ p. refl)
cpu-plans id (op.Ldr n) s = change-plans id (with_apic (λ a. record a { ldr = n })) s.processors (λ p. refl)
cpu-plans id (op.Dfr n) s = change-plans id (with_apic (λ a. record a { dfr = n })) s.processors (λ p. refl)
cpu-plans id o s = refl

kind-plans : (aim : Aim) (k : Option Delivery) (s : BoardState) → plans_of (deliver_kind aim k s).processors ≡ plans_of s.processors
kind-plans aim None s = refl
kind-plans aim (Some m) s = delivered-plans (is_target aim s.processors) s.warm m s.processors

send-plans : (a : ℕ) (m : Option Message) (s : BoardState) → plans_of (sent_message a m s).processors ≡ plans_of s.processors
send-plans a None s = refl
send-plans a (Some m) s = kind-plans (aim_of m) (kind_of m) s

pub step_plans : (g : Agent) (o : Op) (s : BoardState) → plans_of (after g o s).processors ≡ plans_of s.processors
step_plans (Cpu id) o s = change-plans id (λ p. record p { position = suc p.position }) (effect_of_cpu id o s).processors (λ p. refl) ∙ cpu-plans id o s
step_plans (Dev n) (op.High a pin) s = refl
step_plans (Dev n) (op.Low a pin) s = refl
step_plans (Dev n) o s = refl
step_plans (Io a) (op.Collect pins) s = refl
step_plans (Io a) (op.Send pin) s = send-plans a (due_at a s) s
step_plans (Io a) op.Sweep s = refl
step_plans (Io a) o s = refl

pub run_plans : (s : BoardState) (xs : List Entry) → plans_of (fold after_entry s xs).processors ≡ plans_of s.processors
run_plans s [] = refl
run_plans s (x ∷ xs) = run_plans (after_entry s x) xs ∙ step_plans x.agent x.op s

pub first_plans : (boot : ℕ) (ps : List CpuPlan) → plans_of (map (first_processor boot) ps) ≡ ps
first_plans boot [] = refl
first_plans boot (p ∷ ps) = ap (λ (l : List CpuPlan). p ∷ l) (first_plans boot ps)

-- in every journal's last state
pub plans_stay : (c : Plan) (journal : List Entry) → plans_of (final_state_of c journal).processors ≡ c.cpus
plans_stay c journal = run_plans (initial_state_of c) journal ∙ first_plans c.boot c.cpus
