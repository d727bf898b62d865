-- One step at one processor: its life changes by the INIT or STARTUP that the op sends to it, and its position by an op of its own.
use Rattle.std.proofs.Common.{◌≡◌, nat_lt, ◌==◌, ℕ, suc, ◌+◌, Bool, true, false, cond, ◌||◌, map, refl, ap, ◌∙◌, arith, Option, Some, None, subst}
use Rattle.mpb_spec.specs.declared.agent.Agent.{Agent}
use Rattle.mpb_spec.specs.declared.agent.Agent.TheVariants.{Cpu, Io, Dev}
use Rattle.mpb_spec.specs.declared.agent.Op.{Op}
use Rattle.mpb_spec.specs.declared.agent.Op.TheVariants as op
use Rattle.mpb_spec.specs.declared.apic.Message.{Message}
use Rattle.mpb_spec.specs.declared.apic.Delivery.{Delivery}
use Rattle.mpb_spec.specs.declared.apic.Delivery.TheVariants as sends
use Rattle.mpb_spec.specs.LocalApic.{LocalApic, accepted, taken, after_end}
use Rattle.mpb_spec.specs.State.{Processor, BoardState, runs, processor_of, change_processor}
use Rattle.mpb_spec.specs.Delivery.{is_target, received, delivered_to, to_id, to_logical}
use Rattle.mpb_spec.specs.Steps.{after, effect_of_cpu, with_apic, due_at, kind_of, aim_of, deliver_kind, sent_message}
use Rattle.mpb_spec.specs.Requests.{is_cpu}
use Rattle.mpb_spec.specs.Plan.{CpuPlan}
use Rattle.mpb_spec.proofs.PlansStay.{plan_of}
use Rattle.mpb_start_laws.proofs.Processors.{KeepsId, found_id, found_map, found_change}
use Rattle.mpb_start_laws.proofs.Calls.{call_at, call_if, life_after}

-- the processor d, which is p before, after an op: its life, and its position
pub record Goes (s t : BoardState) (d : ℕ) (m : Option Delivery) (n : ℕ) (p : Processor) : Type 0 where
  pub now : Processor
  pub found : processor_of d t.processors ≡ Some now
  pub plan : plan_of now ≡ plan_of p
  pub life : now.life ≡ life_after s.warm p.version m p.life
  pub position : now.position ≡ p.position + n

-- a processor that keeps its life and its position
stays : (s t : BoardState) (d : ℕ) (p : Processor) → processor_of d t.processors ≡ Some p → Goes s t d None 0 p
stays s t d p e = record { now = p; found = e; plan = refl; life = refl; position = omega arith }

-- a processor with another local APIC
apic-goes : (s t : BoardState) (d id : ℕ) (f : LocalApic → LocalApic) (p : Processor) → processor_of d t.processors ≡ Some (cond (id == d) (with_apic f p) p) → Goes s t d None 0 p
apic-goes s t d id f p e = record {
  now = cond (id == d) (with_apic f p) p;
  found = e;
  plan = elim (id == d) as (λ b. plan_of (cond b (with_apic f p) p) ≡ plan_of p) [ true ↦ refl | false ↦ refl ];
  life = elim (id == d) as (λ b. (cond b (with_apic f p) p).life ≡ p.life) [ true ↦ refl | false ↦ refl ];
  position = elim (id == d) as (λ b. (cond b (with_apic f p) p).position ≡ p.position + 0) [ true ↦ omega arith | false ↦ omega arith ];
}

-- a target
record GoesBy (warm : Option ℕ) (m : Delivery) (p q : Processor) : Type 0 where
  plan : plan_of q ≡ plan_of p
  life : q.life ≡ life_after warm p.version (Some m) p.life
  position : q.position ≡ p.position

received-goes : (warm : Option ℕ) (m : Delivery) (p : Processor) → GoesBy warm m p (received warm m p)
received-goes warm (sends.Fixed u level) p = elim (runs p.life) as (λ b. GoesBy warm (sends.Fixed u level) p (cond b (record p { apic = accepted u level p.apic }) p)) [
  | true ↦ record { plan = refl; life = refl; position = refl }
  | false ↦ record { plan = refl; life = refl; position = refl }
]
received-goes warm sends.Nmi p = record { plan = refl; life = refl; position = refl }
received-goes warm sends.Pass p = record { plan = refl; life = refl; position = refl }
received-goes warm sends.Init p = record { plan = refl; life = refl; position = refl }
received-goes warm (sends.Startup page) p = record { plan = refl; life = refl; position = refl }

delivered-plan : (warm : Option ℕ) (test : Processor → Bool) (m : Delivery) (p : Processor) → plan_of (delivered_to warm test m p) ≡ plan_of p
delivered-plan warm test m p = elim (test p) as (λ b. plan_of (cond b (received warm m p) p) ≡ plan_of p) [ true ↦ (received-goes warm m p).plan | false ↦ refl ]

delivered-id : (warm : Option ℕ) (test : Processor → Bool) (m : Delivery) → KeepsId (delivered_to warm test m)
delivered-id warm test m p = ap (λ (c : CpuPlan). c.id) (delivered-plan warm test m p)

-- after a message to those that pass a test
message-goes : (s t : BoardState) (d : ℕ) (test : Processor → Bool) (b : Bool) (m : Delivery) (p : Processor) → test p ≡ b → t.processors ≡ map (delivered_to s.warm test m) s.processors → processor_of d s.processors ≡ Some p
    → Goes s t d (call_if b m) 0 p
message-goes s t d test b m p passes is e = record {
  now = delivered_to s.warm test m p;
  found = rw is (found_map d (delivered_to s.warm test m) s.processors p (delivered-id s.warm test m) e);
  plan = delivered-plan s.warm test m p;
  life = rw passes (elim b as (λ b. (cond b (received s.warm m p) p).life ≡ life_after s.warm p.version (call_if b m) p.life) [ true ↦ (received-goes s.warm m p).life | false ↦ refl ]);
  position = elim (test p) as (λ b. (cond b (received s.warm m p) p).position ≡ p.position + 0) [ true ↦ omega (arith, (received-goes s.warm m p).position) | false ↦ omega arith ];
}

-- one to an id
to-id : (s : BoardState) (d dest : ℕ) (p : Processor) → processor_of d s.processors ≡ Some p → is_target (to_id dest) s.processors p ≡ ((dest == 255) || (d == dest))
to-id s d dest p e = ap (λ (i : ℕ). (dest == 255) || (i == dest)) (found_id d s.processors p e)

-- one that changes no life
plain-goes : (s t : BoardState) (d : ℕ) (test : Processor → Bool) (m : Delivery) (p : Processor) → ((l : _) → life_after s.warm p.version (Some m) l ≡ l) → t.processors ≡ map (delivered_to s.warm test m) s.processors → processor_of d s.processors ≡ Some p → Goes s t d None 0 p
plain-goes s t d test m p plain is e =
    let h = message-goes s t d test (test p) m p refl is e in
    record { now = h.now; found = h.found; plan = h.plan; life = h.life ∙ one (test p); position = h.position } where
      one : (b : Bool) → life_after s.warm p.version (call_if b m) p.life ≡ p.life
      one true = plain p.life
      one false = refl

-- the effect of a processor's op
cpu-goes : (s : BoardState) (d id : ℕ) (o : Op) (p : Processor) → processor_of d s.processors ≡ Some p → Goes s (effect_of_cpu id o s) d (call_at d (Cpu id) o) 0 p
cpu-goes s d id (op.Init dest) p e = message-goes s (effect_of_cpu id (op.Init dest) s) d (is_target (to_id dest) s.processors) ((dest == 255) || (d == dest)) sends.Init p (to-id s d dest p e) refl e
cpu-goes s d id (op.Startup dest page) p e = message-goes s (effect_of_cpu id (op.Startup dest page) s) d (is_target (to_id dest) s.processors) ((dest == 255) || (d == dest)) (sends.Startup page) p (to-id s d dest p e) refl e
cpu-goes s d id (op.Ipi dest u) p e = plain-goes s (effect_of_cpu id (op.Ipi dest u) s) d (is_target (to_id dest) s.processors) (sends.Fixed u false) p (λ l. refl) refl e
cpu-goes s d id (op.Ipl dest u) p e = plain-goes s (effect_of_cpu id (op.Ipl dest u) s) d (is_target (to_logical dest) s.processors) (sends.Fixed u false) p (λ l. refl) refl e
cpu-goes s d id (op.Nmi dest) p e = plain-goes s (effect_of_cpu id (op.Nmi dest) s) d (is_target (to_id dest) s.processors) sends.Nmi p (λ l. refl) refl e
cpu-goes s d id op.Take p e = apic-goes s (effect_of_cpu id op.Take s) d id taken p (found_change d id (with_apic taken) s.processors p (λ x. refl) e)
cpu-goes s d id op.Poll p e = apic-goes s (effect_of_cpu id op.Poll s) d id taken p (found_change d id (with_apic taken) s.processors p (λ x. refl) e)
cpu-goes s d id op.Eoi p e = apic-goes s (effect_of_cpu id op.Eoi s) d id after_end p (found_change d id (with_apic after_end) s.processors p (λ x. refl) e)
cpu-goes s d id (op.Tpr n) p e = apic-goes s (effect_of_cpu id (op.Tpr n) s) d id (λ a. record a { tpr = n }) p (found_change d id (with_apic (λ a. record a { tpr = n })) s.processors p (λ x. refl) e)
cpu-goes s d id (op.Ldr n) p e = apic-goes s (effect_of_cpu id (op.Ldr n) s) d id (λ a. record a { ldr = n }) p (found_change d id (with_apic (λ a. record a { ldr = n })) s.processors p (λ x. refl) e)
cpu-goes s d id (op.Dfr n) p e = apic-goes s (effect_of_cpu id (op.Dfr n) s) d id (λ a. record a { dfr = n }) p (found_change d id (with_apic (λ a. record a { dfr = n })) s.processors p (λ x. refl) e)
cpu-goes s d id o p e = stays s (effect_of_cpu id o s) d p e

-- a message of an I/O APIC
kind-goes : (s t : BoardState) (d : ℕ) (m : Message) (k : Option Delivery) (p : Processor) → kind_of m ≡ k → t.processors ≡ (deliver_kind (aim_of m) k s).processors → processor_of d s.processors ≡ Some p → Goes s t d None 0 p
kind-goes s t d m None p is at e = stays s t d p (rw at e)
kind-goes s t d m (Some k) p is at e = plain-goes s t d (is_target (aim_of m) s.processors) k p (plain (nat_lt m.mode 2) (m.mode == 2) (m.mode == 4) (m.mode == 7) is) at e where
  Plain : Delivery → Type 0
  Plain k = (l : _) → life_after s.warm p.version (Some k) l ≡ l

  plain : (a b c f : Bool) → cond {A = Option Delivery} a (Some (sends.Fixed m.vector m.level)) (cond b (Some sends.Pass) (cond c (Some sends.Nmi) (cond f (Some sends.Pass) None))) ≡ Some k → Plain k
  plain true b c f h = let same : sends.Fixed m.vector m.level ≡ k = cc in subst Plain same (λ l. refl)
  plain false true c f h = let same : sends.Pass ≡ k = cc in subst Plain same (λ l. refl)
  plain false false true f h = let same : sends.Nmi ≡ k = cc in subst Plain same (λ l. refl)
  plain false false false true h = let same : sends.Pass ≡ k = cc in subst Plain same (λ l. refl)
  plain false false false false h = cc

send-goes : (s : BoardState) (d a : ℕ) (m : Option Message) (p : Processor) → processor_of d s.processors ≡ Some p → Goes s (sent_message a m s) d None 0 p
send-goes s d a None p e = stays s s d p e
send-goes s d a (Some m) p e = kind-goes s (sent_message a (Some m) s) d m (kind_of m) p refl refl e

-- one op of the agent's own program, where it is this processor
abbrev pub own : ℕ → Agent → ℕ
own d g = cond (is_cpu d g) 1 0

advanced-goes : (s t : BoardState) (d id : ℕ) (m : Option Delivery) (p : Processor) → Goes s t d m 0 p → Goes s (record t { processors = change_processor id (λ x. record x { position = suc x.position }) t.processors }) d m (own d (Cpu id)) p
advanced-goes s t d id m p h = record {
  now = cond (id == d) (record h.now { position = suc h.now.position }) h.now;
  found = found_change d id (λ x. record x { position = suc x.position }) t.processors h.now (λ x. refl) h.found;
  plan = elim (id == d) as (λ b. plan_of (cond b (record h.now { position = suc h.now.position }) h.now) ≡ plan_of p) [ true ↦ h.plan | false ↦ h.plan ];
  life = elim (id == d) as (λ b. (cond b (record h.now { position = suc h.now.position }) h.now).life ≡ life_after s.warm p.version m p.life) [ true ↦ h.life | false ↦ h.life ];
  position = elim (id == d) as (λ b. (cond b (record h.now { position = suc h.now.position }) h.now).position ≡ p.position + cond b 1 0) [ true ↦ omega (arith, h.position) | false ↦ omega (arith, h.position) ];
}

pub step_goes : (s : BoardState) (d : ℕ) (g : Agent) (o : Op) (p : Processor) → processor_of d s.processors ≡ Some p → Goes s (after g o s) d (call_at d g o) (own d g) p
step_goes s d (Cpu id) o p e = advanced-goes s (effect_of_cpu id o s) d id (call_at d (Cpu id) o) p (cpu-goes s d id o p e)
step_goes s d (Dev n) (op.High a pin) p e = stays s (after (Dev n) (op.High a pin) s) d p e
step_goes s d (Dev n) (op.Low a pin) p e = stays s (after (Dev n) (op.Low a pin) s) d p e
step_goes s d (Dev n) o p e = stays s (after (Dev n) o s) d p e
step_goes s d (Io a) (op.Collect pins) p e = stays s (after (Io a) (op.Collect pins) s) d p e
step_goes s d (Io a) (op.Send pin) p e = send-goes s d a (due_at a s) p e
step_goes s d (Io a) op.Sweep p e = stays s (after (Io a) op.Sweep s) d p e
step_goes s d (Io a) o p e = stays s (after (Io a) o s) d p e
