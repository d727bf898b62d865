-- One step: the Set outcomes of a vector at a processor are its requests that are new, and each take is one request less.
use Rattle.std.proofs.Common.{◌≡◌, ◌==◌, ℕ, suc, ◌+◌, Bool, true, false, cond, ◌&&◌, List, [], ◌∷◌, map, refl, sym, ap, ap₂, ◌∙◌, arith, Option, Some, None, slice_get, nat_lt, option_map, count_by, sum_by, fold, subst}
use Rattle.std.proofs.lemmas.List.Sums.{sum_by-cons}
use Rattle.mpb_spec.specs.declared.agent.Agent.{Agent}
use Rattle.mpb_spec.specs.declared.agent.Agent.TheVariants.{Cpu, Io, Dev}
use Rattle.mpb_spec.specs.declared.agent.Op.{Op}
use Rattle.mpb_spec.specs.declared.agent.Op.TheVariants as op
use Rattle.mpb_spec.specs.declared.entry.Entry.{Entry}
use Rattle.mpb_spec.specs.declared.entry.Outcome.{Outcome}
use Rattle.mpb_spec.specs.declared.entry.What.{What}
use Rattle.mpb_spec.specs.declared.entry.What.TheVariants as what
use Rattle.mpb_spec.specs.declared.apic.Aim.{Aim}
use Rattle.mpb_spec.specs.declared.apic.Delivery.{Delivery}
use Rattle.mpb_spec.specs.declared.apic.Delivery.TheVariants as sends
use Rattle.mpb_spec.specs.declared.apic.Effect.{Effect}
use Rattle.mpb_spec.specs.declared.apic.Effect.TheVariants as effect
use Rattle.mpb_spec.specs.declared.apic.Message.{Message}
use Rattle.mpb_spec.specs.declared.config.Life.{Life}
use Rattle.mpb_spec.specs.declared.config.Life.TheVariants as life
use Rattle.mpb_spec.specs.Numbers.{has, greatest, IsAscending}
use Rattle.mpb_spec.specs.LocalApic.{LocalApic, taken, accepted, after_end, after_end_of}
use Rattle.mpb_spec.specs.IoApic.{write_effect}
use Rattle.mpb_spec.specs.State.{Processor, Place, BoardState, runs, processor_of, change_processor}
use Rattle.mpb_spec.specs.Delivery.{is_target, received, delivered_to, to_id, to_logical, byte_of}
use Rattle.mpb_spec.specs.Steps.{after, effect_of_cpu, with_apic, due_at, kind_of, aim_of, deliver_kind, kind_outcomes, sent_message, send_outcomes, ended_at}
use Rattle.mpb_spec.specs.Outcomes.{outcomes_of, outcomes_of_cpu, found, found_alive, what_ended, what_effect, of_write, of_read}
use Rattle.mpb_spec.specs.Plan.{Plan, CpuPlan, initial_state_of, first_processor}
use Rattle.mpb_spec.specs.Configs.{IsConfig}
use Rattle.mpb_spec.specs.Journal.{AreSteps, IsStep, IsLegal, after_entry}
use Rattle.mpb_spec.specs.Requests.{is_vector, is_set, is_taken, is_cpu, sets_at, vector_sent, sets_by, sets_from, taken_in}
use Rattle.mpb_laws.specs.Accounts.{IsAccounted}
use Rattle.mpb_laws.proofs.RequestLemmas.{requests, requests-cons, Keeps, change-keeps, take-counts, takes-at, plain-keeps, delivery-counts, IsOf, requests-of_one}

-- how often the outcomes take the vector
abbrev takes : ℕ → List Outcome → ℕ
takes v os = count_by (λ o. is_taken v o.what) os

-- what a processor's op takes, and what it asks for: its effect, but for the position
abbrev asked : ℕ → ℕ → ℕ → Op → BoardState → ℕ
asked d v id o s = cond {A = ℕ} (is_vector v (vector_sent (Cpu id) o s)) (sets_at d (outcomes_of_cpu id o s)) 0

abbrev took : ℕ → ℕ → ℕ → Op → BoardState → ℕ
took d v id o s = cond {A = ℕ} (id == d) (takes v (outcomes_of_cpu id o s)) 0

-- a local APIC with other registers than IRR
apic-keeps : (v : ℕ) (f : LocalApic → LocalApic) → ((a : LocalApic) → has v (f a).irr ≡ has v a.irr) → Keeps v (with_apic f)
apic-keeps v f keeps = record { id = λ p. refl; irr = λ p. keeps p.apic }

end-keeps : (v : ℕ) (a : LocalApic) (r : Option ℕ) → has v (after_end_of a r).irr ≡ has v a.irr
end-keeps v a None = refl
end-keeps v a (Some u) = refl

-- nothing is taken
zero-takes : (i : Bool) (n : ℕ) → n ≡ 0 → cond {A = ℕ} i n 0 ≡ 0
zero-takes true n e = e
zero-takes false n e = refl

one-outcome : (v : ℕ) (at : ℕ) (w : What) → takes v (record { at = at; what = w } ∷ []) ≡ cond {A = ℕ} (is_taken v w) 1 0
one-outcome v at w = sum_by-cons (λ (o : Outcome). cond {A = ℕ} (is_taken v o.what) 1 0) (record { at = at; what = w }) [] ∙ omega arith

one-untaken : (v : ℕ) (at : ℕ) (w : What) → is_taken v w ≡ false → takes v (record { at = at; what = w } ∷ []) ≡ 0
one-untaken v at w e = one-outcome v at w ∙ ap (λ b. cond {A = ℕ} b 1 0) e

found-untaken : (v : ℕ) (r : Option Processor) → is_taken v (found r) ≡ false
found-untaken v None = refl
found-untaken v (Some p) = go p.life where
  go : (l : Life) → is_taken v (found_alive l) ≡ false
  go life.Asleep = refl
  go life.Waiting = refl
  go (life.Started page) = refl
  go life.First = refl

ended-untaken : (v : ℕ) (e : Option (ℕ × Bool)) → is_taken v (what_ended e) ≡ false
ended-untaken v None = refl
ended-untaken v (Some e) = refl

effect-untaken : (v : ℕ) (e : Effect) → is_taken v (what_effect e) ≡ false
effect-untaken v effect.Plain = refl
effect-untaken v effect.Due = refl
effect-untaken v effect.Withdrawn = refl

write-untaken : (v value : ℕ) (r : Option Place) → is_taken v (of_write value r) ≡ false
write-untaken v value None = refl
write-untaken v value (Some p) = effect-untaken v (write_effect value p.chip)

read-untaken : (v : ℕ) (r : Option Place) → is_taken v (of_read r) ≡ false
read-untaken v None = refl
read-untaken v (Some p) = refl

-- a processor's op, but for its position
abbrev Counts : ℕ → ℕ → ℕ → Op → BoardState → Type 0
Counts d v id o s = asked d v id o s + requests d v s.processors ≡ took d v id o s + requests d v (effect_of_cpu id o s).processors

-- one that asks for nothing and takes nothing
still : (d v id : ℕ) (o : Op) (s : BoardState) → asked d v id o s ≡ 0 → takes v (outcomes_of_cpu id o s) ≡ 0 → requests d v (effect_of_cpu id o s).processors ≡ requests d v s.processors → Counts d v id o s
still d v id o s a t r = omega (arith, a, r, zero-takes (id == d) (takes v (outcomes_of_cpu id o s)) t)

taking : (d v id : ℕ) (s : BoardState) (w : What) → cond {A = ℕ} (id == d) (cond {A = ℕ} (is_taken v w) 1 0) 0 + requests d v (change_processor id (with_apic taken) s.processors) ≡ requests d v s.processors
    → requests d v s.processors ≡ cond {A = ℕ} (id == d) (takes v (record { at = 0; what = w } ∷ [])) 0 + requests d v (change_processor id (with_apic taken) s.processors)
taking d v id s w h = rw (one-outcome v 0 w) (sym h)

cpu-counts : (d v id : ℕ) (o : Op) (s : BoardState) → Counts d v id o s
cpu-counts d v id (op.Init dest) s = still d v id (op.Init dest) s refl (takes-at v s.warm (is_target (to_id dest) s.processors) dest sends.Init s.processors) (plain-keeps d v (is_target (to_id dest) s.processors) s.warm sends.Init s.processors tt)
cpu-counts d v id (op.Startup dest page) s = still d v id (op.Startup dest page) s refl (takes-at v s.warm (is_target (to_id dest) s.processors) dest (sends.Startup page) s.processors) (plain-keeps d v (is_target (to_id dest) s.processors) s.warm (sends.Startup page) s.processors tt)
cpu-counts d v id (op.Nmi dest) s = still d v id (op.Nmi dest) s refl (takes-at v s.warm (is_target (to_id dest) s.processors) dest sends.Nmi s.processors) (plain-keeps d v (is_target (to_id dest) s.processors) s.warm sends.Nmi s.processors tt)
cpu-counts d v id (op.Ipi dest u) s =
    omega (arith, delivery-counts d v u (is_target (to_id dest) s.processors) dest s.warm (sends.Fixed u false) s.processors refl, zero-takes (id == d) (takes v (outcomes_of_cpu id (op.Ipi dest u) s)) (takes-at v s.warm (is_target (to_id dest) s.processors) dest (sends.Fixed u false) s.processors))
cpu-counts d v id (op.Ipl dest u) s =
    omega (arith, delivery-counts d v u (is_target (to_logical dest) s.processors) dest s.warm (sends.Fixed u false) s.processors refl, zero-takes (id == d) (takes v (outcomes_of_cpu id (op.Ipl dest u) s)) (takes-at v s.warm (is_target (to_logical dest) s.processors) dest (sends.Fixed u false) s.processors))
cpu-counts d v id (op.Check dest) s = still d v id (op.Check dest) s refl (one-untaken v dest (found (processor_of dest s.processors)) (found-untaken v (processor_of dest s.processors))) refl
cpu-counts d v id op.Take s = omega (arith, taking d v id s _ (take-counts d v id s.processors))
cpu-counts d v id op.Poll s = omega (arith, taking d v id s _ (take-counts d v id s.processors))
cpu-counts d v id op.Eoi s = still d v id op.Eoi s refl (one-untaken v 0 (what_ended (ended_at (processor_of id s.processors))) (ended-untaken v (ended_at (processor_of id s.processors)))) (change-keeps d v id (with_apic after_end) s.processors (apic-keeps v after_end (λ a. end-keeps v a (greatest a.isr))))
cpu-counts d v id (op.Tpr n) s = still d v id (op.Tpr n) s refl refl (change-keeps d v id (with_apic (λ a. record a { tpr = n })) s.processors (apic-keeps v (λ a. record a { tpr = n }) (λ a. refl)))
cpu-counts d v id (op.Ldr n) s = still d v id (op.Ldr n) s refl refl (change-keeps d v id (with_apic (λ a. record a { ldr = n })) s.processors (apic-keeps v (λ a. record a { ldr = n }) (λ a. refl)))
cpu-counts d v id (op.Dfr n) s = still d v id (op.Dfr n) s refl refl (change-keeps d v id (with_apic (λ a. record a { dfr = n })) s.processors (apic-keeps v (λ a. record a { dfr = n }) (λ a. refl)))
cpu-counts d v id (op.IoWin a value) s = still d v id (op.IoWin a value) s refl (one-untaken v 0 (of_write value (slice_get s.places a)) (write-untaken v value (slice_get s.places a))) refl
cpu-counts d v id (op.IoRead a) s = still d v id (op.IoRead a) s refl (one-untaken v 0 (of_read (slice_get s.places a)) (read-untaken v (slice_get s.places a))) refl
cpu-counts d v id o s = still d v id o s refl refl refl

-- its position
advance-keeps : (d v id : ℕ) (ps : List Processor) → requests d v (change_processor id (λ p. record p { position = suc p.position }) ps) ≡ requests d v ps
advance-keeps d v id ps = change-keeps d v id (λ p. record p { position = suc p.position }) ps (record { id = λ p. refl; irr = λ p. refl })

-- a message of an I/O APIC
kind-counts : (d v : ℕ) (m : Message) (k : Option Delivery) (s : BoardState) → kind_of m ≡ k → cond {A = ℕ} (m.vector == v) (sets_at d (kind_outcomes (aim_of m) k s)) 0 + requests d v s.processors ≡ requests d v (deliver_kind (aim_of m) k s).processors
kind-counts d v m None s e = rw (unheard d) (omega (arith, zero-takes (m.vector == v) 0 refl)) where
  unheard : (d : ℕ) → sets_at d (record { at = 0; what = what.Unheard } ∷ []) ≡ 0
  unheard d = sum_by-cons (λ (o : Outcome). cond {A = ℕ} ((o.at == d) && is_set o.what) 1 0) (record { at = 0; what = what.Unheard }) [] ∙ elim (0 == d) as (λ b. cond {A = ℕ} (b && false) 1 0 + 0 ≡ 0) [ true ↦ refl | false ↦ refl ]
kind-counts d v m (Some k) s e = delivery-counts d v m.vector (is_target (aim_of m) s.processors) (byte_of (aim_of m).at) s.warm k s.processors (of-vector (nat_lt m.mode 2) (m.mode == 2) (m.mode == 4) (m.mode == 7) e) where
  of-vector : (a b c f : Bool) → cond {A = Option Delivery} a (Some (sends.Fixed m.vector m.level)) (cond b (Some sends.Pass) (cond c (Some sends.Nmi) (cond f (Some sends.Pass) None))) ≡ Some k → IsOf m.vector k
  of-vector true b c f h = let same : sends.Fixed m.vector m.level ≡ k = cc in subst (IsOf m.vector) same refl
  of-vector false true c f h = let same : sends.Pass ≡ k = cc in subst (IsOf m.vector) same tt
  of-vector false false true f h = let same : sends.Nmi ≡ k = cc in subst (IsOf m.vector) same tt
  of-vector false false false true h = let same : sends.Pass ≡ k = cc in subst (IsOf m.vector) same tt
  of-vector false false false false h = cc

-- a step of an I/O APIC: only a send delivers
send-counts : (d v a pin : ℕ) (m : Option Message) (s : BoardState) → due_at a s ≡ m
    → cond {A = ℕ} (is_vector v (option_map (λ (x : Message). x.vector) m)) (sets_at d (send_outcomes m s)) 0 + requests d v s.processors ≡ requests d v (sent_message a m s).processors
send-counts d v a pin None s e = omega arith
send-counts d v a pin (Some m) s e = kind-counts d v m (kind_of m) s refl

-- one step of any agent
abbrev asks_in : ℕ → ℕ → Agent → Op → BoardState → ℕ
asks_in d v g o s = cond {A = ℕ} (is_vector v (vector_sent g o s)) (sets_at d (outcomes_of g o s)) 0

abbrev takes_in : ℕ → ℕ → Agent → Op → BoardState → ℕ
takes_in d v g o s = cond {A = ℕ} (is_cpu d g) (takes v (outcomes_of g o s)) 0

step-counts : (d v : ℕ) (g : Agent) (o : Op) (s : BoardState) → asks_in d v g o s + requests d v s.processors ≡ takes_in d v g o s + requests d v (after g o s).processors
step-counts d v (Cpu id) o s = omega (arith, cpu-counts d v id o s, advance-keeps d v id (effect_of_cpu id o s).processors)
step-counts d v (Dev n) (op.High a pin) s = omega arith
step-counts d v (Dev n) (op.Low a pin) s = omega arith
step-counts d v (Dev n) o s = omega arith
step-counts d v (Io a) (op.Collect pins) s = omega arith
step-counts d v (Io a) (op.Send pin) s = omega (arith, send-counts d v a pin (due_at a s) s refl)
step-counts d v (Io a) op.Sweep s = omega arith
step-counts d v (Io a) o s = omega arith

-- the same of an entry
entry-counts : (d v : ℕ) (s : BoardState) (x : Entry) → IsStep s x → sets_by d v s x + requests d v s.processors ≡ taken_in d v x + requests d v (after_entry s x).processors
entry-counts d v s x step =
    let asked : sets_by d v s x ≡ asks_in d v x.agent x.op s = ap (λ (os : List Outcome). cond {A = ℕ} (is_vector v (vector_sent x.agent x.op s)) (sets_at d os) 0) step.outcomes in
    let took : taken_in d v x ≡ takes_in d v x.agent x.op s = ap (λ (os : List Outcome). cond {A = ℕ} (is_cpu d x.agent) (takes v os) 0) step.outcomes in
    omega (arith, asked, took, step-counts d v x.agent x.op s)

-- a whole run
run-counts : (d v : ℕ) (s : BoardState) (xs : List Entry) → AreSteps s xs → sets_from d v s xs + requests d v s.processors ≡ sum_by (taken_in d v) xs + requests d v (fold after_entry s xs).processors
run-counts d v s [] steps = omega arith
run-counts d v s (x ∷ xs) steps =
    rw (sum_by-cons (taken_in d v) x xs) (omega (arith, entry-counts d v s x steps.0, run-counts d v (after_entry s x) xs steps.1))

-- no step changes an id
abbrev KeepsIds : (Processor → Processor) → Type 0
KeepsIds k = (p : Processor) → (k p).id ≡ p.id

abbrev pub ids : List Processor → List ℕ
ids ps = map (λ p. p.id) ps

map-ids : (k : Processor → Processor) (ps : List Processor) → KeepsIds k → ids (map k ps) ≡ ids ps
map-ids k [] keeps = refl
map-ids k (p ∷ ps) keeps = ap₂ (λ (i : ℕ) (l : List ℕ). i ∷ l) (keeps p) (map-ids k ps keeps)

change-ids : (id : ℕ) (k : Processor → Processor) (ps : List Processor) → KeepsIds k → ids (change_processor id k ps) ≡ ids ps
change-ids id k [] keeps = refl
change-ids id k (p ∷ ps) keeps = go (p.id == id) (change-ids id k ps keeps) where
  go : (b : Bool) → ids (change_processor id k ps) ≡ ids ps → ids (cond b (k p ∷ ps) (p ∷ change_processor id k ps)) ≡ ids (p ∷ ps)
  go true h = ap (λ (i : ℕ). i ∷ ids ps) (keeps p)
  go false h = ap (λ (l : List ℕ). p.id ∷ l) h

received-ids : (warm : Option ℕ) (m : Delivery) → KeepsIds (received warm m)
received-ids warm (sends.Fixed u level) p = elim (runs p.life) as (λ b. (cond b (record p { apic = accepted u level p.apic }) p).id ≡ p.id) [ true ↦ refl | false ↦ refl ]
received-ids warm sends.Nmi p = refl
received-ids warm sends.Pass p = refl
received-ids warm sends.Init p = refl
received-ids warm (sends.Startup page) p = refl

delivered-ids : (test : Processor → Bool) (warm : Option ℕ) (m : Delivery) (ps : List Processor) → ids (map (delivered_to warm test m) ps) ≡ ids ps
delivered-ids test warm m ps = map-ids (delivered_to warm test m) ps (λ p. elim (test p) as (λ b. (cond b (received warm m p) p).id ≡ p.id) [ true ↦ received-ids warm m p | false ↦ refl ])

cpu-ids : (id : ℕ) (o : Op) (s : BoardState) → ids (effect_of_cpu id o s).processors ≡ ids s.processors
cpu-ids id (op.Init dest) s = delivered-ids (is_target (to_id dest) s.processors) s.warm sends.Init s.processors
cpu-ids id (op.Startup dest page) s = delivered-ids (is_target (to_id dest) s.processors) s.warm (sends.Startup page) s.processors
cpu-ids id (op.Ipi dest u) s = delivered-ids (is_target (to_id dest) s.processors) s.warm (sends.Fixed u false) s.processors
cpu-ids id (op.Ipl dest u) s = delivered-ids (is_target (to_logical dest) s.processors) s.warm (sends.Fixed u false) s.processors
cpu-ids id (op.Nmi dest) s = delivered-ids (is_target (to_id dest) s.processors) s.warm sends.Nmi s.processors
cpu-ids id op.Take s = change-ids id (with_apic taken) s.processors (λ p. refl)
cpu-ids id op.Poll s = change-ids id (with_apic taken) s.processors (λ p. refl)
cpu-ids id op.Eoi s = change-ids id (with_apic after_end) s.processors (λ p. refl)
cpu-ids id (op.Tpr n) s = change-ids id (with_apic (λ a. record a { tpr = n })) s.processors (λ p. refl)
cpu-ids id (op.Ldr n) s = change-ids id (with_apic (λ a. record a { ldr = n })) s.processors (λ p. refl)
cpu-ids id (op.Dfr n) s = change-ids id (with_apic (λ a. record a { dfr = n })) s.processors (λ p. refl)
cpu-ids id o s = refl

kind-ids : (aim : Aim) (k : Option Delivery) (s : BoardState) → ids (deliver_kind aim k s).processors ≡ ids s.processors
kind-ids aim None s = refl
kind-ids aim (Some m) s = delivered-ids (is_target aim s.processors) s.warm m s.processors

send-ids : (a : ℕ) (m : Option Message) (s : BoardState) → ids (sent_message a m s).processors ≡ ids s.processors
send-ids a None s = refl
send-ids a (Some m) s = kind-ids (aim_of m) (kind_of m) s

step-ids : (g : Agent) (o : Op) (s : BoardState) → ids (after g o s).processors ≡ ids s.processors
step-ids (Cpu id) o s = change-ids id (λ p. record p { position = suc p.position }) (effect_of_cpu id o s).processors (λ p. refl) ∙ cpu-ids id o s
step-ids (Dev n) (op.High a pin) s = refl
step-ids (Dev n) (op.Low a pin) s = refl
step-ids (Dev n) o s = refl
step-ids (Io a) (op.Collect pins) s = refl
step-ids (Io a) (op.Send pin) s = send-ids a (due_at a s) s
step-ids (Io a) op.Sweep s = refl
step-ids (Io a) o s = refl

pub run-ids : (s : BoardState) (xs : List Entry) → ids (fold after_entry s xs).processors ≡ ids s.processors
run-ids s [] = refl
run-ids s (x ∷ xs) = run-ids (after_entry s x) xs ∙ step-ids x.agent x.op s

-- at first nothing is requested
first-requests : (d v boot : ℕ) (ps : List CpuPlan) → requests d v (map (first_processor boot) ps) ≡ 0
first-requests d v boot [] = refl
first-requests d v boot (p ∷ ps) =
    let none : cond {A = ℕ} ((p.id == d) && false) 1 0 ≡ 0 = elim (p.id == d) as (λ b. cond {A = ℕ} (b && false) 1 0 ≡ 0) [ true ↦ refl | false ↦ refl ] in
    rw (requests-cons d v (first_processor boot p) (map (first_processor boot) ps)) (omega (arith, none, first-requests d v boot ps))

pub first-ids : (boot : ℕ) (ps : List CpuPlan) → ids (map (first_processor boot) ps) ≡ map (λ p. p.id) ps
first-ids boot [] = refl
first-ids boot (p ∷ ps) = ap (λ (l : List ℕ). p.id ∷ l) (first-ids boot ps)

-- every vector that was set was taken, or is still requested
pub accounted : (c : Plan) (journal : List Entry) → IsConfig c → IsLegal c journal → IsAccounted c journal
accounted c journal is legal d v =
    let s : BoardState = initial_state_of c in
    let up : IsAscending (ids (fold after_entry s journal).processors) = subst IsAscending (sym (run-ids s journal ∙ first-ids c.boot c.cpus)) is.ascending in
    omega (arith, run-counts d v s journal legal, first-requests d v c.boot c.cpus, requests-of_one d v (fold after_entry s journal).processors up)
