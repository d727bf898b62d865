-- A run in which each agent of the board is stuck is at its end: no agent may step.
use Rattle.std.proofs.Common.{◌≡◌, ◌==◌, ℕ, zero, suc, ◌+◌, ◌<◌, ◌≤◌, inl, inr, Bool, true, false, not, cond, ◌&&◌, List, [], ◌∷◌, ◌++◌, length, map, get_or, refl, sym, ap, ◌∙◌, subst, arith, Option, Some, None, slice_get, count_by}
use Rattle.std.specs.List.{AllByRecursion, range_with_len, list_all}
use Rattle.std.proofs.lemmas.Bool.{and_from, and_parts, le-leb, eqb-true, cases_lt}
use Rattle.std.proofs.lemmas.List.Sums.{sum_by-cons}
use Rattle.mpb_spec.specs.declared.agent.Agent.{Agent}
use Rattle.mpb_spec.specs.declared.agent.Agent.TheVariants.{Cpu, Io, Dev}
use Rattle.mpb_spec.specs.declared.agent.Offer.{Offer}
use Rattle.mpb_spec.specs.declared.agent.Offer.TheVariants as offer
use Rattle.mpb_spec.specs.declared.agent.Op.{Op}
use Rattle.mpb_spec.specs.declared.agent.Op.TheVariants as op
use Rattle.mpb_spec.specs.State.{Processor, Place, Device, processor_of, boot_is_through, all_ended}
use Rattle.mpb_spec.specs.Steps.{next_op, op_of_processor, op_of_device, op_of_place, unless_early}
use Rattle.mpb_spec.specs.Plan.{CpuPlan}
use Rattle.mpb_spec.specs.May.{IsQuiescent}
use Rattle.mpb_spec.proofs.StateLemmas.{got_within, got_beyond}
use Rattle.mpb_laws.proofs.PartsStay.{ids_stay, places_stay, devices_stay}
use Rattle.mpb_robin.specs.declared.act.Act.TheVariants as act
use Rattle.mpb_robin.specs.RoundRobin.{Run, state_in, acts_of}
use Rattle.mpb_spec.specs.Agents.{agents_of}
use Rattle.mpb_robin.specs.Rest.{IsRun, is_over}
use Rattle.mpb_robin.proofs.DeviceActs.{next_op_is, done_is_over}
use Rattle.mpb_robin.proofs.Places.{is-there}
use Rattle.mpb_robin.proofs.Turns.{IsStuck}

-- ---- what holds of all agents holds of each

parts : {X : Type 0} (P : X → Type 0) (xs ys : List X) → AllByRecursion P (xs ++ ys) → AllByRecursion P xs × AllByRecursion P ys
parts P [] ys all = (tt, all)
parts P (x ∷ xs) ys all = let rest = parts P xs ys all.1 in ((all.0, rest.0), rest.1)

numbered : {X : Type 0} (P : X → Type 0) (h : ℕ → X) (k n i : ℕ) → i < n → AllByRecursion P (map h (range_with_len k n)) → P (h (k + i))
numbered P h k zero i lt all = absurd (omega (arith, lt))
numbered P h k (suc n) zero lt all = subst (λ (j : ℕ). P (h j)) (omega arith) all.0
numbered P h k (suc n) (suc i) lt all = subst (λ (j : ℕ). P (h j)) (omega arith) (numbered P h (k + 1) n i (omega (arith, lt)) all.1)

zero_more : (n : ℕ) → 0 + n ≡ n
zero_more n = omega arith

named : (P : Agent → Type 0) (id : ℕ) (ps : List Processor) (cs : List CpuPlan) (q : Processor) → map (λ p. p.id) ps ≡ map (λ p. p.id) cs → processor_of id ps ≡ Some q → AllByRecursion P (map (λ p. Cpu p.id) cs) → P (Cpu id)
named P id [] cs q same at all = cc
named P id (p ∷ ps) [] q same at all = cc
named P id (p ∷ ps) (c ∷ cs) q same at all =
    let head : p.id ≡ c.id = cc in
    let tail : map (λ (p : Processor). p.id) ps ≡ map (λ (p : CpuPlan). p.id) cs = cc in
    go (p.id == id) refl at head (λ rest. named P id ps cs q tail rest all.1) where
      go : (b : Bool) → (p.id == id) ≡ b → cond b (Some p) (processor_of id ps) ≡ Some q → p.id ≡ c.id → (processor_of id ps ≡ Some q → P (Cpu id)) → P (Cpu id)
      go true e at head rest = subst (λ (j : ℕ). P (Cpu j)) (sym head ∙ eqb-true p.id id e) all.0
      go false e at head rest = rest at

-- all agents of the board are stuck
pub record AllStuck (r : Run) : Type 0 where
  pub cpus : AllByRecursion (λ g. IsStuck g r) (map (λ p. Cpu p.id) r.plan.cpus)
  pub ios : (a : ℕ) → a < length r.plan.ios → IsStuck (Io a) r
  pub devices : (d : ℕ) → d < length r.plan.devices → IsStuck (Dev d) r

pub all_stuck : (r : Run) → AllByRecursion (λ g. IsStuck g r) (agents_of r.plan) → AllStuck r
all_stuck r all =
    let cpus = parts (λ (g : Agent). IsStuck g r) (map (λ (p : CpuPlan). Cpu p.id) r.plan.cpus) (map Io (range_with_len 0 (length r.plan.ios)) ++ map Dev (range_with_len 0 (length r.plan.devices))) all in
    let rest = parts (λ (g : Agent). IsStuck g r) (map Io (range_with_len 0 (length r.plan.ios))) (map Dev (range_with_len 0 (length r.plan.devices))) cpus.1 in
    record {
      cpus = cpus.0;
      ios = λ a lt. subst (λ (j : ℕ). IsStuck (Io j) r) (zero_more a) (numbered (λ (g : Agent). IsStuck g r) Io 0 (length r.plan.ios) a lt rest.0);
      devices = λ d lt. subst (λ (j : ℕ). IsStuck (Dev j) r) (zero_more d) (numbered (λ (g : Agent). IsStuck g r) Dev 0 (length r.plan.devices) d lt rest.1);
    }

-- ---- devices

pub none_beyond : {X : Type 0} (n : ℕ) (xs : List X) → slice_get xs n ≡ None → length xs ≤ n
none_beyond n xs e = elim (cases_lt n (length xs)) [ inl lt ↦ (let x = is-there n xs lt in let same : None ≡ Some x.0 = sym e ∙ x.1 in cc) | inr le ↦ le ]

-- a device that is stuck is at its end, once the boot program is through
over-at : (r : Run) (d : ℕ) (v : Device) → IsRun r → slice_get (state_in r).devices d ≡ Some v → boot_is_through (state_in r) ≡ true → IsStuck (Dev d) r → v.position ≡ length v.program
over-at r d v is at through (inl none) =
    done_is_over (acts_of (get_or r.plan.devices d [])) (get_or r.made d 0) (get_or r.logs d []) v (is.each d v at) (none_beyond (get_or r.made d 0) (acts_of (get_or r.plan.devices d [])) none)
over-at r d v is at through (inr early) =
    let program = next_op_is (acts_of (get_or r.plan.devices d [])) (get_or r.made d 0) (get_or r.logs d []) v act.Begin op.Begin (is.each d v at) early.0 refl in
    let begin : next_op (state_in r) (Dev d) offer.Next ≡ Some op.Begin =
    ap (λ q. op_of_device (boot_is_through (state_in r)) q) at ∙ ap (λ q. unless_early (boot_is_through (state_in r)) q) program ∙ ap (λ (t : Bool). cond t (Some op.Begin) None) through in
    let off : None ≡ Some op.Begin = sym early.1 ∙ begin in
    cc

pub all_from : {X : Type 0} (f : X → Bool) (xs : List X) → ((n : ℕ) (x : X) → slice_get xs n ≡ Some x → f x ≡ true) → list_all f xs ≡ true
all_from f [] each = refl
all_from f (x ∷ xs) each = and_from (f x) (list_all f xs) (each 0 x refl) (all_from f xs (λ n y at. each (suc n) y at))

counted : {X : Type 0} (f : X → Bool) (xs : List X) → list_all f xs ≡ true → count_by f xs ≡ length xs
counted f [] all = refl
counted {X = X} f (x ∷ xs) all =
    let both = and_parts (f x) (list_all f xs) all in
    let one : cond {A = ℕ} (f x) 1 0 ≡ 1 = ap (λ (b : Bool). cond {A = ℕ} b 1 0) both.0 in
    rw (sum_by-cons (λ (y : X). cond {A = ℕ} (f y) 1 0) x xs) (omega (arith, one, counted f xs both.1))

-- where all devices are at their ends, the latch has as many ends
pub latch_is_full : (r : Run) → IsRun r → all_ended (state_in r) ≡ true → r.latch.ended ≡ r.latch.devices
latch_is_full r is over = omega (arith, is.ended, counted is_over (state_in r).devices over, devices_stay r.plan r.journal, is.total)

all_over : (r : Run) → IsRun r → AllStuck r → boot_is_through (state_in r) ≡ true → all_ended (state_in r) ≡ true
all_over r is stuck through = all_from is_over (state_in r).devices (λ d v at.
    let end = over-at r d v is at through (stuck.devices d (omega (arith, got_within d (state_in r).devices v at, devices_stay r.plan r.journal))) in
    le-leb (length v.program) v.position (omega (arith, end)))

-- ---- an I/O APIC

-- nothing to sweep though all devices are at their ends: it has swept, and can collect nothing
pub swept : (t v : Bool) (p : Place) → v ≡ true → op_of_place t v offer.Sweep (Some p) ≡ None → p.swept ≡ true
swept t v p over none = go p.swept v over none where
  go : (w v : Bool) → v ≡ true → cond (not w && v) (Some op.Sweep) None ≡ None → w ≡ true
  go true v over none = refl
  go false true over none = cc
  go false false over none = cc

no-collect : (t v : Bool) (p : Place) (pins : ℕ) → (t ≡ true → p.swept ≡ true) → op_of_place t v (offer.Collect pins) (Some p) ≡ None
no-collect false v p pins through = refl
no-collect true v p pins through = rw (through refl) refl

no-sweep : (t v : Bool) (p : Place) → (v ≡ true → op_of_place t v offer.Sweep (Some p) ≡ None) → op_of_place t v offer.Sweep (Some p) ≡ None
no-sweep t true p none = none refl
no-sweep t false p none = go p.swept where
  go : (w : Bool) → cond (not w && false) (Some op.Sweep) None ≡ None
  go true = refl
  go false = refl

place-idle : (t v : Bool) (p : Place) → op_of_place t v offer.Next (Some p) ≡ None → (v ≡ true → op_of_place t v offer.Sweep (Some p) ≡ None) → (t ≡ true → v ≡ true) → (f : Offer) → op_of_place t v f (Some p) ≡ None
place-idle t v p next sweep over offer.Next = next
place-idle t v p next sweep over offer.Sweep = no-sweep t v p sweep
place-idle t v p next sweep over (offer.Collect pins) = no-collect t v p pins (λ through. swept t v p (over through) (sweep (over through)))

-- ---- all agents

pub stuck_is_quiet : (r : Run) → IsRun r → AllStuck r → IsQuiescent (state_in r)
stuck_is_quiet r is stuck = idle where
  cpu : (id : ℕ) (x : Option Processor) → processor_of id (state_in r).processors ≡ x → op_of_processor (processor_of id (state_in r).processors) ≡ None
  cpu id None at = ap op_of_processor at
  cpu id (Some p) at = named (λ (g : Agent). IsStuck g r) id (state_in r).processors r.plan.cpus p (ids_stay r.plan r.journal) at stuck.cpus

  stopped : (t : Bool) (o : Option Op) → o ≡ None → unless_early t o ≡ None
  stopped t None e = refl
  stopped t (Some o) e = cc

  over : (v : Device) → v.position ≡ length v.program → slice_get v.program v.position ≡ None
  over v e = got_beyond v.position v.program (omega (arith, e))

  device-stuck : (d : ℕ) (v : Device) → slice_get (state_in r).devices d ≡ Some v → IsStuck (Dev d) r → op_of_device (boot_is_through (state_in r)) (slice_get (state_in r).devices d) ≡ None
  device-stuck d v at (inl none) =
      let end = done_is_over (acts_of (get_or r.plan.devices d [])) (get_or r.made d 0) (get_or r.logs d []) v (is.each d v at) (none_beyond (get_or r.made d 0) (acts_of (get_or r.plan.devices d [])) none) in
      ap (λ q. op_of_device (boot_is_through (state_in r)) q) at ∙ stopped (boot_is_through (state_in r)) (slice_get v.program v.position) (over v end)
  device-stuck d v at (inr early) = early.1

  device : (d : ℕ) (x : Option Device) → slice_get (state_in r).devices d ≡ x → op_of_device (boot_is_through (state_in r)) (slice_get (state_in r).devices d) ≡ None
  device d None at = ap (λ q. op_of_device (boot_is_through (state_in r)) q) at
  device d (Some v) at = device-stuck d v at (stuck.devices d (omega (arith, got_within d (state_in r).devices v at, devices_stay r.plan r.journal)))

  place : (a : ℕ) (x : Option Place) → slice_get (state_in r).places a ≡ x → (f : Offer) → op_of_place (boot_is_through (state_in r)) (all_ended (state_in r)) f (slice_get (state_in r).places a) ≡ None
  place a None at f = ap (λ q. op_of_place (boot_is_through (state_in r)) (all_ended (state_in r)) f q) at
  place a (Some p) at f =
      let here = stuck.ios a (omega (arith, got_within a (state_in r).places p at, places_stay r.plan r.journal)) in
      let back : (f : Offer) → op_of_place (boot_is_through (state_in r)) (all_ended (state_in r)) f (Some p) ≡ op_of_place (boot_is_through (state_in r)) (all_ended (state_in r)) f (slice_get (state_in r).places a) =
      λ f. sym (ap (λ q. op_of_place (boot_is_through (state_in r)) (all_ended (state_in r)) f q) at) in
      ap (λ q. op_of_place (boot_is_through (state_in r)) (all_ended (state_in r)) f q) at
      ∙ place-idle (boot_is_through (state_in r)) (all_ended (state_in r)) p (back offer.Next ∙ here.0) (λ full. back offer.Sweep ∙ here.1 (latch_is_full r is full)) (all_over r is stuck) f

  idle : (g : Agent) (f : Offer) → next_op (state_in r) g f ≡ None
  idle (Cpu id) offer.Next = cpu id (processor_of id (state_in r).processors) refl
  idle (Cpu id) (offer.Collect pins) = refl
  idle (Cpu id) offer.Sweep = refl
  idle (Dev d) offer.Next = device d (slice_get (state_in r).devices d) refl
  idle (Dev d) (offer.Collect pins) = refl
  idle (Dev d) offer.Sweep = refl
  idle (Io a) f = place a (slice_get (state_in r).places a) refl f
