-- The start of one processor, over a legal journal: its life follows how far the boot processor is in its program.
use Rattle.std.proofs.Common.{◌≡◌, ℕ, ◌+◌, ◌<◌, ◌≤◌, Bool, true, false, cond, List, [], ◌∷◌, refl, sym, ap, ◌∙◌, arith, Option, Some, None, slice_get, nat_le, inl, inr, subst, fold}
use Rattle.std.specs.List.{AllByRecursion, Contains}
use Rattle.std.proofs.lemmas.Bool.{eqb-true, cases_lt}
use Rattle.mpb_spec.specs.declared.agent.Agent.{Agent}
use Rattle.mpb_spec.specs.declared.agent.Agent.TheVariants.{Cpu, Io, Dev}
use Rattle.mpb_spec.specs.declared.agent.Offer.{Offer}
use Rattle.mpb_spec.specs.declared.agent.Op.{Op}
use Rattle.mpb_spec.specs.declared.config.Life.{Life}
use Rattle.mpb_spec.specs.declared.entry.Entry.{Entry}
use Rattle.mpb_spec.specs.State.{Processor, BoardState, runs, processor_of, op_at}
use Rattle.mpb_spec.specs.Steps.{next_op, after}
use Rattle.mpb_spec.specs.Plan.{Plan, CpuPlan}
use Rattle.mpb_spec.specs.Configs.{IsAtPage}
use Rattle.mpb_spec.specs.Journal.{AreSteps, after_entry}
use Rattle.mpb_spec.specs.Requests.{is_cpu}
use Rattle.mpb_spec.proofs.Kept.{kept_op}
use Rattle.mpb_spec.proofs.May.{may_advance_cpu}
use Rattle.mpb_start_laws.proofs.Lists.{member, read_member}
use Rattle.mpb_start_laws.proofs.Processors.{found_in}
use Rattle.mpb_start_laws.proofs.Calls.{call_at, life_after}
use Rattle.mpb_spec.proofs.PlansStay.{plan_of, plans_of, step_plans}
use Rattle.mpb_start_laws.proofs.LifeSteps.{own, step_goes}
use Rattle.mpb_start_laws.proofs.LivesGoOn.{warm_after, step_warm, IsWarmAt, NamesPage, warm_stays_at, IsLifeOf, life_stays_lawful, is_ready, ready_stays, running_stays, early_op, late_op, early_readies, late_starts}

-- the op that a processor makes is the one at its position
pub op_is_there : (s : BoardState) (id : ℕ) (f : Offer) (o : Op) (p : Processor) → next_op s (Cpu id) f ≡ Some o → processor_of id s.processors ≡ Some p → slice_get p.program p.position ≡ Some o
op_is_there s id f o p may e = subst (λ (r : Option Processor). op_at r ≡ Some o) e (sym (kept_op id o s) ∙ may_advance_cpu s (Cpu id) id f o refl may)

-- the processor that makes it is there
pub maker : (s : BoardState) (id : ℕ) (f : Offer) (o : Op) → next_op s (Cpu id) f ≡ Some o → (p : Processor) × (processor_of id s.processors ≡ Some p)
maker s id f o may = go (processor_of id s.processors) refl (sym (kept_op id o s) ∙ may_advance_cpu s (Cpu id) id f o refl may) where
  go : (r : Option Processor) → processor_of id s.processors ≡ r → op_at r ≡ Some o → (p : Processor) × (processor_of id s.processors ≡ Some p)
  go None w e = cc
  go (Some p) w e = (p, w)

-- the two ops of the pair, by the processor's version
abbrev pub is_new : CpuPlan → Bool
is_new r = nat_le 16 r.version

-- what the config says: processor b has the pair of ops that starts processor r
pub record Starts (page early late : ℕ) (c : Plan) (b r : CpuPlan) : Type 0 where
  pub named : AllByRecursion (λ p. AllByRecursion (IsAtPage page) p.program) c.cpus
  pub early_at : slice_get b.program early ≡ Some (early_op (is_new r) r.id page)
  pub late_at : slice_get b.program late ≡ Some (late_op (is_new r) r.id page)
  pub order : early < late

-- the state: past the first op of the pair r is ready, past the second it runs
pub record IsUnderWay (page early late : ℕ) (c : Plan) (b r : CpuPlan) (s : BoardState) : Type 0 where
  pub plans : plans_of s.processors ≡ c.cpus
  pub warm : IsWarmAt page s.warm
  pub first : Processor
  pub first_found : processor_of b.id s.processors ≡ Some first
  pub first_plan : plan_of first ≡ b
  pub other : Processor
  pub other_found : processor_of r.id s.processors ≡ Some other
  pub other_plan : plan_of other ≡ r
  pub other_life : IsLifeOf page r.version other.life
  pub ready : early < first.position → is_ready (is_new r) s.warm other.life ≡ true
  pub running : late < first.position → runs other.life ≡ true

-- the op of a step names no other page
names : (page : ℕ) (c : Plan) (s : BoardState) (g : Agent) (f : Offer) (o : Op) → AllByRecursion (λ p. AllByRecursion (IsAtPage page) p.program) c.cpus → plans_of s.processors ≡ c.cpus → next_op s g f ≡ Some o → NamesPage page g o
names page c s (Cpu id) f o named plans may =
    let p = maker s id f o may in
    let mine : AllByRecursion (IsAtPage page) p.0.program = member (λ (x : CpuPlan). AllByRecursion (IsAtPage page) x.program) c.cpus (plan_of p.0) named (subst (λ (l : List CpuPlan). Contains l (plan_of p.0)) plans (found_in id s.processors p.0 p.1)) in
    read_member (IsAtPage page) p.0.program p.0.position o mine (op_is_there s id f o p.0 may p.1)
names page c s (Dev n) f o named plans may = tt
names page c s (Io a) f o named plans may = tt

pub is_own : (d : ℕ) (g : Agent) → is_cpu d g ≡ true → g ≡ Cpu d
is_own d (Cpu id) e = ap Cpu (eqb-true id d e)
is_own d (Dev n) e = cc
is_own d (Io a) e = cc

-- b is one op further, where the step is its own
own-op : (s : BoardState) (d n : ℕ) (ops : List Op) (g : Agent) (f : Offer) (o : Op) (p : Processor) → next_op s g f ≡ Some o → processor_of d s.processors ≡ Some p → p.program ≡ ops → p.position ≡ n → is_cpu d g ≡ true → slice_get ops n ≡ Some o
own-op s d n ops g f o p may found program position e =
    let mine : next_op s (Cpu d) f ≡ Some o = subst (λ (x : Agent). next_op s x f ≡ Some o) (is_own d g e) may in
    rw (← program, ← position) (op_is_there s d f o p mine found)

ready-next : (page early : ℕ) (b r : CpuPlan) (g : Agent) (o : Op) (n : ℕ) (w : Option ℕ) (l : Life) → slice_get b.program early ≡ Some (early_op (is_new r) r.id page)
    → (is_cpu b.id g ≡ true → slice_get b.program n ≡ Some o) → (early < n → is_ready (is_new r) w l ≡ true) → early < n + own b.id g → is_ready (is_new r) (warm_after g o w) (life_after w r.version (call_at r.id g o) l) ≡ true
ready-next page early b r g o n w l at there was past = elim (cases_lt early n) [
  | inl lt ↦ ready_stays (is_new r) r.version r.id g o w l (was lt)
  | inr le ↦ go (is_cpu b.id g) refl le past
] where
  go : (t : Bool) → is_cpu b.id g ≡ t → n ≤ early → early < n + cond t 1 0 → is_ready (is_new r) (warm_after g o w) (life_after w r.version (call_at r.id g o) l) ≡ true
  go false e le past = absurd (omega (arith, le, past))
  go true e le past =
      let here : n ≡ early = omega (arith, le, past) in
      let read : slice_get b.program early ≡ Some o = subst (λ (i : ℕ). slice_get b.program i ≡ Some o) here (there e) in
      let op_is : early_op (is_new r) r.id page ≡ o = cc in
      subst (λ (x : Agent). is_ready (is_new r) (warm_after x o w) (life_after w r.version (call_at r.id x o) l) ≡ true) (sym (is_own b.id g e))
      (subst (λ (x : Op). is_ready (is_new r) (warm_after (Cpu b.id) x w) (life_after w r.version (call_at r.id (Cpu b.id) x) l) ≡ true) op_is (early_readies r.version r.id page b.id w l))

running-next : (page early late : ℕ) (b r : CpuPlan) (g : Agent) (o : Op) (n : ℕ) (w : Option ℕ) (l : Life) → slice_get b.program late ≡ Some (late_op (is_new r) r.id page) → early < late
    → (is_cpu b.id g ≡ true → slice_get b.program n ≡ Some o) → (early < n → is_ready (is_new r) w l ≡ true) → IsLifeOf page r.version l → (late < n → runs l ≡ true) → late < n + own b.id g → runs (life_after w r.version (call_at r.id g o) l) ≡ true
running-next page early late b r g o n w l at order there ready lawful was past = elim (cases_lt late n) [
  | inl lt ↦ running_stays r.version r.id g o w l (was lt)
  | inr le ↦ go (is_cpu b.id g) refl le past
] where
  go : (t : Bool) → is_cpu b.id g ≡ t → n ≤ late → late < n + cond t 1 0 → runs (life_after w r.version (call_at r.id g o) l) ≡ true
  go false e le past = absurd (omega (arith, le, past))
  go true e le past =
      let here : n ≡ late = omega (arith, le, past) in
      let read : slice_get b.program late ≡ Some o = subst (λ (i : ℕ). slice_get b.program i ≡ Some o) here (there e) in
      let op_is : late_op (is_new r) r.id page ≡ o = cc in
      let is : is_ready (is_new r) w l ≡ true = ready (omega (arith, here, order)) in
      subst (λ (x : Agent). runs (life_after w r.version (call_at r.id x o) l) ≡ true) (sym (is_own b.id g e))
      (subst (λ (x : Op). runs (life_after w r.version (call_at r.id (Cpu b.id) x) l) ≡ true) op_is (late_starts r.version r.id page b.id w l is lawful))

-- one step
goes-on : (page early late : ℕ) (c : Plan) (b r : CpuPlan) (s : BoardState) (g : Agent) (f : Offer) (o : Op) → Starts page early late c b r → IsUnderWay page early late c b r s → next_op s g f ≡ Some o → IsUnderWay page early late c b r (after g o s)
goes-on page early late c b r s g f o starts is may =
    let t : BoardState = after g o s in
    let plans : plans_of t.processors ≡ c.cpus = step_plans g o s ∙ is.plans in
    let named : NamesPage page g o = names page c s g f o starts.named is.plans may in
    let one = step_goes s b.id g o is.first is.first_found in
    let two = step_goes s r.id g o is.other is.other_found in
    let version : is.other.version ≡ r.version = ap (λ (x : CpuPlan). x.version) is.other_plan in
    let warm : t.warm ≡ warm_after g o s.warm = step_warm g o s in
    let life : two.now.life ≡ life_after s.warm r.version (call_at r.id g o) is.other.life = subst (λ (v : ℕ). two.now.life ≡ life_after s.warm v (call_at r.id g o) is.other.life) version two.life in
    let program : is.first.program ≡ b.program = ap (λ (x : CpuPlan). x.program) is.first_plan in
    let there : is_cpu b.id g ≡ true → slice_get b.program is.first.position ≡ Some o = own-op s b.id is.first.position b.program g f o is.first may is.first_found program refl in
    record {
      plans = plans;
      warm = subst (IsWarmAt page) (sym warm) (warm_stays_at page g o s.warm named is.warm);
      first = one.now;
      first_found = one.found;
      first_plan = one.plan ∙ is.first_plan;
      other = two.now;
      other_found = two.found;
      other_plan = two.plan ∙ is.other_plan;
      other_life = subst (IsLifeOf page r.version) (sym life) (life_stays_lawful page r.version r.id g o s.warm is.other.life named is.warm is.other_life);
      ready = λ past. rw (warm, life) (ready-next page early b r g o is.first.position s.warm is.other.life starts.early_at there is.ready (omega (arith, past, one.position)));
      running = λ past. rw life (running-next page early late b r g o is.first.position s.warm is.other.life starts.late_at starts.order there is.ready is.other_life is.running (omega (arith, past, one.position)));
    }

-- a run
pub run_goes_on : (page early late : ℕ) (c : Plan) (b r : CpuPlan) (s : BoardState) (xs : List Entry) → Starts page early late c b r → IsUnderWay page early late c b r s → AreSteps s xs → IsUnderWay page early late c b r (fold after_entry s xs)
run_goes_on page early late c b r s [] starts is steps = is
run_goes_on page early late c b r s (x ∷ xs) starts is steps = run_goes_on page early late c b r (after_entry s x) xs starts (goes-on page early late c b r s x.agent steps.0.offer x.op starts is steps.0.may) steps.1
