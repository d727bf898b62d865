-- The opening state, and the boot processor, which never stops running.
use Rattle.std.proofs.Common.{◌≡◌, ◌≢◌, ◌==◌, ℕ, suc, Bool, true, false, cond, ◌||◌, List, [], ◌∷◌, map, arith, refl, sym, ap, ◌∙◌, Some, subst, fold}
use Rattle.std.specs.List.{Contains}
use Rattle.std.proofs.lemmas.Bool.{eq-eqb, ne_eqb, eqb-true}
use Rattle.mpb_spec.specs.declared.config.Life.TheVariants as life
use Rattle.mpb_spec.specs.declared.entry.Entry.{Entry}
use Rattle.mpb_spec.specs.Numbers.{has, IsAscending}
use Rattle.mpb_spec.specs.State.{Processor, BoardState, processor_of}
use Rattle.mpb_spec.specs.Plan.{Plan, CpuPlan, initial_state_of, first_processor}
use Rattle.mpb_spec.specs.Configs.{IsConfig}
use Rattle.mpb_spec.specs.Journal.{after_entry, final_state_of}
use Rattle.mpb_start_laws.proofs.Processors.{found_plan}
use Rattle.mpb_start_laws.proofs.Calls.{call_at, life_after}
use Rattle.mpb_spec.proofs.PlansStay.{plan_of, plans_of, first_plans}
use Rattle.mpb_start_laws.proofs.LifeSteps.{step_goes}
use Rattle.mpb_start_laws.proofs.LivesGoOn.{first_stays}

-- a processor at first
first-is : (boot d : ℕ) (cs : List CpuPlan) (p : Processor) → processor_of d (map (first_processor boot) cs) ≡ Some p → p ≡ first_processor boot (plan_of p)
first-is boot d [] p e = cc
first-is boot d (c ∷ cs) p e = go (c.id == d) e (first-is boot d cs p) where
  go : (b : Bool) → cond b (Some (first_processor boot c)) (processor_of d (map (first_processor boot) cs)) ≡ Some p → (processor_of d (map (first_processor boot) cs) ≡ Some p → p ≡ first_processor boot (plan_of p)) → p ≡ first_processor boot (plan_of p)
  go true e rest =
      let same : first_processor boot c ≡ p = cc in
      subst (λ (x : Processor). x ≡ first_processor boot (plan_of x)) same refl
  go false e rest = rest e

-- each processor of the plan
pub first_found : (c : Plan) (q : CpuPlan) → IsAscending (map (λ p. p.id) c.cpus) → Contains c.cpus q → processor_of q.id (initial_state_of c).processors ≡ Some (first_processor c.boot q)
first_found c q up in_plan =
    let plans : plans_of (map (first_processor c.boot) c.cpus) ≡ c.cpus = first_plans c.boot c.cpus in
    let h = found_plan (map (first_processor c.boot) c.cpus) q (subst (λ (l : List CpuPlan). IsAscending (map (λ p. p.id) l)) (sym plans) up) (subst (λ (l : List CpuPlan). Contains l q) (sym plans) in_plan) in
    let is : h.0 ≡ first_processor c.boot q = first-is c.boot q.id c.cpus h.0 h.1 ∙ ap (first_processor c.boot) h.2 in
    subst (λ (x : Processor). processor_of q.id (map (first_processor c.boot) c.cpus) ≡ Some x) is h.1

pub first_life : (c : Plan) (q : CpuPlan) → q.id ≡ c.boot → (first_processor c.boot q).life ≡ life.First
first_life c q e = rw (eq-eqb q.id c.boot e) refl

pub other_life : (c : Plan) (q : CpuPlan) → q.id ≢ c.boot → (first_processor c.boot q).life ≡ life.Asleep
other_life c q ne = rw (ne_eqb q.id c.boot ne) refl

-- there is a boot processor
pub boot_plan : (boot : ℕ) (cs : List CpuPlan) → has boot (map (λ p. p.id) cs) ≡ true → (b : CpuPlan) × (Contains cs b) × (b.id ≡ boot)
boot_plan boot [] e = cc
boot_plan boot (c ∷ cs) e = go (c.id == boot) refl e (boot_plan boot cs) where
  go : (t : Bool) → (c.id == boot) ≡ t → (t || has boot (map (λ p. p.id) cs)) ≡ true → (has boot (map (λ p. p.id) cs) ≡ true → (b : CpuPlan) × (Contains cs b) × (b.id ≡ boot)) → (b : CpuPlan) × (Contains (c ∷ cs) b) × (b.id ≡ boot)
  go true t e rest = (c, (0, omega arith, refl), eqb-true c.id boot t)
  go false t e rest = let h = rest e in (h.0, (suc h.1.0, omega (arith, h.1.1), h.1.2), h.2)

-- over a run a processor keeps its plan, and one that is First stays so
pub run_keeps : (d : ℕ) (s : BoardState) (xs : List Entry) (p : Processor) → processor_of d s.processors ≡ Some p → p.life ≡ life.First
    → (q : Processor) × (processor_of d (fold after_entry s xs).processors ≡ Some q) × (plan_of q ≡ plan_of p) × (q.life ≡ life.First)
run_keeps d s [] p e first = (p, e, refl, first)
run_keeps d s (x ∷ xs) p e first =
    let goes = step_goes s d x.agent x.op p e in
    let life = goes.life ∙ ap (life_after s.warm p.version (call_at d x.agent x.op)) first ∙ first_stays p.version s.warm (call_at d x.agent x.op) in
    let rest = run_keeps d (after_entry s x) xs goes.now goes.found life in
    (rest.0, rest.1, rest.2 ∙ goes.plan, rest.3)

-- the boot processor at the end of a journal
pub record IsBootAt (c : Plan) (s : BoardState) (b : CpuPlan) : Type 0 where
  pub in_plan : Contains c.cpus b
  pub id : b.id ≡ c.boot
  pub now : Processor
  pub found : processor_of c.boot s.processors ≡ Some now
  pub plan : plan_of now ≡ b
  pub life : now.life ≡ life.First

pub boot_at : (c : Plan) (journal : List Entry) → IsConfig c → (b : CpuPlan) × IsBootAt c (final_state_of c journal) b
boot_at c journal is =
    let b = boot_plan c.boot c.cpus is.boot in
    let at = first_found c b.0 is.ascending b.1 in
    let h = run_keeps b.0.id (initial_state_of c) journal (first_processor c.boot b.0) at (first_life c b.0 b.2) in (
      b.0,
      record {
        in_plan = b.1;
        id = b.2;
        now = h.0;
        found = subst (λ (i : ℕ). processor_of i (final_state_of c journal).processors ≡ Some h.0) b.2 h.1;
        plan = h.2;
        life = h.3;
      },
    )
