-- What a journal tells of a processor's starts is what its life is at the end.
use Rattle.std.proofs.Common.{true, false, cond, ◌≡◌, ◌==◌, ℕ, List, [], ◌∷◌, ◌++◌, map, refl, sym, ap, ◌∙◌, append_assoc, Some, subst, fold}
use Rattle.mpb_spec.specs.declared.entry.Entry.{Entry}
use Rattle.mpb_spec.specs.declared.config.Life.{Life}
use Rattle.mpb_spec.specs.declared.config.Life.TheVariants as life
use Rattle.mpb_spec.specs.Numbers.{IsAscending}
use Rattle.mpb_spec.specs.State.{Processor, BoardState, processor_of}
use Rattle.std.specs.List.{Contains}
use Rattle.mpb_spec.specs.Plan.{Plan, CpuPlan, initial_state_of, first_processor}
use Rattle.mpb_spec.specs.Configs.{IsConfig}
use Rattle.mpb_start_laws.proofs.Opening.{first_found}
use Rattle.mpb_spec.specs.Journal.{AreSteps, IsStep, IsLegal, after_entry, final_state_of}
use Rattle.mpb_start_laws.specs.Starts.{pages_at, starts_at}
use Rattle.mpb_start_laws.proofs.Processors.{same_found, found_id, found_in, found_member}
use Rattle.mpb_start_laws.specs.Starts.{life_pages}
use Rattle.mpb_start_laws.proofs.Calls.{told_after, call_at, life_after}
use Rattle.mpb_start_laws.proofs.StartPages.{step_pages}
use Rattle.mpb_spec.proofs.PlansStay.{plan_of, plans_of, step_plans, plans_stay, first_plans}
use Rattle.mpb_start_laws.proofs.LifeSteps.{step_goes}

nothing-more : (l : Life) → life_pages l ≡ life_pages l ++ []
nothing-more life.Asleep = refl
nothing-more life.Waiting = refl
nothing-more (life.Started page) = refl
nothing-more life.First = refl

-- the ids of processors are those of their plans
ids-of : (ps : List Processor) → map (λ p. p.id) (plans_of ps) ≡ map (λ p. p.id) ps
ids-of [] = refl
ids-of (p ∷ ps) = ap (λ (l : List ℕ). p.id ∷ l) (ids-of ps)

ids-stay : (ps qs : List Processor) → plans_of ps ≡ plans_of qs → map (λ p. p.id) ps ≡ map (λ p. p.id) qs
ids-stay ps qs e = sym (ids-of ps) ∙ ap (λ (l : List CpuPlan). map (λ p. p.id) l) e ∙ ids-of qs

pub up_of : (ps : List Processor) → IsAscending (map (λ p. p.id) (plans_of ps)) → IsAscending (map (λ p. p.id) ps)
up_of ps up = subst IsAscending (ids-of ps) up

-- one entry
entry-told : (d : ℕ) (s : BoardState) (x : Entry) (p : Processor) → IsAscending (map (λ p. p.id) s.processors) → processor_of d s.processors ≡ Some p → IsStep s x
    → life_pages (life_after s.warm p.version (call_at d x.agent x.op) p.life) ≡ life_pages p.life ++ pages_at d x.outcomes.items
entry-told d s x p up e step =
    told_after s.warm p.version (call_at d x.agent x.op) p.life
    ∙ ap (λ (l : List ℕ). life_pages p.life ++ l) (sym (ap (pages_at d) step.outcomes ∙ step_pages d x.agent x.op s p up e (found_id d s.processors p e)))

-- a run
pub run_told : (d : ℕ) (s : BoardState) (xs : List Entry) (p : Processor) → IsAscending (map (λ p. p.id) s.processors) → processor_of d s.processors ≡ Some p → AreSteps s xs
    → (q : Processor) × (processor_of d (fold after_entry s xs).processors ≡ Some q) × (life_pages q.life ≡ life_pages p.life ++ starts_at d xs)
run_told d s [] p up e steps = (p, e, nothing-more p.life)
run_told d s (x ∷ xs) p up e steps =
    let goes = step_goes s d x.agent x.op p e in
    let still : IsAscending (map (λ p. p.id) (after_entry s x).processors) = subst IsAscending (sym (ids-stay (after_entry s x).processors s.processors (step_plans x.agent x.op s))) up in
    let rest = run_told d (after_entry s x) xs goes.now still goes.found steps.1 in
    let one : life_pages goes.now.life ≡ life_pages p.life ++ pages_at d x.outcomes.items = ap life_pages goes.life ∙ entry-told d s x p up e steps.0 in
    (rest.0, rest.1, rest.2 ∙ ap (λ (l : List ℕ). l ++ starts_at d xs) one ∙ append_assoc (life_pages p.life) (pages_at d x.outcomes.items) (starts_at d xs))

-- in every legal journal of a config
pub told : (c : Plan) (journal : List Entry) → IsConfig c → IsLegal c journal → (p : Processor) → Contains (final_state_of c journal).processors p → starts_at p.id journal ≡ life_pages p.life
told c journal is legal p here =
    let s : BoardState = initial_state_of c in
    let t : BoardState = final_state_of c journal in
    let up_last : IsAscending (map (λ q. q.id) t.processors) = up_of t.processors (subst (λ (l : List CpuPlan). IsAscending (map (λ q. q.id) l)) (sym (plans_stay c journal)) is.ascending) in
    let up_first : IsAscending (map (λ q. q.id) s.processors) = up_of s.processors (subst (λ (l : List CpuPlan). IsAscending (map (λ q. q.id) l)) (sym (first_plans c.boot c.cpus)) is.ascending) in
    let found : processor_of p.id t.processors ≡ Some p = found_member t.processors p up_last here in
    let in_plan : Contains c.cpus (plan_of p) = subst (λ (l : List CpuPlan). Contains l (plan_of p)) (plans_stay c journal) (found_in p.id t.processors p found) in
    let q = run_told p.id s journal (first_processor c.boot (plan_of p)) up_first (first_found c (plan_of p) is.ascending in_plan) legal in
    let same : q.0 ≡ p = same_found q.0 p (processor_of p.id t.processors) q.1 found in
    let none : life_pages (first_processor c.boot (plan_of p)).life ≡ [] = elim (p.id == c.boot) as (λ b. life_pages (cond b life.First life.Asleep) ≡ []) [ true ↦ refl | false ↦ refl ] in
    sym (ap (λ (l : List ℕ). l ++ starts_at p.id journal) none) ∙ sym q.2 ∙ ap (λ (x : Processor). life_pages x.life) same
