-- The processor with an id, in a list of distinct ids, and after a change that keeps ids.
use Rattle.std.proofs.Common.{◌≡◌, ◌==◌, ℕ, suc, ◌<◌, Bool, true, false, cond, List, [], ◌∷◌, map, refl, sym, ap, ◌∙◌, arith, Option, Some, inl, inr, subst}
use Rattle.std.specs.List.{AllByRecursion, Contains}
use Rattle.std.proofs.lemmas.Bool.{ne_eqb, eq-eqb, eqb-true, eqb-false}
use Rattle.mpb_spec.specs.Numbers.{IsAscending}
use Rattle.mpb_spec.specs.State.{Processor, processor_of, change_processor}
use Rattle.mpb_spec.specs.Plan.{CpuPlan}
use Rattle.mpb_spec.proofs.PlansStay.{plan_of, plans_of}
use Rattle.mpb_start_laws.proofs.Lists.{head_or, member}

abbrev pub KeepsId : (Processor → Processor) → Type 0
KeepsId k = (p : Processor) → (k p).id ≡ p.id

pub found_id : (d : ℕ) (ps : List Processor) (p : Processor) → processor_of d ps ≡ Some p → p.id ≡ d
found_id d [] p e = cc
found_id d (x ∷ ps) p e = go (x.id == d) refl e (found_id d ps p) where
  go : (b : Bool) → (x.id == d) ≡ b → cond b (Some x) (processor_of d ps) ≡ Some p → (processor_of d ps ≡ Some p → p.id ≡ d) → p.id ≡ d
  go true t e rest = let same : x ≡ p = cc in subst (λ (q : Processor). q.id ≡ d) same (eqb-true x.id d t)
  go false t e rest = rest e

-- after a change of all
pub found_map : (d : ℕ) (k : Processor → Processor) (ps : List Processor) (p : Processor) → KeepsId k → processor_of d ps ≡ Some p → processor_of d (map k ps) ≡ Some (k p)
found_map d k [] p keeps e = cc
found_map d k (x ∷ ps) p keeps e = subst (λ (i : ℕ). cond (i == d) (Some (k x)) (processor_of d (map k ps)) ≡ Some (k p)) (sym (keeps x)) (go (x.id == d) e (found_map d k ps p keeps)) where
  go : (b : Bool) → cond b (Some x) (processor_of d ps) ≡ Some p → (processor_of d ps ≡ Some p → processor_of d (map k ps) ≡ Some (k p)) → cond b (Some (k x)) (processor_of d (map k ps)) ≡ Some (k p)
  go true e rest = let same : x ≡ p = cc in ap (λ (q : Processor). Some (k q)) same
  go false e rest = rest e

-- after a change of one
pub found_change : (d id : ℕ) (k : Processor → Processor) (ps : List Processor) (p : Processor) → KeepsId k → processor_of d ps ≡ Some p → processor_of d (change_processor id k ps) ≡ Some (cond (id == d) (k p) p)
found_change d id k [] p keeps e = cc
found_change d id k (x ∷ ps) p keeps e = go (x.id == id) refl (x.id == d) refl e (found_change d id k ps p keeps) where
  go : (a : Bool) → (x.id == id) ≡ a → (b : Bool) → (x.id == d) ≡ b → cond b (Some x) (processor_of d ps) ≡ Some p → (processor_of d ps ≡ Some p → processor_of d (change_processor id k ps) ≡ Some (cond (id == d) (k p) p)) → processor_of d (cond a (k x ∷ ps) (x ∷ change_processor id k ps)) ≡ Some (cond (id == d) (k p) p)
  go true t true u e rest =
      let same : x ≡ p = cc in
      let one : (id == d) ≡ true = eq-eqb id d (sym (eqb-true x.id id t) ∙ eqb-true x.id d u) in
      let left : processor_of d (k x ∷ ps) ≡ Some (k x) = rw (keeps x, u) refl in
      let right : Some (k x) ≡ Some (cond (id == d) (k p) p) = rw one (ap (λ (q : Processor). Some (k q)) same) in
      left ∙ right
  go true t false u e rest =
      let other : (id == d) ≡ false = ne_eqb id d (λ h. eqb-false x.id d u (eqb-true x.id id t ∙ h)) in
      rw (keeps x, u, other) e
  go false t true u e rest =
      let other : (id == d) ≡ false = ne_eqb id d (λ h. eqb-false x.id id t (eqb-true x.id d u ∙ sym h)) in
      rw (u, other) e
  go false t false u e rest = rw u (rest e)

-- a member of the plans has its processor, by its id
pub found_plan : (ps : List Processor) (q : CpuPlan) → IsAscending (map (λ p. p.id) (plans_of ps)) → Contains (plans_of ps) q → (p : Processor) × (processor_of q.id ps ≡ Some p) × (plan_of p ≡ q)
found_plan [] q up h = absurd (omega (arith, h.1))
found_plan (x ∷ ps) q up h = elim (head_or (plan_of x) (plans_of ps) q h) [
  | inl e ↦ let same : x.id ≡ q.id = ap (λ (c : CpuPlan). c.id) e in (x, rw (eq-eqb x.id q.id same) refl, e)
  | inr later ↦
      let above : x.id < q.id = member (λ (c : CpuPlan). x.id < c.id) (plans_of ps) q (all-map (plans_of ps) up.0) later in
      let rest = found_plan ps q up.1 later in
      (rest.0, rw (ne_eqb x.id q.id (λ h. omega (arith, h, above))) rest.1, rest.2)
] where
  all-map : (cs : List CpuPlan) → AllByRecursion (λ y. x.id < y) (map (λ p. p.id) cs) → AllByRecursion (λ (c : CpuPlan). x.id < c.id) cs
  all-map [] all = tt
  all-map (c ∷ cs) all = (all.0, all-map cs all.1)

-- and a processor that is found has its plan among them
pub found_in : (d : ℕ) (ps : List Processor) (p : Processor) → processor_of d ps ≡ Some p → Contains (plans_of ps) (plan_of p)
found_in d [] p e = cc
found_in d (x ∷ ps) p e = go (x.id == d) e (found_in d ps p) where
  go : (b : Bool) → cond b (Some x) (processor_of d ps) ≡ Some p → (processor_of d ps ≡ Some p → Contains (plans_of ps) (plan_of p)) → Contains (plans_of (x ∷ ps)) (plan_of p)
  go true e rest = let same : x ≡ p = cc in (0, omega arith, ap plan_of same)
  go false e rest = let h = rest e in (suc h.0, omega (arith, h.1), h.2)

-- a member of a list of distinct ids is found by its id
pub found_member : (ps : List Processor) (q : Processor) → IsAscending (map (λ p. p.id) ps) → Contains ps q → processor_of q.id ps ≡ Some q
found_member [] q up h = absurd (omega (arith, h.1))
found_member (x ∷ ps) q up h = elim (head_or x ps q h) [
  | inl e ↦ subst (λ (y : Processor). processor_of q.id (y ∷ ps) ≡ Some q) (sym e) (rw (eq-eqb q.id q.id refl) refl)
  | inr later ↦
      let above : x.id < q.id = member (λ (p : Processor). x.id < p.id) ps q (all-map ps up.0) later in
      rw (ne_eqb x.id q.id (λ h. omega (arith, h, above))) (found_member ps q up.1 later)
] where
  all-map : (qs : List Processor) → AllByRecursion (λ y. x.id < y) (map (λ p. p.id) qs) → AllByRecursion (λ (p : Processor). x.id < p.id) qs
  all-map [] all = tt
  all-map (p ∷ qs) all = (all.0, all-map qs all.1)

-- and one that is found is a member
pub found_here : (d : ℕ) (ps : List Processor) (p : Processor) → processor_of d ps ≡ Some p → Contains ps p
found_here d [] p e = cc
found_here d (x ∷ ps) p e = go (x.id == d) e (found_here d ps p) where
  go : (b : Bool) → cond b (Some x) (processor_of d ps) ≡ Some p → (processor_of d ps ≡ Some p → Contains ps p) → Contains (x ∷ ps) p
  go true e rest = let same : x ≡ p = cc in (0, omega arith, same)
  go false e rest = let h = rest e in (suc h.0, omega (arith, h.1), h.2)

-- one id has one processor
pub same_found : (p q : Processor) (r : Option Processor) → r ≡ Some p → r ≡ Some q → p ≡ q
same_found p q r e f = cc
