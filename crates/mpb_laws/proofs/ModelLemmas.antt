-- An op that an agent may make sets a model of logical destinations that is 0 or 15, where it sets one.
use Rattle.std.proofs.Common.{◌≡◌, ◌⊎◌, ◌==◌, ℕ, zero, suc, Bool, true, false, ◌||◌, cond, List, [], ◌∷◌, take, drop, refl, sym, Some, slice_get, inl, inr, subst}
use Rattle.std.specs.List.{AllByRecursion}
use Rattle.std.proofs.lemmas.Bool.{eqb-true}
use Rattle.mpb_spec.specs.declared.agent.Agent.{Agent}
use Rattle.mpb_spec.specs.declared.agent.Agent.TheVariants.{Cpu, Io, Dev}
use Rattle.mpb_spec.specs.declared.agent.Offer.{Offer}
use Rattle.mpb_spec.specs.declared.agent.Op.{Op}
use Rattle.mpb_spec.specs.declared.agent.Op.TheVariants as op
use Rattle.mpb_spec.specs.declared.entry.Entry.{Entry}
use Rattle.mpb_spec.specs.State.{Processor, processor_of, op_at}
use Rattle.mpb_spec.specs.Steps.{next_op}
use Rattle.mpb_spec.specs.Plan.{Plan, CpuPlan}
use Rattle.mpb_spec.specs.Configs.{IsConfig, IsCpuPlan, IsModelled, IsModelledBy, is_boot_op, is_script_op, boot_ops}
use Rattle.mpb_spec.specs.Journal.{final_state_of}
use Rattle.mpb_spec.proofs.May.{may_cpu}
use Rattle.mpb_spec.proofs.PlansStay.{plans_of, plans_stay}

boot-modelled : (o : Op) → is_boot_op o ≡ true → IsModelled o
boot-modelled (op.Dfr n) e = cc
boot-modelled o e = tt

one-of : (n : ℕ) → ((n == 0) || (n == 15)) ≡ true → (n ≡ 0) ⊎ (n ≡ 15)
one-of n e = go (n == 0) refl e where
  go : (b : Bool) → (n == 0) ≡ b → (b || (n == 15)) ≡ true → (n ≡ 0) ⊎ (n ≡ 15)
  go true w h = inl (eqb-true n 0 w)
  go false w h = inr (eqb-true n 15 h)

script-modelled : (o : Op) → is_script_op o ≡ true → IsModelled o
script-modelled (op.Dfr n) e = one-of n e
script-modelled o e = tt

all-follow : {X : Type 0} (P Q : X → Type 0) (xs : List X) → ((x : X) → P x → Q x) → AllByRecursion P xs → AllByRecursion Q xs
all-follow P Q [] f h = tt
all-follow P Q (x ∷ xs) f h = (f x h.0, all-follow P Q xs f h.1)

both-parts : {X : Type 0} (P : X → Type 0) (n : ℕ) (xs : List X) → AllByRecursion P (take n xs) → AllByRecursion P (drop n xs) → AllByRecursion P xs
both-parts P zero xs a b = b
both-parts P (suc n) [] a b = tt
both-parts P (suc n) (x ∷ xs) a b = (a.0, both-parts P n xs a.1 b)

one-at : {X : Type 0} (P : X → Type 0) (xs : List X) (i : ℕ) (x : X) → AllByRecursion P xs → slice_get xs i ≡ Some x → P x
one-at P [] i x h e = cc
one-at P (y ∷ xs) zero x h e = let same : y ≡ x = cc in subst P same h.0
one-at P (y ∷ xs) (suc i) x h e = one-at P xs i x h.1 e

-- all ops of a processor's program are
abbrev IsModelledPlan : CpuPlan → Type 0
IsModelledPlan p = AllByRecursion IsModelled p.program

plan-modelled : (boot boot_len ios page : ℕ) (p : CpuPlan) → IsCpuPlan boot boot_len ios page p → IsModelledPlan p
plan-modelled boot boot_len ios page p h =
    let n = boot_ops boot boot_len p in
    both-parts IsModelled n p.program
    (all-follow (λ o. is_boot_op o ≡ true) IsModelled (take n p.program) boot-modelled h.starts)
    (all-follow (λ o. is_script_op o ≡ true) IsModelled (drop n p.program) script-modelled h.goes_on)

-- the op at a processor's position
at-position : (id : ℕ) (ps : List Processor) (o : Op) → AllByRecursion IsModelledPlan (plans_of ps) → op_at (processor_of id ps) ≡ Some o → IsModelled o
at-position id [] o h e = cc
at-position id (p ∷ ps) o h e = go (p.id == id) e (at-position id ps o h.1) where
  go : (b : Bool) → op_at (cond b (Some p) (processor_of id ps)) ≡ Some o → (op_at (processor_of id ps) ≡ Some o → IsModelled o) → IsModelled o
  go true w rest = one-at IsModelled p.program p.position o h.0 w
  go false w rest = rest w

pub modelled : (c : Plan) (journal : List Entry) (g : Agent) (f : Offer) (o : Op) → IsConfig c → next_op (final_state_of c journal) g f ≡ Some o → IsModelledBy g o
modelled c journal (Cpu id) f o is e =
    let s = final_state_of c journal in
    let all : AllByRecursion IsModelledPlan c.cpus = all-follow (IsCpuPlan c.boot c.boot_len _ is.page) IsModelledPlan c.cpus (λ p h. plan-modelled c.boot c.boot_len _ is.page p h) is.cpus in
    at-position id s.processors o (subst (AllByRecursion IsModelledPlan) (sym (plans_stay c journal)) all) (may_cpu s id f o e)
modelled c journal (Io a) f o is e = tt
modelled c journal (Dev d) f o is e = tt
