-- At the end of a complete journal the boot processor has made its boot program.
use Rattle.std.proofs.Common.{◌≡◌, ℕ, ◌<◌, ◌≤◌, Bool, true, false, cond, List, length, take, refl, ap, arith, Option, Some, None, slice_get, inl, inr, subst}
use Rattle.std.proofs.lemmas.Bool.{eq-eqb, cases_lt}
use Rattle.mpb_spec.specs.declared.agent.Agent.TheVariants.{Cpu}
use Rattle.mpb_spec.specs.declared.agent.Offer.TheVariants as offer
use Rattle.mpb_spec.specs.declared.agent.Op.{Op}
use Rattle.mpb_spec.specs.declared.agent.Op.TheVariants as op
use Rattle.mpb_spec.specs.declared.config.Life.TheVariants as life
use Rattle.mpb_spec.specs.LocalApic.{LocalApic}
use Rattle.mpb_spec.specs.State.{Processor, BoardState, runs}
use Rattle.mpb_spec.specs.Steps.{op_of_processor, unless_waiting}
use Rattle.mpb_spec.specs.May.{IsQuiescent}
use Rattle.mpb_spec.specs.Plan.{Plan, CpuPlan}
use Rattle.mpb_spec.specs.Configs.{IsConfig, IsCpuPlan, is_boot_op, boot_ops}
use Rattle.mpb_start_laws.proofs.Lists.{member, read_member, none_past, taken_read}
use Rattle.mpb_spec.proofs.PlansStay.{plan_of}
use Rattle.mpb_start_laws.proofs.Opening.{IsBootAt}

-- a processor that runs is idle where it is past its program, or at a Take
pub idle_at : (p : Processor) → runs p.life ≡ true → op_of_processor (Some p) ≡ None → unless_waiting p.apic (slice_get p.program p.position) ≡ None
idle_at p alive idle = go (runs p.life) alive idle where
  go : (b : Bool) → b ≡ true → cond b (unless_waiting p.apic (slice_get p.program p.position)) None ≡ None → unless_waiting p.apic (slice_get p.program p.position) ≡ None
  go true t e = e
  go false t e = cc

-- the boot program has no Take
boot-waits-not : (a : LocalApic) (o : Op) → is_boot_op o ≡ true → unless_waiting a (Some o) ≡ None → ⊥
boot-waits-not a op.Take boot e = cc
boot-waits-not a o boot e = cc

past-boot : (n ios page : ℕ) (c : Plan) (b : CpuPlan) (p : Processor) → IsCpuPlan c.boot c.boot_len ios page b → b.id ≡ c.boot → plan_of p ≡ b → p.life ≡ life.First → op_of_processor (Some p) ≡ None → c.boot_len ≤ p.position
past-boot n ios page c b p is id plan first idle = elim (cases_lt p.position c.boot_len) [
  | inr le ↦ le
  | inl lt ↦ absurd (go (slice_get p.program p.position) refl lt)
] where
  program : p.program ≡ b.program
  program = ap (λ (x : CpuPlan). x.program) plan

  all : boot_ops c.boot c.boot_len b ≡ c.boot_len
  all = rw (eq-eqb b.id c.boot id) refl

  alive : runs p.life ≡ true
  alive = rw first refl

  go : (r : Option Op) → slice_get p.program p.position ≡ r → p.position < c.boot_len → ⊥
  go None e lt = omega (arith, none_past p.program p.position e, ap (λ (l : List Op). length l) program, is.long, all, lt)
  go (Some o) e lt =
      let mine : slice_get b.program p.position ≡ Some o = subst (λ (l : List Op). slice_get l p.position ≡ Some o) program e in
      let early : slice_get (take (boot_ops c.boot c.boot_len b) b.program) p.position ≡ Some o = taken_read (boot_ops c.boot c.boot_len b) b.program p.position o (omega (arith, lt, all)) mine in
      let boot : is_boot_op o ≡ true = read_member (λ x. is_boot_op x ≡ true) (take (boot_ops c.boot c.boot_len b) b.program) p.position o is.starts early in
      boot-waits-not p.apic o boot (subst (λ (r : Option Op). unless_waiting p.apic r ≡ None) e (idle_at p alive idle))

pub boot_past : (c : Plan) (s : BoardState) (b : CpuPlan) → IsConfig c → (at : IsBootAt c s b) → IsQuiescent s → c.boot_len ≤ at.now.position
boot_past c s b is at quiet =
    let idle : op_of_processor (Some at.now) ≡ None = subst (λ (r : Option Processor). op_of_processor r ≡ None) at.found (quiet (Cpu c.boot) offer.Next) in
    past-boot 0 (length c.ios) is.page c b at.now (member (IsCpuPlan c.boot c.boot_len (length c.ios) is.page) c.cpus b is.cpus at.in_plan) at.id at.plan at.life idle
