-- The worked boot is a startable config's, and complete.
use Rattle.std.proofs.Common.{◌≡◌, ◌≢◌, ℕ, true, nat_le, [], ◌∷◌, ◌<◌, refl, sym, arith, ◌⊎◌, inl, inr, subst}
use Rattle.std.specs.List.{Contains}
use Rattle.mpb_spec.specs.declared.agent.Offer.TheVariants as offer
use Rattle.mpb_spec.specs.declared.agent.Op.TheVariants as op
use Rattle.mpb_spec.specs.State.{Processor, runs}
use Rattle.mpb_spec.specs.Plan.{CpuPlan}
use Rattle.mpb_spec.specs.Configs.{IsConfig, IsCpuPlan, IsStartableAt, IsStartedBy, boot_part}
use Rattle.mpb_spec.specs.Journal.{IsLegal, IsComplete, final_state_of}
use Rattle.mpb_start_laws.specs.Rest.{IsDone, AwaitsVector, IsSwept, IsAtRest}
use Rattle.mpb_start_laws.specs.Example.{small_first, small_new, small_old, small_boot, small_journal}
use Rattle.mpb_start_laws.proofs.Lists.{member}
use Rattle.mpb_start_laws.proofs.Quiet.{rest_is_quiet}

-- its processors
far : {n : ℕ} → (0 < n) × (n < 255) → (n ≢ 255) × (n ≢ 0)
far h = (λ e. omega (arith, e, h.1), λ e. omega (arith, e, h.0))

one-far : (0 < 1) × (1 < 255)
one-far = (omega arith, omega arith)

two-far : (0 < 2) × (2 < 255)
two-far = (omega arith, omega arith)

first-plan : IsCpuPlan 0 6 1 8 small_first
first-plan = record {
  id = omega arith;
  long = omega arith;
  starts = (refl, (refl, (refl, (refl, (refl, (refl, tt))))));
  goes_on = tt;
  places = (tt, (tt, (tt, (tt, (tt, (tt, tt))))));
  targets = (far one-far, (far one-far, (far one-far, (tt, (far two-far, (far two-far, tt))))));
  page = (tt, (refl, (refl, (refl, (tt, (tt, tt))))));
}

new-plan : IsCpuPlan 0 6 1 8 small_new
new-plan = record { id = omega arith; long = omega arith; starts = tt; goes_on = (refl, tt); places = (tt, tt); targets = (tt, tt); page = (tt, tt) }

old-plan : IsCpuPlan 0 6 1 8 small_old
old-plan = record { id = omega arith; long = omega arith; starts = tt; goes_on = tt; places = tt; targets = tt; page = tt }

pub config : IsConfig small_boot
config = record {
  some = omega arith;
  few = omega arith;
  ascending = ((omega arith, (omega arith, tt)), ((omega arith, tt), (tt, tt)));
  boot = refl;
  low = omega arith;
  few_ios = omega arith;
  few_devices = omega arith;
  page = 8;
  cpus = (first-plan, (new-plan, (old-plan, tt)));
  words = tt;
}

-- its boot program
pairs : (q : CpuPlan) → Contains small_boot.cpus q → q.id ≢ 0 → IsStartedBy (nat_le 16 q.version) q.id 8 (boot_part 0 6 small_first)
pairs q here = member (λ (x : CpuPlan). x.id ≢ 0 → IsStartedBy (nat_le 16 x.version) x.id 8 (boot_part 0 6 small_first)) small_boot.cpus q (
  λ ne. absurd (ne refl),
  (
    λ ne. ([], [], op.Startup 1 8 ∷ op.Warm 8 ∷ op.Init 2 ∷ op.Check 2 ∷ [], refl),
    (λ ne. (op.Init 1 ∷ op.Startup 1 8 ∷ op.Startup 1 8 ∷ [], [], op.Check 2 ∷ [], refl), tt),
  ),
) here

first-of : (p : CpuPlan) → Contains small_boot.cpus p → p.id ≡ 0 → p ≡ small_first
first-of p here = member (λ (x : CpuPlan). x.id ≡ 0 → x ≡ small_first) small_boot.cpus p (λ e. refl, (λ e. absurd (omega (arith, e)), (λ e. absurd (omega (arith, e)), tt))) here

pub startable : IsStartableAt 8 small_boot
startable = record {
  page = (first-plan.page, (new-plan.page, (old-plan.page, tt)));
  starts = λ p q in_p in_q boot ne. subst (λ (x : CpuPlan). IsStartedBy (nat_le 16 q.version) q.id 8 (boot_part 0 6 x)) (sym (first-of p in_p boot)) (pairs q in_q ne);
}

-- its journal
legal : IsLegal small_boot small_journal
legal = (
  record { offer = offer.Next; may = refl; outcomes = refl },
  (
    record { offer = offer.Next; may = refl; outcomes = refl },
    (
      record { offer = offer.Next; may = refl; outcomes = refl },
      (
        record { offer = offer.Next; may = refl; outcomes = refl },
        (
          record { offer = offer.Sweep; may = refl; outcomes = refl },
          (
            record { offer = offer.Next; may = refl; outcomes = refl },
            (record { offer = offer.Next; may = refl; outcomes = refl }, tt),
          ),
        ),
      ),
    ),
  ),
)

-- and what it leaves
rest : IsAtRest (final_state_of small_boot small_journal)
rest = record {
  processors = λ p here. member (λ (x : Processor). runs x.life ≡ true → IsDone x ⊎ AwaitsVector x) (final_state_of small_boot small_journal).processors p (λ alive. inl refl, (λ alive. inr (record { take = refl; nothing = refl }), (λ alive. inl refl, tt))) here;
  devices = λ d here. absurd (omega (arith, here.1));
  places = λ p here. member IsSwept (final_state_of small_boot small_journal).places p (record { swept = refl; nothing = refl }, tt) here;
}

pub complete : IsComplete small_boot small_journal
complete = record { legal = legal; quiescent = rest_is_quiet (final_state_of small_boot small_journal) rest }
