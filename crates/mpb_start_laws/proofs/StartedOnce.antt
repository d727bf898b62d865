-- A complete journal of a startable config started each other processor once.
use Rattle.std.proofs.Common.{◌≡◌, ◌≢◌, ℕ, suc, ◌+◌, ◌<◌, Bool, true, false, List, [], ◌∷◌, ◌++◌, length, refl, sym, ap, ◌∙◌, arith, Some, slice_get, subst}
use Rattle.std.specs.List.{Contains}
use Rattle.std.proofs.lemmas.Bool.{eq-eqb}
use Rattle.mpb_spec.specs.declared.agent.Op.{Op}
use Rattle.mpb_spec.specs.declared.agent.Op.TheVariants as op
use Rattle.mpb_spec.specs.declared.config.Life.{Life}
use Rattle.mpb_spec.specs.declared.config.Life.TheVariants as life
use Rattle.mpb_spec.specs.declared.entry.Entry.{Entry}
use Rattle.mpb_spec.specs.State.{Processor, BoardState, runs, processor_of}
use Rattle.mpb_spec.specs.Plan.{Plan, CpuPlan, initial_state_of, first_processor}
use Rattle.mpb_spec.specs.Configs.{IsConfig, IsStartableAt, IsStartedBy, IsFollowedBy, boot_ops, boot_part}
use Rattle.mpb_spec.specs.Journal.{IsComplete, final_state_of}
use Rattle.mpb_start_laws.specs.Starts.{starts_at, IsStartedOnce}
use Rattle.mpb_start_laws.proofs.Lists.{read_after, read_later, read_taken}
use Rattle.mpb_start_laws.proofs.Processors.{found_here, found_id, same_found}
use Rattle.mpb_start_laws.specs.Starts.{life_pages}
use Rattle.mpb_spec.proofs.PlansStay.{first_plans}
use Rattle.mpb_start_laws.proofs.LivesGoOn.{IsLifeOf, early_op, late_op}
use Rattle.mpb_start_laws.proofs.UnderWay.{Starts, IsUnderWay, is_new, run_goes_on}
use Rattle.mpb_start_laws.proofs.Told.{told}
use Rattle.mpb_start_laws.proofs.Opening.{IsBootAt, boot_at, first_found, other_life}
use Rattle.mpb_start_laws.proofs.Through.{boot_past}

-- where the two ops of a pair stand
pub record StandAt (x y : Op) (ops : List Op) : Type 0 where
  pub early : ℕ
  pub late : ℕ
  pub order : early < late
  pub early_at : slice_get ops early ≡ Some x
  pub late_at : slice_get ops late ≡ Some y

followed : (x y : Op) (ops : List Op) → IsFollowedBy x y ops → StandAt x y ops
followed x y ops h =
    let whole : List Op = h.0 ++ x ∷ (h.1 ++ y ∷ h.2) in
    record {
      early = length h.0;
      late = length h.0 + suc (length h.1);
      order = omega arith;
      early_at = subst (λ (l : List Op). slice_get l (length h.0) ≡ Some x) (sym h.3) (read_after h.0 x (h.1 ++ y ∷ h.2));
      late_at = subst (λ (l : List Op). slice_get l (length h.0 + suc (length h.1)) ≡ Some y) (sym h.3) (read_later h.0 (x ∷ (h.1 ++ y ∷ h.2)) (suc (length h.1)) ∙ read_after h.1 y h.2);
    }

pair-at : (new : Bool) (id page : ℕ) (ops : List Op) → IsStartedBy new id page ops → StandAt (early_op new id page) (late_op new id page) ops
pair-at true id page ops h = followed (op.Init id) (op.Startup id page) ops h
pair-at false id page ops h = followed (op.Warm page) (op.Init id) ops h

-- a life that runs was started at the page
started-at : (page version : ℕ) (l : Life) → IsLifeOf page version l → runs l ≡ true → life_pages l ≡ page ∷ []
started-at page version life.Asleep is alive = cc
started-at page version life.Waiting is alive = cc
started-at page version (life.Started p) is alive = ap (λ (n : ℕ). n ∷ []) is
started-at page version life.First is alive = absurd is

one-start : (page : ℕ) (c : Plan) (journal : List Entry) (q : CpuPlan) → IsConfig c → IsStartableAt page c → IsComplete c journal → Contains c.cpus q → q.id ≢ c.boot → starts_at q.id journal ≡ page ∷ []
one-start page c journal q is startable complete here other =
    let s : BoardState = initial_state_of c in
    let t : BoardState = final_state_of c journal in
    let boot = boot_at c journal is in
    let b : CpuPlan = boot.0 in
    let at : IsBootAt c t b = boot.1 in
    let all : boot_ops c.boot c.boot_len b ≡ c.boot_len = rw (eq-eqb b.id c.boot at.id) refl in
    let pair = pair-at (is_new q) q.id page (boot_part c.boot c.boot_len b) (startable.starts b q at.in_plan here at.id other) in
    let early = read_taken (boot_ops c.boot c.boot_len b) b.program pair.early (early_op (is_new q) q.id page) pair.early_at in
    let late = read_taken (boot_ops c.boot c.boot_len b) b.program pair.late (late_op (is_new q) q.id page) pair.late_at in
    let starts : Starts page pair.early pair.late c b q = record { named = startable.page; early_at = early.1; late_at = late.1; order = pair.order } in
    let asleep : (first_processor c.boot q).life ≡ life.Asleep = other_life c q other in
    let opening : IsUnderWay page pair.early pair.late c b q s = record {
      plans = first_plans c.boot c.cpus;
      warm = tt;
      first = first_processor c.boot b;
      first_found = first_found c b is.ascending at.in_plan;
      first_plan = refl;
      other = first_processor c.boot q;
      other_found = first_found c q is.ascending here;
      other_plan = refl;
      other_life = subst (IsLifeOf page q.version) (sym asleep) tt;
      ready = λ past. absurd (omega (arith, past));
      running = λ past. absurd (omega (arith, past));
    } in
    let ending : IsUnderWay page pair.early pair.late c b q t = run_goes_on page pair.early pair.late c b q s journal starts opening complete.legal in
    let found : processor_of b.id t.processors ≡ Some at.now = subst (λ (i : ℕ). processor_of i t.processors ≡ Some at.now) (sym at.id) at.found in
    let same : at.now ≡ ending.first = same_found at.now ending.first (processor_of b.id t.processors) found ending.first_found in
    let position : at.now.position ≡ ending.first.position = ap (λ (p : Processor). p.position) same in
    let alive : runs ending.other.life ≡ true = ending.running (omega (arith, boot_past c t b is at complete.quiescent, position, late.0, all)) in
    let tells : starts_at ending.other.id journal ≡ life_pages ending.other.life = told c journal is complete.legal ending.other (found_here q.id t.processors ending.other ending.other_found) in
    ap (λ (i : ℕ). starts_at i journal) (sym (found_id q.id t.processors ending.other ending.other_found)) ∙ tells ∙ started-at page q.version ending.other.life ending.other_life alive

pub started_once : (page : ℕ) (c : Plan) (journal : List Entry) → IsConfig c → IsStartableAt page c → IsComplete c journal → IsStartedOnce page c journal
started_once page c journal is startable complete q here other = one-start page c journal q is startable complete here other
