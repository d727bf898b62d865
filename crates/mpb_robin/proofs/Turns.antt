-- A turn does more, or it leaves the run as it is: then its agent is stuck.
use Rattle.std.proofs.Common.{◌≡◌, ◌==◌, ℕ, zero, suc, ◌+◌, ◌<◌, ◌⊎◌, inl, inr, Bool, true, false, cond, List, [], ◌∷◌, ◌++◌, length, get_or, refl, sym, ap, ◌∙◌, subst, arith, Option, Some, None, is_some, sum_by}
use Rattle.std.proofs.lemmas.Bool.{eq-eqb, ne_eqb, cases_eq}
use Rattle.std.proofs.lemmas.List.{length_push}
use Rattle.std.proofs.lemmas.List.Sums.{sum_by-cons}
use Rattle.mpb_spec.specs.declared.agent.Agent.{Agent}
use Rattle.mpb_spec.specs.declared.agent.Agent.TheVariants.{Cpu, Io, Dev}
use Rattle.mpb_spec.specs.declared.agent.Offer.TheVariants as offer
use Rattle.mpb_spec.specs.declared.agent.Op.{Op}
use Rattle.mpb_spec.specs.declared.agent.Op.TheVariants as op
use Rattle.mpb_spec.specs.declared.config.DevWord.TheVariants as word
use Rattle.mpb_spec.specs.State.{boot_is_through, change_at}
use Rattle.mpb_spec.specs.Steps.{next_op, op_of_device, unless_early}
use Rattle.mpb_spec.specs.declared.pulse.Pulse.{Pulse}
use Rattle.mpb_spec.specs.declared.pulse.Hit.{Hit}
use Rattle.mpb_spec.specs.PlainLatch.{pins_at}
use Rattle.mpb_robin.specs.declared.act.Act.{Act}
use Rattle.mpb_robin.specs.declared.act.Act.TheVariants as act
use Rattle.mpb_robin.specs.RoundRobin.{Run, state_in, entry_of, with_op, with_op_of, with_taken, with_collected, send_or_sweep, io_turn, acts_of, next_act, with_made, act_turn, turn}
use Rattle.mpb_robin.specs.Rest.{op_of_act, IsRun, IsAgentOf, done_in}
use Rattle.mpb_robin.proofs.StepsKeep.{taken-none}
use Rattle.mpb_robin.proofs.DeviceActs.{next_op_is}
use Rattle.mpb_robin.proofs.Collects.{device_at, collect_is}

-- the agent can do nothing: a device has no act left, or may not begin; an I/O APIC has nothing to send, and nothing to sweep
abbrev pub IsStuck : Agent → Run → Type 0
IsStuck (Cpu id) r = next_op (state_in r) (Cpu id) offer.Next ≡ None
IsStuck (Io a) r = (next_op (state_in r) (Io a) offer.Next ≡ None) × (r.latch.ended ≡ r.latch.devices → next_op (state_in r) (Io a) offer.Sweep ≡ None)
IsStuck (Dev d) r = (next_act d r ≡ None) ⊎ ((next_act d r ≡ Some act.Begin) × (next_op (state_in r) (Dev d) offer.Next ≡ None))

abbrev DoesMore : Run → Run → Type 0
DoesMore r s = done_in r < done_in s

-- ---- one op

op-more : (g : Agent) (o : Op) (r : Run) → DoesMore r (with_op g o r)
op-more g o r = omega (arith, length_push r.journal (entry_of g o (state_in r)))

sure-step : (g : Agent) (o : Op) (r : Run) (x : Option Op) → x ≡ Some o → DoesMore r (with_op_of g x r)
sure-step g o r None e = cc
sure-step g o r (Some p) e = op-more g p r

one-step : (g : Agent) (r : Run) (x : Option Op) → DoesMore r (with_op_of g x r) ⊎ ((with_op_of g x r ≡ r) × (x ≡ None))
one-step g r None = inr (refl, refl)
one-step g r (Some o) = inl (op-more g o r)

-- ---- an I/O APIC

send-sweep : (g : Agent) (r : Run) (x y : Option Op) (b : Bool)
    → DoesMore r (cond (is_some x) (with_op_of g x r) (cond b (with_op_of g y r) r))
    ⊎ ((cond (is_some x) (with_op_of g x r) (cond b (with_op_of g y r) r) ≡ r) × (x ≡ None) × (b ≡ true → y ≡ None))
send-sweep g r (Some o) y b = inl (op-more g o r)
send-sweep g r None (Some o) true = inl (op-more g o r)
send-sweep g r None None true = inr (refl, refl, λ e. refl)
send-sweep g r None y false = inr (refl, refl, λ e. cc)

empty-turn : (r : Run) (a : ℕ) → DoesMore r (send_or_sweep a r) ⊎ ((send_or_sweep a r ≡ r) × IsStuck (Io a) r)
empty-turn r a =
    elim (send-sweep (Io a) r (next_op (state_in r) (Io a) offer.Next) (next_op (state_in r) (Io a) offer.Sweep) (r.latch.ended == r.latch.devices)) [
      | inl more ↦ inl more
      | inr none ↦ inr (none.0, (none.1, λ all. none.2 (eq-eqb r.latch.ended r.latch.devices all)))
    ]

place-turn : (r : Run) (a : ℕ) → IsRun r → a < length r.plan.ios → DoesMore r (io_turn a r) ⊎ ((io_turn a r ≡ r) × IsStuck (Io a) r)
place-turn r a is lt = elim (cases_eq (pins_at a r.latch) 0) [
  | inl none ↦
      let here : io_turn a r ≡ send_or_sweep a r = ap (λ b. cond b (send_or_sweep a (with_taken a r)) (with_collected a (pins_at a r.latch) (with_taken a r))) (eq-eqb (pins_at a r.latch) 0 none) ∙ ap (send_or_sweep a) (taken-none a r none) in
      subst (λ (s : Run). DoesMore r s ⊎ ((s ≡ r) × IsStuck (Io a) r)) (sym here) (empty-turn r a)
  | inr some ↦
      let here : io_turn a r ≡ with_collected a (pins_at a r.latch) (with_taken a r) = ap (λ b. cond b (send_or_sweep a (with_taken a r)) (with_collected a (pins_at a r.latch) (with_taken a r))) (ne_eqb (pins_at a r.latch) 0 some) in
      let more : DoesMore r (with_collected a (pins_at a r.latch) (with_taken a r)) = sure-step (Io a) (op.Collect (pins_at a r.latch)) (with_taken a r) (next_op (state_in r) (Io a) (offer.Collect (pins_at a r.latch))) (collect_is r a is lt some) in
      inl (subst (λ (s : Run). DoesMore r s) (sym here) more)
]

-- ---- a device

begins : (d : ℕ) (r : Run) (x : Option Op) → DoesMore r (cond (is_some x) (with_made d (with_op_of (Dev d) x r)) r) ⊎ ((cond (is_some x) (with_made d (with_op_of (Dev d) x r)) r ≡ r) × (x ≡ None))
begins d r None = inr (refl, refl)
begins d r (Some o) = inl (op-more (Dev d) o r)

longer : (d : ℕ) (x : Pulse × Hit) (logs : List (List (Pulse × Hit))) → d < length logs → sum_by (λ (log : List (Pulse × Hit)). length log) (change_at d (λ log. log ++ x ∷ []) logs) ≡ sum_by (λ (log : List (Pulse × Hit)). length log) logs + 1
longer d x [] lt = absurd (omega (arith, lt))
longer zero x (log ∷ logs) lt = rw (sum_by-cons (λ (l : List (Pulse × Hit)). length l) (log ++ x ∷ []) logs, sum_by-cons (λ (l : List (Pulse × Hit)). length l) log logs) (omega (arith, length_push log x))
longer (suc d) x (log ∷ logs) lt =
    rw (sum_by-cons (λ (l : List (Pulse × Hit)). length l) log (change_at d (λ log. log ++ x ∷ []) logs), sum_by-cons (λ (l : List (Pulse × Hit)). length l) log logs) (omega (arith, longer d x logs (omega (arith, lt))))

-- where its next act is an op and no Begin, it may make it
makes : (r : Run) (d : ℕ) (x : Act) (o : Op) → IsRun r → d < length r.plan.devices → next_act d r ≡ Some x → op_of_act x ≡ Some o → ((t : Bool) → unless_early t (Some o) ≡ Some o) → next_op (state_in r) (Dev d) offer.Next ≡ Some o
makes r d x o is lt at op late =
    let v = device_at r d lt in
    let program = next_op_is (acts_of (get_or r.plan.devices d [])) (get_or r.made d 0) (get_or r.logs d []) v.0 x o (is.each d v.0 v.1) at op in
    ap (λ q. op_of_device (boot_is_through (state_in r)) q) v.1 ∙ ap (λ q. unless_early (boot_is_through (state_in r)) q) program ∙ late (boot_is_through (state_in r))

acts : (r : Run) (d : ℕ) → IsRun r → d < length r.plan.devices → (x : Option Act) → next_act d r ≡ x → DoesMore r (act_turn d x r) ⊎ ((act_turn d x r ≡ r) × IsStuck (Dev d) r)
acts r d is lt None at = inr (refl, inl at)
acts r d is lt (Some act.Begin) at =
    elim (begins d r (next_op (state_in r) (Dev d) offer.Next)) [
      | inl more ↦ inl more
      | inr none ↦ inr (none.0, inr (at, none.1))
    ]
acts r d is lt (Some (act.Word (word.Pulse a pin))) at =
    inl (omega (arith, longer d (record { io = a; pin = pin }, Rattle.mpb_spec.specs.Pulses.hit_of (Rattle.std.specs.Int.bit_at (pins_at a r.latch) pin)) r.logs (omega (arith, lt, is.logs))))
acts r d is lt (Some (act.Word (word.High a pin))) at =
    inl (sure-step (Dev d) (op.High a pin) r (next_op (state_in r) (Dev d) offer.Next) (makes r d (act.Word (word.High a pin)) (op.High a pin) is lt at refl (λ t. refl)))
acts r d is lt (Some (act.Word (word.Low a pin))) at =
    inl (sure-step (Dev d) (op.Low a pin) r (next_op (state_in r) (Dev d) offer.Next) (makes r d (act.Word (word.Low a pin)) (op.Low a pin) is lt at refl (λ t. refl)))
acts r d is lt (Some act.End) at =
    inl (sure-step (Dev d) op.End r (next_op (state_in r) (Dev d) offer.Next) (makes r d act.End op.End is lt at refl (λ t. refl)))

-- ---- any agent

pub does_more : (r : Run) (g : Agent) → IsRun r → IsAgentOf r.plan g → (done_in r < done_in (turn g r)) ⊎ ((turn g r ≡ r) × IsStuck g r)
does_more r (Cpu id) is on = one-step (Cpu id) r (next_op (state_in r) (Cpu id) offer.Next)
does_more r (Io a) is on = place-turn r a is on
does_more r (Dev d) is on = acts r d is on (next_act d r) refl

-- the plan stays
step-plan : (g : Agent) (x : Option Op) (r : Run) → (with_op_of g x r).plan ≡ r.plan
step-plan g None r = refl
step-plan g (Some o) r = refl

cond-plan : (b : Bool) (s t r : Run) → s.plan ≡ r.plan → t.plan ≡ r.plan → (cond b s t).plan ≡ r.plan
cond-plan true s t r x y = x
cond-plan false s t r x y = y

sweep-plan : (a : ℕ) (r : Run) → (send_or_sweep a r).plan ≡ r.plan
sweep-plan a r =
    let step : (x : Option Op) → (with_op_of (Io a) x r).plan ≡ r.plan = λ x. step-plan (Io a) x r in
    cond-plan (is_some (next_op (state_in r) (Io a) offer.Next)) _ _ r (step (next_op (state_in r) (Io a) offer.Next))
    (cond-plan (r.latch.ended == r.latch.devices) _ _ r (step (next_op (state_in r) (Io a) offer.Sweep)) refl)

act-plan : (d : ℕ) (x : Option Act) (r : Run) → (act_turn d x r).plan ≡ r.plan
act-plan d None r = refl
act-plan d (Some act.Begin) r = cond-plan (is_some (next_op (state_in r) (Dev d) offer.Next)) _ _ r (step-plan (Dev d) (next_op (state_in r) (Dev d) offer.Next) r) refl
act-plan d (Some (act.Word (word.Pulse a pin))) r = refl
act-plan d (Some (act.Word (word.High a pin))) r = step-plan (Dev d) (next_op (state_in r) (Dev d) offer.Next) r
act-plan d (Some (act.Word (word.Low a pin))) r = step-plan (Dev d) (next_op (state_in r) (Dev d) offer.Next) r
act-plan d (Some act.End) r = step-plan (Dev d) (next_op (state_in r) (Dev d) offer.Next) r

pub plan_stays : (r : Run) (g : Agent) → (turn g r).plan ≡ r.plan
plan_stays r (Cpu id) = step-plan (Cpu id) (next_op (state_in r) (Cpu id) offer.Next) r
plan_stays r (Io a) = cond-plan (pins_at a r.latch == 0) _ _ r (sweep-plan a (with_taken a r)) (step-plan (Io a) (next_op (state_in r) (Io a) (offer.Collect (pins_at a r.latch))) (with_taken a r))
plan_stays r (Dev d) = act-plan d (next_act d r) r
