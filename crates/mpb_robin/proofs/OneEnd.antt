-- The round robin of a config ends, and has one end.
use Rattle.std.proofs.Common.{◌≡◌, ℕ, zero, suc, ◌+◌, ◌^◌, ◌<◌, ◌≤◌, inl, inr, Bool, true, false, Some, None, refl, sym, ap, ◌∙◌, subst, arith}
use Rattle.std.proofs.lemmas.Bool.{cases_lt, cases_eq}
use Rattle.mpb_spec.specs.declared.agent.Agent.{Agent}
use Rattle.mpb_spec.specs.State.{BoardState}
use Rattle.mpb_spec.specs.Plan.{Plan, plan_size}
use Rattle.mpb_spec.specs.Configs.{IsConfig}
use Rattle.mpb_spec.specs.Room.{room}
use Rattle.mpb_spec.specs.May.{MayAny, IsQuiescent}
use Rattle.mpb_spec.specs.Asks.{any_step}
use Rattle.mpb_spec.proofs.Quiet.{quiet_is, step_is}
use Rattle.mpb_robin.specs.RoundRobin.{Run, state_in, rounds, first_run, IsRoundRobinEnd}
use Rattle.mpb_robin.specs.Rest.{done_in}
use Rattle.mpb_robin.proofs.Progress.{bounded}
use Rattle.mpb_robin.proofs.Rounds.{goes_on, rounds_are}

pub same_end : (c : Plan) (r s : Run) → IsRoundRobinEnd c r → IsRoundRobinEnd c s → r ≡ s
same_end c r s x y = r-is (elim (cases_lt x.count y.count) [
  | inl lt ↦ absurd (y.first x.count lt (subst (λ (t : Run). IsQuiescent (state_in t)) x.run x.quiet))
  | inr le ↦ elim (cases_lt y.count x.count) [
    | inl lt ↦ absurd (x.first y.count lt (subst (λ (t : Run). IsQuiescent (state_in t)) y.run y.quiet))
    | inr ge ↦ omega (arith, le, ge)
  ]
]) where
  r-is : x.count ≡ y.count → r ≡ s
  r-is e = x.run ∙ ap (λ n. rounds n (first_run c)) e ∙ sym y.run

-- where one may step, not all are idle
busy : (s : BoardState) (g : Agent) → MayAny s g → ¬ IsQuiescent s
busy s g may quiet = let off : None ≡ Some may.1.0 = sym (quiet g may.0) ∙ may.1.1 in cc

module _ (c : Plan) (config : IsConfig c) (small : plan_size c < 2 ^ 32) where
  abbrev after : ℕ → Run
  after n = rounds n (first_run c)

  within : (n : ℕ) → done_in (after n) ≤ room c + plan_size c
  within n = let h = rounds_are c config small n in subst (λ (d : Plan). done_in (after n) ≤ room d + plan_size d) h.plan (bounded (after n) h.run)

  more : (n : ℕ) → ¬ IsQuiescent (state_in (after n)) → done_in (after n) < done_in (after (suc n))
  more n not_yet = goes_on (after n) (rounds_are c config small n).run not_yet

  none-before : (n : ℕ) → ((m : ℕ) → m < n → ¬ IsQuiescent (state_in (after m))) → ¬ IsQuiescent (state_in (after n)) → (m : ℕ) → m < suc n → ¬ IsQuiescent (state_in (after m))
  none-before n before here m lt = elim (cases_eq m n) [
    | inl e ↦ subst (λ (k : ℕ). ¬ IsQuiescent (state_in (after k))) (sym e) here
    | inr ne ↦ before m (omega (arith, lt, ne))
  ]

  stays : (n : ℕ) → any_step (state_in (after n)) ≡ true → ¬ IsQuiescent (state_in (after n))
  stays n e = let h = step_is (state_in (after n)) e in busy (state_in (after n)) h.0 h.1

  -- rounds are made as long as some agent may step, and there is so much left to do
  ends : (fuel n : ℕ) → ((m : ℕ) → m < n → ¬ IsQuiescent (state_in (after m))) → room c + plan_size c ≤ fuel + done_in (after n) → (b : Bool) → any_step (state_in (after n)) ≡ b → (r : Run) × IsRoundRobinEnd c r
  ends fuel n before left false e = (after n, record { count = n; run = refl; quiet = quiet_is (state_in (after n)) e; first = before })
  ends zero n before left true e = absurd (omega (arith, left, more n (stays n e), within (suc n)))
  ends (suc fuel) n before left true e = ends fuel (suc n) (none-before n before (stays n e)) (omega (arith, left, more n (stays n e))) (any_step (state_in (after (suc n)))) refl

pub some_end : (c : Plan) → IsConfig c → plan_size c < 2 ^ 32 → (r : Run) × IsRoundRobinEnd c r
some_end c config small = ends c config small (room c + plan_size c) 0 (λ m lt. absurd (omega (arith, lt))) (omega arith) (any_step (state_in (first_run c))) refl
