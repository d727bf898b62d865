use Rattle.std.proofs.Common.{◌≡◌, ◌==◌, ℕ, ◌<◌, false, nat_lt}
use Rattle.std.specs.List.{count_by}
use Rattle.mpb_setup.proofs.faults.least_double.Given as goal

abbrev pub invariant-loop-id : goal.invariant-loop-id
invariant-loop-id l = (k : ℕ) → k < l.id → nat_lt 1 (count_by (λ x. x == k) l.ids) ≡ false
