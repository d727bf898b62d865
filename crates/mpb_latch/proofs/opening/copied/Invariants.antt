use Rattle.std.proofs.Common.{◌≡◌, map, take}
use Rattle.mpb_latch.proofs.opening.copied.Given as goal

abbrev pub invariant-loop-plan : goal.invariant-loop-plan
invariant-loop-plan l = map (λ p. p.items) l.copy.items ≡ take l.plan-index (map (λ p. p.items) l.plans)
