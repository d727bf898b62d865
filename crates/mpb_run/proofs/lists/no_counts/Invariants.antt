use Rattle.std.proofs.Common.{◌≡◌, map, replicate}
use Rattle.mpb_run.proofs.lists.no_counts.Given as goal

abbrev pub invariant-loop : goal.invariant-loop
invariant-loop l = map (λ v. v.items) l.counts.items ≡ replicate l.counter (replicate 24 0)
