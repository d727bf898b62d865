use Rattle.std.proofs.Common.{◌≡◌, ◌+◌, ◌++◌, map}
use Rattle.std.specs.List.{range_with_len}
use Rattle.mpb_drill.specs.Drill.{sends}
use Rattle.mpb_drill.proofs.script.push_others.Given as goal

abbrev pub invariant-loop-k : goal.invariant-loop-k
invariant-loop-k l = l.cpus.items ≡ l.initial.cpus.items ++ map (λ k. record { id = 1 + k; words = sends l.pauses (1 + k) }) (range_with_len 0 l.k)
