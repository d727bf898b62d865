use Rattle.std.proofs.Common.{◌≡◌, ◌/◌, ◌%◌, ◌==◌, map, filter}
use Rattle.std.specs.List.{range_with_len}
use Rattle.mpb_spec.specs.declared.config.DevWord.TheVariants.{Pulse}
use Rattle.mpb_drill.proofs.script.pulses_of.Given as goal

abbrev pub invariant-loop-k : goal.invariant-loop-k
invariant-loop-k l = l.words.items ≡ map (λ k. Pulse (k / 24) (k % 24)) (filter (λ k. k % l.devices == l.j) (range_with_len 0 l.k))
