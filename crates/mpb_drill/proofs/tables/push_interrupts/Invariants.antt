use Rattle.std.proofs.Common.{◌≡◌, ◌+◌, ◌++◌, map}
use Rattle.std.specs.List.{range_with_len, flat_map}
use Rattle.mpb_drill.specs.Drill.{interrupt}
use Rattle.mpb_drill.proofs.tables.push_interrupts.Given as goal

abbrev pub invariant-loop-place : goal.invariant-loop-place
invariant-loop-place l = l.entries.items ≡ l.initial.entries.items ++ flat_map (λ a. map (interrupt (l.first + a) a) (range_with_len 0 24)) (range_with_len 0 l.place)
