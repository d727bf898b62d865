use Rattle.std.proofs.Common.{◌≡◌, ◌+◌, ◌++◌, map}
use Rattle.std.specs.List.{range_with_len}
use Rattle.mpb_drill.specs.Drill.{ioapic}
use Rattle.mpb_drill.proofs.tables.push_ioapics.Given as goal

abbrev pub invariant-loop-place : goal.invariant-loop-place
invariant-loop-place l = l.entries.items ≡ l.initial.entries.items ++ map (λ a. ioapic (l.first + a)) (range_with_len 0 l.place)
