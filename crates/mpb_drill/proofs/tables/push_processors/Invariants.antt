use Rattle.std.proofs.Common.{◌≡◌, ◌++◌, map}
use Rattle.std.specs.List.{range_with_len}
use Rattle.mpb_drill.specs.Drill.{processor}
use Rattle.mpb_drill.proofs.tables.push_processors.Given as goal

abbrev pub invariant-loop-id : goal.invariant-loop-id
invariant-loop-id l = l.entries.items ≡ l.initial.entries.items ++ map processor (range_with_len 0 l.id)
