use Rattle.std.proofs.Common.{◌≡◌, ◌++◌, map}
use Rattle.std.specs.List.{range_with_len}
use Rattle.mpb_drill.specs.Drill.{interrupt}
use Rattle.mpb_drill.proofs.tables.push_pins.Given as goal

abbrev pub invariant-loop-pin : goal.invariant-loop-pin
invariant-loop-pin l = l.entries.items ≡ l.initial.entries.items ++ map (interrupt l.id l.place) (range_with_len 0 l.pin)
