use Rattle.std.proofs.Common.{◌≡◌, map}
use Rattle.std.specs.List.{range_with_len}
use Rattle.mpb_drill.specs.Drill.{pulses_of}
use Rattle.mpb_drill.proofs.script.devices_of.Given as goal

abbrev pub invariant-loop-j : goal.invariant-loop-j
invariant-loop-j l = l.devices.items ≡ map (pulses_of l.ioapics l.count) (range_with_len 0 l.j)
