use Rattle.std.proofs.Common.{◌≡◌, map, take}
use Rattle.mpf_pir.specs.Index.{slot_with}
use Rattle.mpf_pir.proofs.making.slots_of.Given as goal

abbrev pub invariant-loop-e : goal.invariant-loop-e
invariant-loop-e l = l.slots.items ≡ map (slot_with l.pins.entries.items l.wires.entries.items) (take l.e-index l.devices)
