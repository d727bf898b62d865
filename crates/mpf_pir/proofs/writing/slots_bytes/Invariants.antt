use Rattle.std.proofs.Common.{◌≡◌, ◌*◌, length, take}
use Rattle.mpf_pir.specs.Layout.{AreSlots}
use Rattle.mpf_pir.proofs.writing.slots_bytes.Given as goal

abbrev pub invariant-loop-slot : goal.invariant-loop-slot
invariant-loop-slot l = record {
  slots : AreSlots (take l.slot-index l.slots) l.out.items 0 (length l.out.items);
  size : length l.out.items ≡ 16 * l.slot-index;
}
