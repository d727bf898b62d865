use Rattle.std.proofs.Common.{◌≡◌, ◌-◌, ◌%◌, ◌≤◌, length}
use Rattle.mpf_pir.specs.Layout.{AreSlots}
use Rattle.mpf_pir.proofs.reading.slots_of.Given as goal

abbrev pub invariant-loop-at : goal.invariant-loop-at
invariant-loop-at l = record {
  slots : AreSlots l.slots.items l.bytes 32 l.at;
  inside : l.at ≤ length l.bytes;
  whole : (length l.bytes - l.at) % 16 ≡ 0;
}

abbrev pub decreases-loop-at : goal.decreases-loop-at
decreases-loop-at l = length l.bytes - l.at
