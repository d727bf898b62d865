use Rattle.std.proofs.Common.{◌≤◌, length, take}
use Rattle.mpf_pir.specs.Index.{AreFirsts}
use Rattle.mpf_pir.proofs.pins.firsts_by.Given as goal

abbrev pub invariant-loop-e : goal.invariant-loop-e
invariant-loop-e l = record {
  are : AreFirsts l.by (take l.e-index l.entries) l.found.items l.places.items;
  few : length l.found.items ≤ l.e-index;
}
