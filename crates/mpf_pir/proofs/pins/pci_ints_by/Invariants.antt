use Rattle.std.proofs.Common.{◌≡◌, ◌≤◌, length, take}
use Rattle.std.specs.Prelude.{filter}
use Rattle.std.specs.List.{AllByRecursion}
use Rattle.mpf_pir.specs.Pins.{is_on_pci}
use Rattle.mpf_pir.specs.Index.{HasBytePin}
use Rattle.mpf_pir.proofs.pins.pci_ints_by.Given as goal

abbrev pub invariant-loop-e : goal.invariant-loop-e
invariant-loop-e l = record {
  chosen : l.ints.items ≡ filter (is_on_pci l.p) (take l.e-index l.e-items);
  few : length l.ints.items ≤ l.e-index;
  bytes : AllByRecursion HasBytePin l.ints.items;
}
