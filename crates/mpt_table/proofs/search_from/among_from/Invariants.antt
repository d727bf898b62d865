use Rattle.std.proofs.Common.{◌≡◌, ◌≤◌, ◌+◌, drop}
use Rattle.std.specs.List.{flat_map, AllByRecursion}
use Rattle.mpt_spec.specs.Search.{places_in, HasPointerAt}
use Rattle.mpt_pointer.proofs.FirstLemmas.{KeepsFirst}
use Rattle.mpt_table.specs.Windows.{IfTold, IsAreaIn, area_bytes}
use Rattle.mpt_table.proofs.search_from.among_from.Given as goal

abbrev pub invariant-loop-area : goal.invariant-loop-area
invariant-loop-area g l = record {
  files : g.S.Shelf.files l.shelf ≡ g.S.Shelf.files l.initial.shelf;
  faults : g.S.Shelf.faults l.shelf ≡ g.S.Shelf.faults l.initial.shelf;
  misses : g.S.Shelf.misses l.shelf ≡ g.S.Shelf.misses l.initial.shelf;
  asked : g.S.Shelf.asked l.shelf + area_bytes (drop l.area-index l.areas) ≤ g.S.Shelf.asked l.initial.shelf + area_bytes l.areas;
  areas : AllByRecursion (IsAreaIn l.size) (drop l.area-index l.areas);
  passed : IfTold (g.S.Shelf.files l.initial.shelf) l.name (λ image. KeepsFirst (HasPointerAt image) (flat_map places_in (drop l.area-index l.areas)) (flat_map places_in l.areas));
}
