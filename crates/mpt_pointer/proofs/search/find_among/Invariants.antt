use Rattle.std.proofs.Common.{drop}
use Rattle.std.specs.List.{flat_map}
use Rattle.mpt_spec.specs.Search.{places_in, HasPointerAt}
use Rattle.mpt_pointer.proofs.FirstLemmas.{KeepsFirst}
use Rattle.mpt_pointer.proofs.search.find_among.Given as goal

abbrev pub invariant-loop-area : goal.invariant-loop-area
invariant-loop-area l = KeepsFirst (HasPointerAt l.image) (flat_map places_in (drop l.area-index l.areas)) (flat_map places_in l.areas)
