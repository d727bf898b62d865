use Rattle.std.proofs.Common.{◌≡◌, ◌++◌, take}
use Rattle.std.specs.List.{flat_map}
use Rattle.mpt_spec.specs.Search.{places_in}
use Rattle.mpt_rows.proofs.plain.push_all_places.Given as goal

abbrev pub invariant-loop-area : goal.invariant-loop-area
invariant-loop-area l = l.out.items ≡ l.fn.out.items ++ flat_map places_in (take l.area-index l.areas)
