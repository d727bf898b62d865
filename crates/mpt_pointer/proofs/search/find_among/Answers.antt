use Rattle.std.proofs.Common.{◌+◌, get_or, drop, arith}
use Rattle.std.specs.List.{flat_map}
use Rattle.std.proofs.lemmas.List.{drop_more, drop_all}
use Rattle.mpt_spec.specs.declared.pointer.Area.{Area}
use Rattle.mpt_spec.specs.Search.{HasPointerAt, places_in}
use Rattle.mpt_pointer.proofs.FirstLemmas.{KeepsFirst-behind, IsFirst-front}
use Rattle.mpt_pointer.proofs.search.find_among.Goals as goal

pub returns-in-Some-clause-some : goal.returns-in-Some-clause-some
returns-in-Some-clause-some c =
    let P = HasPointerAt c.args.image.now in
    let areas = c.args.areas.now in
    let i = c.loop-area.area-index in
    let none : Area = record { from = 0; to = 0 } in
    let kept = rw (drop_more areas i none c.loop-area-test.true) at c.loop-area.invariant in
    kept.first c.in-Some.at (IsFirst-front P (places_in (get_or areas i none)) (flat_map places_in (drop (i + 1) areas)) c.in-Some.at c.in-Some.ensures.some)

pub loop-area-preserved : goal.loop-area-preserved
loop-area-preserved c =
    let P = HasPointerAt c.args.image.now in
    let areas = c.args.areas.now in
    let i = c.loop-area.area-index in
    let none : Area = record { from = 0; to = 0 } in
    KeepsFirst-behind P (places_in (get_or areas i none)) (flat_map places_in (drop (i + 1) areas)) (flat_map places_in areas) c.in_default.ensures.none
    (rw (drop_more areas i none c.loop-area-test.true) at c.loop-area.invariant)

pub returns-clause-none : goal.returns-clause-none
returns-clause-none c =
    let kept = rw (drop_all c.loop-area.area-index c.args.areas.now (omega (arith, c.loop-area-test.false))) at c.loop-area.invariant in
    kept.none tt
