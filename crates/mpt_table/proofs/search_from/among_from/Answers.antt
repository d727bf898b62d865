use Rattle.std.proofs.Common.{◌+◌, ◌∙◌, get_or, drop, arith}
use Rattle.std.specs.List.{flat_map}
use Rattle.std.proofs.lemmas.List.{drop_more, drop_all}
use Rattle.mpt_spec.specs.declared.pointer.Area.{Area}
use Rattle.mpt_spec.specs.Search.{places_in}
use Rattle.mpt_table.proofs.FromLemmas.{passed-next, found_behind, none_of_all}
use Rattle.mpt_table.proofs.ShelfLemmas.{ok_no_err, asks_areas, asks_next}
use Rattle.mpt_table.proofs.search_from.among_from.Goals as goal

pub area_from-requires : goal.area_from-requires
area_from-requires g c =
    let none : Area = record { from = 0; to = 0 } in
    record {
      told = rw c.loop-area.invariant.files c.requires.told;
      area = (rw (drop_more c.args.areas.now c.loop-area.area-index none c.loop-area-test.true) at c.loop-area.invariant.areas).0;
    }

pub loop-area-preserved : goal.loop-area-preserved
loop-area-preserved g c =
    let areas = c.args.areas.now in
    let i = c.loop-area.area-index in
    let none : Area = record { from = 0; to = 0 } in
    let more = drop_more areas i none c.loop-area-test.true in
    let own = rw c.in-Ok-None.field-0-is at c.in-Ok-None.ensures in
    let held = c.loop-area.invariant in
    record {
      files = own.files_stay ∙ held.files;
      faults = own.unfailed (ok_no_err _ _) ∙ held.faults;
      misses = own.misses_stay ∙ held.misses;
      asked = asks_next _ _ _ _ _ _ (rw more at held.asked) own.asks;
      areas = (rw more at held.areas).1;
      passed = passed-next (g.S.Shelf.files c.args.shelf.now) c.args.name.now (get_or areas i none) (drop (i + 1) areas) (flat_map places_in areas) (rw held.files at own.none) (rw more at held.passed);
    }

pub returns-in-Ok-Some : goal.returns-in-Ok-Some
returns-in-Ok-Some g c =
    let areas = c.args.areas.now in
    let i = c.loop-area.area-index in
    let none : Area = record { from = 0; to = 0 } in
    let more = drop_more areas i none c.loop-area-test.true in
    let own = rw c.in-Ok-Some.field-0-is at c.in-Ok-Some.ensures in
    let held = c.loop-area.invariant in
    let found = c.in-Ok-Some.found in
    record {
      files_stay = own.files_stay ∙ held.files;
      faults_never_fall = rw held.faults at own.faults_never_fall;
      misses_stay = own.misses_stay ∙ held.misses;
      asks = asks_areas _ _ _ _ _ _ (rw more at held.asked) own.asks;
      unread = λ e. absurd (ok_no_err _ _ e);
      unfailed = λ _. own.unfailed (ok_no_err _ _) ∙ held.faults;
      some = found_behind (g.S.Shelf.files c.args.shelf.now) c.args.name.now (get_or areas i none) (drop (i + 1) areas) (flat_map places_in areas) found.at found.pointer (rw held.files at own.some) (rw more at held.passed);
      none = tt;
      place = own.place;
    }

pub returns-in-Err : goal.returns-in-Err
returns-in-Err g c =
    let none : Area = record { from = 0; to = 0 } in
    let own = c.in-Err.ensures in
    let held = c.loop-area.invariant in
    record {
      files_stay = own.files_stay ∙ held.files;
      faults_never_fall = rw held.faults at own.faults_never_fall;
      misses_stay = own.misses_stay ∙ held.misses;
      asks = asks_areas _ _ _ _ _ _ (rw (drop_more c.args.areas.now c.loop-area.area-index none c.loop-area-test.true) at held.asked) own.asks;
      unread = λ unread. rw held.faults at (own.unread unread);
      unfailed = λ other. own.unfailed other ∙ held.faults;
      some = tt;
      none = tt;
      place = tt;
    }

pub returns : goal.returns
returns g c =
    let areas = c.args.areas.now in
    let held = c.loop-area.invariant in
    record {
      files_stay = held.files;
      faults_never_fall = omega (arith, held.faults);
      misses_stay = held.misses;
      asks = omega (arith, held.asked);
      unread = λ e. absurd (ok_no_err _ _ e);
      unfailed = λ _. held.faults;
      some = tt;
      none = none_of_all (g.S.Shelf.files c.args.shelf.now) c.args.name.now (flat_map places_in areas) (rw (drop_all c.loop-area.area-index areas (omega (arith, c.loop-area-test.false))) at held.passed);
      place = tt;
    }
