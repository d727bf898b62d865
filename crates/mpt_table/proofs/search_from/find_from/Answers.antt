use Rattle.std.proofs.Common.{◌∙◌, refl}
use Rattle.std.specs.List.{flat_map}
use Rattle.mpt_spec.specs.Search.{places_in}
use Rattle.mpt_table.proofs.FromLemmas.{found_first, none_first}
use Rattle.mpt_table.proofs.ShelfLemmas.{rises, asks_both, asks_more}
use Rattle.mpt_table.proofs.search_from.find_from.Goals as goal

pub returns-in-Ok : goal.returns-in-Ok
returns-in-Ok g c =
    let told = g.S.Shelf.files c.args.shelf.now in
    let places = flat_map places_in c.in-Ok.areas.items in
    let own = c.in-Ok.ensures in
    let value = c.as_slice.ensures.value in
    let among = c.among_from.ensures in
    record {
      files_stay = among.files_stay ∙ own.files_stay;
      faults_never_fall = rises _ _ _ own.faults_never_fall among.faults_never_fall;
      misses_stay = among.misses_stay ∙ own.misses_stay;
      asks = asks_both _ _ _ _ _ _ own.asks (rw value at among.asks) own.bytes;
      unread = λ unread. rw own.unfailed at (among.unread unread);
      unfailed = λ other. among.unfailed other ∙ own.unfailed;
      some = found_first told c.args.name.now places c.among_from.result own.told (rw (own.files_stay, value) at among.some);
      none = none_first told c.args.name.now places c.among_from.result own.told (rw (own.files_stay, value) at among.none);
      place = among.place;
    }

pub returns-in-Err : goal.returns-in-Err
returns-in-Err g c =
    let own = c.in-Err.ensures in
    record {
      files_stay = own.files_stay;
      faults_never_fall = own.faults_never_fall;
      misses_stay = own.misses_stay;
      asks = asks_more _ _ 4 66560 own.asks;
      unread = λ _. own.unread;
      unfailed = λ other. absurd (other refl);
      some = tt;
      none = tt;
      place = tt;
    }
