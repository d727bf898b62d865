use Rattle.std.proofs.Common.{ap, Err, refl}
use Rattle.mpt_table.proofs.FromLemmas.{area_some, area_none, area_place}
use Rattle.mpt_table.proofs.ShelfLemmas.{ok_no_err, same_err}
use Rattle.mpt_table.proofs.search_from.area_from.Goals as goal

pub returns-in-Ok : goal.returns-in-Ok
returns-in-Ok g c =
    let told = g.S.Shelf.files c.args.shelf.now in
    let own = c.in-Ok.ensures in
    let bytes = c.in-Ok.bytes.items in
    let value = c.deref.ensures.value in
    record {
      files_stay = own.files_stay;
      faults_never_fall = own.faults_never_fall;
      misses_stay = own.misses_stay;
      asks = own.asks;
      unread = λ e. absurd (ok_no_err _ _ e);
      unfailed = λ _. own.unfailed (ok_no_err _ _);
      some = area_some told c.args.name.now c.args.size c.args.area bytes c.first_in.result c.requires.area own.all (rw value at c.first_in.ensures.some) (rw value at c.first_in.ensures.inside) own.told;
      none = area_none told c.args.name.now c.args.size c.args.area bytes c.first_in.result c.requires.area own.all (rw value at c.first_in.ensures.none) own.told;
      place = area_place c.args.size c.args.area bytes c.first_in.result c.requires.area own.all (rw value at c.first_in.ensures.some) c.first_in.ensures.paragraph (rw value at c.first_in.ensures.inside);
    }

pub returns-in-Err : goal.returns-in-Err
returns-in-Err g c =
    let own = c.in-Err.ensures in
    record {
      files_stay = own.files_stay;
      faults_never_fall = own.faults_never_fall;
      misses_stay = own.misses_stay;
      asks = own.asks;
      unread = λ e. own.unread (ap Err (same_err _ _ _ refl e));
      unfailed = λ other. own.unfailed (λ e. other (ap Err (same_err _ _ _ refl e)));
      some = tt;
      none = tt;
      place = tt;
    }
