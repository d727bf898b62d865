use Rattle.std.proofs.Common.{ap, Err, refl, arith}
use Rattle.mpt_table.proofs.PointerFaults.{IsPointerFault-near}
use Rattle.mpt_table.proofs.FromLemmas.{pointer_fault-told, table_refusal-told, Describes-told}
use Rattle.mpt_table.proofs.ShelfLemmas.{ok_no_err, same_err, keeps, asks_none}
use Rattle.mpt_table.proofs.reading_from.tables_from.Goals as goal

pub returns-in-Some : goal.returns-in-Some
returns-in-Some g c =
    let found = c.args.found in
    let f = c.in-Some.fault in
    let own = c.in-Some.ensures.some in
    record {
      files_stay = refl;
      faults_never_fall = keeps _;
      misses_stay = refl;
      unread = λ e. absurd cc;
      unfailed = λ _. refl;
      asks = asks_none _ _;
      tables = tt;
      refused = pointer_fault-told (g.S.Shelf.files c.args.shelf.now) c.args.name.now c.args.size found.at f.at found.pointer f.why c.requires.told c.requires.first own;
      well_formed = tt;
      low = tt;
      inside = omega (arith, c.requires.place.inside, IsPointerFault-near found.pointer c.args.size found.at f.at f.why own.stands);
    }

pub returns-in-Ok : goal.returns-in-Ok
returns-in-Ok g c =
    let found = c.args.found in
    let own = c.in-Ok.ensures in
    let revision = c.in_default.ensures.none.revision in
    record {
      files_stay = own.files_stay;
      faults_never_fall = own.faults_never_fall;
      misses_stay = own.misses_stay;
      unread = λ e. absurd (ok_no_err _ _ e);
      unfailed = λ _. own.unfailed (ok_no_err _ _);
      asks = own.asks;
      tables = Describes-told (g.S.Shelf.files c.args.shelf.now) c.args.name.now found.at found.pointer c.in-Ok.body revision c.requires.first own.body;
      refused = tt;
      well_formed = record { revision = revision; body = own.well_formed; paragraph = c.requires.place.paragraph };
      low = c.requires.place.low;
      inside = tt;
    }

pub returns-in-Err : goal.returns-in-Err
returns-in-Err g c =
    let found = c.args.found in
    let own = c.in-Err.ensures in
    record {
      files_stay = own.files_stay;
      faults_never_fall = own.faults_never_fall;
      misses_stay = own.misses_stay;
      unread = λ e. own.unread (ap Err (same_err _ _ _ refl e));
      unfailed = λ other. own.unfailed (λ e. other (ap Err (same_err _ _ _ refl e)));
      asks = own.asks;
      tables = tt;
      refused = table_refusal-told (g.S.Shelf.files c.args.shelf.now) c.args.name.now c.args.size found.at found.pointer c.in-Err.refusal c.requires.told c.requires.first c.in_default.ensures.none own.listed own.refusal own.fault;
      well_formed = tt;
      low = tt;
      inside = own.inside;
    }
