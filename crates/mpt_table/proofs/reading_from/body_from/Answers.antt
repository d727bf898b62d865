use Rattle.std.proofs.Common.{◌≤◌, ap, Err, refl, arith}
use Rattle.mpt_spec.specs.declared.tables.Body.TheVariants as body
use Rattle.mpt_spec.specs.Table.{IsBodyOf, IsConfigurationTable, default_number}
use Rattle.mpt_table.proofs.ToldLemmas.{IfTold-map, IfTold-all}
use Rattle.mpt_table.proofs.ShelfLemmas.{ok_no_err, same_err, keeps, asks_none}
use Rattle.mpt_table.proofs.reading_from.body_from.Goals as goal

pub returns-then-pointer-ne0 : goal.returns-then-pointer-ne0
returns-then-pointer-ne0 g c =
    let p = c.args.pointer.now in
    let n = default_number p in
    let some : 1 ≤ n = omega (arith, c.if-pointer-ne0.true) in
    record {
      files_stay = refl;
      faults_never_fall = keeps _;
      misses_stay = refl;
      unread = λ e. absurd (ok_no_err _ _ e);
      unfailed = λ _. refl;
      asks = asks_none _ _;
      body = IfTold-all (g.S.Shelf.files c.args.shelf.now) c.args.name.now (λ image. IsBodyOf (body.Default n) p image) (λ image. (refl, some, c.requires.right.low));
      well_formed = (refl, some, c.requires.right.low);
      listed = tt;
      fault = tt;
      inside = tt;
      refusal = tt;
    }

pub returns-in-Ok : goal.returns-in-Ok
returns-in-Ok g c =
    let p = c.args.pointer.now in
    let table = c.in-Ok.table in
    let listed = c.if-pointer-ne0.false in
    let own = c.in-Ok.ensures in
    record {
      files_stay = own.files_stay;
      faults_never_fall = own.faults_never_fall;
      misses_stay = own.misses_stay;
      unread = λ e. absurd (ok_no_err _ _ e);
      unfailed = λ _. own.unfailed (ok_no_err _ _);
      asks = own.asks;
      body =
          IfTold-map (g.S.Shelf.files c.args.shelf.now) c.args.name.now (λ image. IsConfigurationTable table image p.address) (λ image. IsBodyOf (body.Listed table) p image)
          (λ image there. (listed, c.requires.right.body listed, there)) (rw c.from.ensures at own.table);
      well_formed = (listed, c.requires.right.body listed, own.well_formed);
      listed = tt;
      fault = tt;
      inside = tt;
      refusal = tt;
    }

pub returns-in-Err : goal.returns-in-Err
returns-in-Err g c =
    let own = c.in-Err.ensures in
    record {
      files_stay = own.files_stay;
      faults_never_fall = own.faults_never_fall;
      misses_stay = own.misses_stay;
      unread = λ e. own.unread (ap Err (same_err _ _ _ refl e));
      unfailed = λ other. own.unfailed (λ e. other (ap Err (same_err _ _ _ refl e)));
      asks = own.asks;
      body = tt;
      well_formed = tt;
      listed = c.if-pointer-ne0.false;
      fault = rw c.from.ensures at own.fault;
      inside = own.inside;
      refusal = own.refusal;
    }
