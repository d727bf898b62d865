use Rattle.std.proofs.Common.{◌+◌, ◌<◌, ◌∙◌, ap, length, Err, refl, arith}
use Rattle.mpt_spec.specs.Faults.{HasTableFaultAt, IsLeastFault}
use Rattle.mpt_table.specs.Windows.{IfTold}
use Rattle.mpt_table.proofs.FromLemmas.{HasTableBytes-told, table_ok, table_err, fault_before, no_fault}
use Rattle.mpt_table.proofs.WordFromLemmas.{IsInsideTold-size}
use Rattle.mpt_table.proofs.ShelfLemmas.{room_left, in_room, ok_no_err, same_err, rises, asks_both, asks_more}
use Rattle.mpt_table.proofs.table_from.table_from.Goals as goal

pub returns-in-Ok-window : goal.returns-in-Ok-window
returns-in-Ok-window g c =
    let told = g.S.Shelf.files c.args.shelf.now in
    let name = c.args.name.now in
    let at = c.args.at in
    let value = c.deref.ensures.value in
    let all = c.deref-in-Ok-window.ensures.value in
    let first = c.in-Ok.ensures in
    let own = c.in-Ok-window.ensures in
    let bytes = c.in-Ok-window.bytes.items in
    let table = c.table_in.ensures in
    let same = HasTableBytes-told told name c.in-Ok.header.items bytes c.args.size at c.table_bytes.result c.requires.told c.requires.inside first.told first.all
    (rw first.files_stay at own.told) own.all c.table_bytes.ensures.header c.table_bytes.ensures.inside (rw value at c.table_bytes.ensures.base) (rw value at c.table_bytes.ensures.both) in
    record {
      files_stay = own.files_stay ∙ first.files_stay;
      faults_never_fall = rises _ _ _ first.faults_never_fall own.faults_never_fall;
      misses_stay = own.misses_stay ∙ first.misses_stay;
      asks = asks_both _ _ _ _ _ _ first.asks own.asks c.table_bytes.ensures.most;
      unread = λ unread. absurd (table.no_read unread);
      unfailed = λ _. own.unfailed (ok_no_err _ _) ∙ first.unfailed (ok_no_err _ _);
      table = table_ok told name bytes at c.table_in.result same (rw all at table.table);
      fault = table_err told name bytes at c.table_in.result same table.behind (rw all at table.fault);
      well_formed = table.well_formed;
      inside = fault_before c.table_in.result (at + length bytes) c.args.size (rw own.all (in_room at c.table_bytes.result c.args.size 44 c.requires.inside c.table_bytes.ensures.inside)) (rw all at table.inside);
      refusal = table.refusal;
    }

pub returns-in-Err : goal.returns-in-Err
returns-in-Err g c =
    let own = c.in-Err.ensures in
    let refusal = c.refusal_of.ensures in
    record {
      files_stay = own.files_stay;
      faults_never_fall = own.faults_never_fall;
      misses_stay = own.misses_stay;
      asks = asks_more _ _ 44 131070 own.asks;
      unread = λ e. own.unread (ap Err (refusal.read (same_err _ _ _ refl e)));
      unfailed = λ other. own.unfailed (λ e. other (ap Err (refusal.unread (same_err _ _ _ refl e))));
      table = tt;
      fault = no_fault c.refusal_of.result (λ f. IfTold (g.S.Shelf.files c.args.shelf.now) c.args.name.now (λ image. IsLeastFault (HasTableFaultAt image c.args.at) f.at f.why)) refusal.fault;
      well_formed = tt;
      inside = no_fault c.refusal_of.result (λ f. f.at < c.args.size) refusal.fault;
      refusal = refusal.refusal;
    }

pub window-requires : goal.window-requires
window-requires g c = record { inside = IsInsideTold-size (g.S.Shelf.files c.args.shelf.now) c.args.name.now c.args.size c.args.at 44 c.requires.told c.requires.inside }

pub table_bytes-requires : goal.table_bytes-requires
table_bytes-requires g c = record {
  header = ap length c.deref.ensures.value ∙ c.in-Ok.ensures.all;
  room = room_left c.args.at 44 c.args.size c.requires.inside;
}

pub window-requires-2 : goal.window-requires-2
window-requires-2 g c = record {
  inside = IsInsideTold-size (g.S.Shelf.files c.window.new.shelf) c.args.name.now c.args.size c.args.at c.table_bytes.result (rw c.in-Ok.ensures.files_stay c.requires.told) (in_room c.args.at c.table_bytes.result c.args.size 44 c.requires.inside c.table_bytes.ensures.inside);
}

pub table_in-requires : goal.table_in-requires
table_in-requires g c =
    let long = ap length c.deref-in-Ok-window.ensures.value ∙ c.in-Ok-window.ensures.all in
    record {
      header = rw long c.table_bytes.ensures.header;
      fits = rw long (omega (arith, in_room c.args.at c.table_bytes.result c.args.size 44 c.requires.inside c.table_bytes.ensures.inside));
    }
