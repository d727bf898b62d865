use Rattle.std.proofs.Common.{◌∙◌, refl}
use Rattle.mpt_table.proofs.ToldLemmas.{IfTold-all}
use Rattle.mpt_table.proofs.ShelfLemmas.{ok_no_err, rises, asks_more, asks_sum}
use Rattle.mpt_table.proofs.reading_from.answer_from.Goals as goal

pub returns-in-Ok-Some : goal.returns-in-Ok-Some
returns-in-Ok-Some g c =
    let own = rw c.in-Ok-Some.field-0-is at c.in-Ok-Some.ensures in
    let all = c.tables_from.ensures in
    let stay = own.unfailed (ok_no_err _ _) in
    record {
      files_stay = all.files_stay ∙ own.files_stay;
      faults_never_fall = rises _ _ _ own.faults_never_fall all.faults_never_fall;
      misses_stay = all.misses_stay ∙ own.misses_stay;
      unread = λ unread. rw stay at (all.unread unread);
      unfailed = λ other. all.unfailed other ∙ stay;
      asks = asks_more _ _ 197678 16 (asks_sum _ _ _ _ _ own.asks all.asks);
      tables = rw own.files_stay at all.tables;
      refused = rw own.files_stay at all.refused;
      well_formed = all.well_formed;
      low = all.low;
      inside = all.inside;
    }

pub returns-in-Ok-None : goal.returns-in-Ok-None
returns-in-Ok-None g c =
    let own = rw c.in-Ok-None.field-0-is at c.in-Ok-None.ensures in
    record {
      files_stay = own.files_stay;
      faults_never_fall = own.faults_never_fall;
      misses_stay = own.misses_stay;
      unread = λ e. absurd cc;
      unfailed = λ _. own.unfailed (ok_no_err _ _);
      asks = asks_more _ _ 66564 131130 own.asks;
      tables = tt;
      refused = own.none;
      well_formed = tt;
      low = tt;
      inside = tt;
    }

pub returns-in-Err-Unread : goal.returns-in-Err-Unread
returns-in-Err-Unread g c =
    let own = rw c.in-Err-Unread.field-0-is at c.in-Err-Unread.ensures in
    record {
      files_stay = own.files_stay;
      faults_never_fall = own.faults_never_fall;
      misses_stay = own.misses_stay;
      unread = λ _. own.unread refl;
      unfailed = λ other. absurd (other refl);
      asks = asks_more _ _ 66564 131130 own.asks;
      tables = tt;
      refused = IfTold-all (g.S.Shelf.files c.args.shelf.now) c.args.name.now (λ image. Unit {0}) (λ image. tt);
      well_formed = tt;
      low = tt;
      inside = tt;
    }

pub returns-in-Err-NoMemory : goal.returns-in-Err-NoMemory
returns-in-Err-NoMemory g c =
    let own = rw c.in-Err-NoMemory.field-0-is at c.in-Err-NoMemory.ensures in
    record {
      files_stay = own.files_stay;
      faults_never_fall = own.faults_never_fall;
      misses_stay = own.misses_stay;
      unread = λ e. absurd cc;
      unfailed = λ _. own.unfailed (λ e. cc);
      asks = asks_more _ _ 66564 131130 own.asks;
      tables = tt;
      refused = IfTold-all (g.S.Shelf.files c.args.shelf.now) c.args.name.now (λ image. Unit {0}) (λ image. tt);
      well_formed = tt;
      low = tt;
      inside = tt;
    }
