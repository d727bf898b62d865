use Rattle.mpt_table.proofs.AnswerLemmas.{AnswersFileTables-only, AnswersNoPointer-only, AnswersFileFault-only}
use Rattle.mpt_table.proofs.reading_from.read_from.Goals as goal

pub returns : goal.returns
returns g c =
    let told = g.S.Shelf.files c.args.shelf.now in
    let name = c.args.name.now in
    let answer = c.answer_from.result in
    let own = c.answer_from.ensures in
    record {
      files_stay = own.files_stay;
      faults_never_fall = own.faults_never_fall;
      misses_stay = own.misses_stay;
      unread = own.unread;
      unfailed = own.unfailed;
      asks = own.asks;
      tables = own.tables;
      refused = own.refused;
      well_formed = own.well_formed;
      low = own.low;
      inside = own.inside;
      only_tables = AnswersFileTables-only told name answer own.tables own.refused;
      only_no_pointer = AnswersNoPointer-only told name answer own.tables own.refused;
      only_fault = AnswersFileFault-only told name answer own.tables own.refused;
    }
