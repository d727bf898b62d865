use Rattle.mpt_table.proofs.AnswerLemmas.{AnswersTables-only, NoPointer-only, AnswersFault-only}
use Rattle.mpt_table.proofs.reading.read.Goals as goal

pub returns-clause-only_tables : goal.returns-clause-only_tables
returns-clause-only_tables c = AnswersTables-only c.args.image.now c.answer.result c.answer.ensures.tables c.answer.ensures.refused

pub returns-clause-only_no_pointer : goal.returns-clause-only_no_pointer
returns-clause-only_no_pointer c = NoPointer-only c.args.image.now c.answer.result c.answer.ensures.tables c.answer.ensures.refused

pub returns-clause-only_fault : goal.returns-clause-only_fault
returns-clause-only_fault c = AnswersFault-only c.args.image.now c.answer.result c.answer.ensures.tables c.answer.ensures.refused
