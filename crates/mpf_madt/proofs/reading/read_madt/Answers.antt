use Rattle.std.proofs.Common.{arith}
use Rattle.mpf_madt.proofs.FaultLemmas.{AnswersMadt-only, AnswersMadtFault-only}
use Rattle.mpf_madt.proofs.LawfulLemmas.{IsLawfulMadt-read}
use Rattle.mpf_madt.proofs.reading.read_madt.Goals as goal

pub returns-clause-only_table : goal.returns-clause-only_table
returns-clause-only_table c = AnswersMadt-only c.args.bytes.now c.answer-result.result c.answer-result.ensures.table c.answer-result.ensures.fault

pub returns-clause-only_fault : goal.returns-clause-only_fault
returns-clause-only_fault c = AnswersMadtFault-only c.args.bytes.now c.answer-result.result c.answer-result.ensures.table c.answer-result.ensures.fault

pub returns-clause-lawful : goal.returns-clause-lawful
returns-clause-lawful c = IsLawfulMadt-read c.args.bytes.now c.answer-result.result (λ i. omega (arith, c.type_inv.bytes i)) c.requires.size c.answer-result.ensures.table
