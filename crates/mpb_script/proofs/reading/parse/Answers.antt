use Rattle.mpb_script.proofs.AnswerLemmas.{AnswersScript-only, AnswersFault-only}
use Rattle.mpb_script.proofs.ValueLemmas.{values_of_answer}
use Rattle.mpb_script.proofs.reading.parse.Goals as goal

pub returns-clause-values : goal.returns-clause-values
returns-clause-values c = values_of_answer c.args.text.now c.answer.result c.answer.ensures.script

pub returns-clause-only_script : goal.returns-clause-only_script
returns-clause-only_script c = AnswersScript-only c.args.text.now c.answer.result c.answer.ensures.script c.answer.ensures.refused

pub returns-clause-only_fault : goal.returns-clause-only_fault
returns-clause-only_fault c = AnswersFault-only c.args.text.now c.answer.result c.answer.ensures.script c.answer.ensures.refused
