use Rattle.mpb_script.proofs.AnswerLemmas.{IsScriptOf-unique}
use Rattle.mpb_script.proofs.ValueLemmas.{IsScriptOf-values}
use Rattle.mpb_script_laws.proofs.laws.script_of_a_text_is_one.Goals as goal

pub returns-clause-one : goal.returns-clause-one
returns-clause-one c = IsScriptOf-unique

pub returns-clause-values : goal.returns-clause-values
returns-clause-values c = IsScriptOf-values
