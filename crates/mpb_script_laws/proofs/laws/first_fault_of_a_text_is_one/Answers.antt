use Rattle.mpb_script.proofs.AnswerLemmas.{HasFault-unique, IsScriptOf-no_fault}
use Rattle.mpb_script_laws.proofs.laws.first_fault_of_a_text_is_one.Goals as goal

pub returns-clause-one : goal.returns-clause-one
returns-clause-one c = HasFault-unique

pub returns-clause-none : goal.returns-clause-none
returns-clause-none c = IsScriptOf-no_fault
