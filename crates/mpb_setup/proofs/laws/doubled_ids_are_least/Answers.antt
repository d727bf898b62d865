use Rattle.mpb_setup.proofs.LawLemmas.{double_is_least, no_double}
use Rattle.mpb_setup.proofs.laws.doubled_ids_are_least.Goals as goal

pub returns-clause-shared : goal.returns-clause-shared
returns-clause-shared c = λ ids d e. (double_is_least ids d e).0

pub returns-clause-least : goal.returns-clause-least
returns-clause-least c = λ ids d k e. (double_is_least ids d e).1 k

pub returns-clause-none : goal.returns-clause-none
returns-clause-none c = λ ids k e. no_double ids e k
