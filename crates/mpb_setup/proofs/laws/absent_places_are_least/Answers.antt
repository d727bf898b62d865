use Rattle.mpb_setup.proofs.WordLemmas.{names_below}
use Rattle.mpb_setup.proofs.LawLemmas.{place_is_least}
use Rattle.mpb_setup.proofs.laws.absent_places_are_least.Goals as goal

pub returns-clause-absent : goal.returns-clause-absent
returns-clause-absent c = λ n ids s a e. (place_is_least n ids s a e).0

pub returns-clause-named : goal.returns-clause-named
returns-clause-named c = λ n ids s a e. (place_is_least n ids s a e).1

pub returns-clause-least : goal.returns-clause-least
returns-clause-least c = λ n ids s a b e. (place_is_least n ids s a e).2 b

pub returns-clause-none : goal.returns-clause-none
returns-clause-none c = λ n ids s a e. names_below n ids s e a
