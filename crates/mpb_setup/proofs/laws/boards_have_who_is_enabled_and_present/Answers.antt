use Rattle.mpb_setup.proofs.BoardLemmas.{ids_ascending}
use Rattle.mpb_setup.proofs.LawLemmas.{on_board}
use Rattle.mpb_setup.proofs.laws.boards_have_who_is_enabled_and_present.Goals as goal

pub returns-clause-ascending : goal.returns-clause-ascending
returns-clause-ascending c = ids_ascending

pub returns-clause-members : goal.returns-clause-members
returns-clause-members c = on_board
