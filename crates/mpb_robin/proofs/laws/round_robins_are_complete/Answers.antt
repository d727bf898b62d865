use Rattle.mpb_robin.proofs.AtTheEnd.{is_complete, is_accounted}
use Rattle.mpb_robin.proofs.laws.round_robins_are_complete.Goals as goal

pub returns-clause-complete : goal.returns-clause-complete
returns-clause-complete c = is_complete

pub returns-clause-accounts : goal.returns-clause-accounts
returns-clause-accounts c = is_accounted
