use Rattle.mpb_robin.proofs.Ends.{complete, accounts}
use Rattle.mpb_robin.proofs.laws.quiet_runs_are_complete.Goals as goal

pub returns-clause-complete : goal.returns-clause-complete
returns-clause-complete c = complete

pub returns-clause-accounts : goal.returns-clause-accounts
returns-clause-accounts c = accounts
