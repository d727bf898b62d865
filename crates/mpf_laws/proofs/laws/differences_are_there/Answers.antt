use Rattle.mpf_laws.proofs.DifferencesThere.{differences-there}
use Rattle.mpf_laws.proofs.laws.differences_are_there.Goals as goal

pub returns : goal.returns
returns c = differences-there
