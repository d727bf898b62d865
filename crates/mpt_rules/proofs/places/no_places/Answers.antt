use Rattle.mpt_rules.proofs.PlaceLemmas.{no_first}
use Rattle.mpt_rules.proofs.places.no_places.Goals as goal

pub returns : goal.returns
returns c = no_first
