use Rattle.mpt_laws.proofs.PlaceLemmas.{Contains-places_in}
use Rattle.mpt_laws.proofs.laws.places_of_an_area.Goals as goal

pub returns : goal.returns
returns c = Contains-places_in
