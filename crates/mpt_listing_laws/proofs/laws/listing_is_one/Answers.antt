use Rattle.mpt_parse.proofs.Unique.{listing_is_one}
use Rattle.mpt_listing_laws.proofs.laws.listing_is_one.Goals as goal

pub returns : goal.returns
returns c = listing_is_one
