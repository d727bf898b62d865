use Rattle.mpt_listing_laws.proofs.Cuts.{cut_inside}
use Rattle.mpt_listing_laws.proofs.laws.listing_cut_inside_a_line_is_bad.Goals as goal

pub returns : goal.returns
returns c = cut_inside
