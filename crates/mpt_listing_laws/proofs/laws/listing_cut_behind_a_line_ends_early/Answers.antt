use Rattle.mpt_listing_laws.proofs.Cuts.{cut_behind}
use Rattle.mpt_listing_laws.proofs.laws.listing_cut_behind_a_line_ends_early.Goals as goal

pub returns : goal.returns
returns c = cut_behind
