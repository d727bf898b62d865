use Rattle.mpt_listing_laws.proofs.Cuts.{behind_late}
use Rattle.mpt_listing_laws.proofs.laws.bytes_behind_a_listing_are_late.Goals as goal

pub returns : goal.returns
returns c = behind_late
