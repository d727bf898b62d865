use Rattle.mpt_parse.proofs.Unique.{lines_make_the_listing}
use Rattle.mpt_parse.proofs.WholeLines.{lines_whole}
use Rattle.mpt_listing_laws.proofs.laws.lines_make_the_listing.Goals as goal

pub returns-clause-text : goal.returns-clause-text
returns-clause-text c = lines_make_the_listing

pub returns-clause-lines : goal.returns-clause-lines
returns-clause-lines c = lines_whole
