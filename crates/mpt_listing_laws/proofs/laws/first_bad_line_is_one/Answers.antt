use Rattle.mpt_parse.proofs.Unique.{bad_line_is_one, listing_is_not_bad}
use Rattle.mpt_listing_laws.proofs.laws.first_bad_line_is_one.Goals as goal

pub returns-clause-one : goal.returns-clause-one
returns-clause-one c = bad_line_is_one

pub returns-clause-none : goal.returns-clause-none
returns-clause-none c = listing_is_not_bad
