use Rattle.mpt_route_laws.proofs.RowLemmas.{is_row_of}
use Rattle.mpt_route_laws.proofs.laws.rows_say_what_the_entry_asks.Goals as goal

pub returns : goal.returns
returns c = is_row_of
