use Rattle.mpb_bits.proofs.WordLemmas.{members-zeros}
use Rattle.mpb_bits.proofs.rows.Rows.none.Goals as goal

pub returns : goal.returns
returns g c = record { empty = members-zeros g.row.N }
