use Rattle.std.proofs.Common.{rules}
use Rattle.mpb_bits.proofs.WordLemmas.{IsSetBelow-view}
use Rattle.mpb_bits.proofs.rows.Rows.top.Goals as goal

pub returns-clause-set : goal.returns-clause-set
returns-clause-set g c = IsSetBelow-view c.self.inside.words c.args.self.now g.row.N (search rules) c.self.view_is
