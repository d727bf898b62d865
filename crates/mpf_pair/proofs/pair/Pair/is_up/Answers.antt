use Rattle.std.proofs.Common.{sym, ◌∙◌}
use Rattle.mpf_pair.proofs.LineLemmas.{has-line}
use Rattle.mpf_pair.proofs.pair.Pair.is_up.Goals as goal

pub returns : goal.returns
returns c = rw (← c.self.view_is) (c.has_line.ensures ∙ sym (has-line c.self.inside.master.lines c.self.inside.slave.lines c.args.n c.requires))
