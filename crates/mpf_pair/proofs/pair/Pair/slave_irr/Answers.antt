use Rattle.std.proofs.Common.{sym, arith}
use Rattle.mpf_pair.proofs.ByteLemmas.{byte-slave}
use Rattle.mpf_pair.proofs.pair.Pair.slave_irr.Goals as goal

pub returns : goal.returns
returns c = rw (← c.self.view_is) (sym (byte-slave c.self.inside.master.requests c.self.inside.slave.requests (omega arith)))
