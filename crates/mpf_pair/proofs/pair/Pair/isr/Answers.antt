use Rattle.std.proofs.Common.{sym, arith}
use Rattle.mpf_pair.proofs.ByteLemmas.{byte-master, byte-slave}
use Rattle.mpf_pair.proofs.pair.Pair.isr.Goals as goal

pub returns-in-Master : goal.returns-in-Master
returns-in-Master c = rw (← c.self.view_is, c.in-Master.is) (sym (byte-master c.self.inside.master.marks c.self.inside.slave.marks (omega arith)))

pub returns-in-Slave : goal.returns-in-Slave
returns-in-Slave c = rw (← c.self.view_is, c.in-Slave.is) (sym (byte-slave c.self.inside.master.marks c.self.inside.slave.marks (omega arith)))
