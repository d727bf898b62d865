use Rattle.std.proofs.Common.{refl}
use Rattle.mpf_pair.proofs.StateLemmas.{ended-master, ended-slave}
use Rattle.mpf_pair.proofs.pair.Pair.end.Goals as goal

pub returns-in-Master : goal.returns-in-Master
returns-in-Master c = rw (← c.self.view_is, c.in-Master.is, c.end.ensures, ended-master c.args.v c.self.inside.master.marks c.self.inside.slave.marks) refl

pub returns-in-Slave : goal.returns-in-Slave
returns-in-Slave c = rw (← c.self.view_is, c.in-Slave.is, c.end-in-Slave.ensures, ended-slave c.args.v c.self.inside.master.marks c.self.inside.slave.marks) refl
