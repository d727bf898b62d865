use Rattle.std.proofs.Common.{refl}
use Rattle.mpf_pair.proofs.LineLemmas.{others-master, others-slave}
use Rattle.mpf_pair.proofs.pair.Pair.start.Goals as goal

pub returns-in-Master : goal.returns-in-Master
returns-in-Master c =
    let requests = others-master c.self.inside.master.requests c.self.inside.slave.requests in
    let marks = others-master c.self.inside.master.marks c.self.inside.slave.marks in
    rw (← c.self.view_is, c.in-Master.is, c.start.ensures, requests, marks) refl

pub returns-in-Slave : goal.returns-in-Slave
returns-in-Slave c =
    let requests = others-slave c.self.inside.master.requests c.self.inside.slave.requests in
    let marks = others-slave c.self.inside.master.marks c.self.inside.slave.marks in
    rw (← c.self.view_is, c.in-Slave.is, c.start-in-Slave.ensures, requests, marks) refl
