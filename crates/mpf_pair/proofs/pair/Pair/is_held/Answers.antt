use Rattle.std.proofs.Common.{sym, ◌∙◌, arith}
use Rattle.mpf_pair.proofs.ByteLemmas.{held-master, held-slave}
use Rattle.mpf_pair.proofs.pair.Pair.is_held.Goals as goal

pub returns-then-n-lt8 : goal.returns-then-n-lt8
returns-then-n-lt8 c = rw (← c.self.view_is) (c.has_up_to.ensures ∙ sym (held-master c.self.inside.master.marks c.self.inside.slave.marks c.args.n (omega arith)))

pub returns-else-n-lt8 : goal.returns-else-n-lt8
returns-else-n-lt8 c = rw (← c.self.view_is) (c.has_up_to-else-n-lt8.ensures ∙ sym (held-slave c.self.inside.master.marks c.self.inside.slave.marks c.args.n (omega arith) (omega arith)))
