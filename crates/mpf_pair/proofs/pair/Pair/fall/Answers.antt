use Rattle.std.proofs.Common.{refl, arith}
use Rattle.mpf_pair.proofs.LineLemmas.{lines-take_master, lines-take_slave, stays-cleared}
use Rattle.mpf_pair.proofs.pair.Pair.fall.Goals as goal

pub returns-then-irq-lt8 : goal.returns-then-irq-lt8
returns-then-irq-lt8 c =
    let lines = lines-take_master c.self.inside.master.lines c.self.inside.slave.lines c.args.irq (omega arith) in
    rw (← c.self.view_is, c.without_bit-self-inside.ensures, lines) refl

pub returns-else-irq-lt8 : goal.returns-else-irq-lt8
returns-else-irq-lt8 c =
    let lines = lines-take_slave c.self.inside.master.lines c.self.inside.slave.lines c.args.irq (omega arith) (omega arith) in
    rw (← c.self.view_is, c.without_bit-self-inside-else-irq-lt8.ensures, lines) refl

pub invariant_of-self : goal.invariant_of-self
invariant_of-self c = rw c.without_bit-self-inside.ensures (c.self.invariant.0, c.self.invariant.1, c.self.invariant.2, stays-cleared c.self.inside.master.lines c.args.irq (omega arith) c.self.invariant.3)
