use Rattle.std.proofs.Common.{refl, arith}
use Rattle.mpf_pair.proofs.LineLemmas.{lines-put_master, lines-put_slave, stays-set}
use Rattle.mpf_pair.proofs.pair.Pair.rise.Goals as goal

pub returns-then-irq-lt8 : goal.returns-then-irq-lt8
returns-then-irq-lt8 c =
    let lines = lines-put_master c.self.inside.master.lines c.self.inside.slave.lines c.args.irq (omega arith) in
    let requests = lines-put_master c.self.inside.master.requests c.self.inside.slave.requests c.args.irq (omega arith) in
    rw (← c.self.view_is, c.with_bit-self-inside.ensures, c.with_bit-self-inside-then-irq-lt8.ensures, lines, requests) refl

pub returns-else-irq-lt8 : goal.returns-else-irq-lt8
returns-else-irq-lt8 c =
    let lines = lines-put_slave c.self.inside.master.lines c.self.inside.slave.lines c.args.irq (omega arith) (omega arith) in
    let requests = lines-put_slave c.self.inside.master.requests c.self.inside.slave.requests c.args.irq (omega arith) (omega arith) in
    rw (← c.self.view_is, c.with_bit-self-inside-else-irq-lt8.ensures, c.with_bit-self-inside-else-irq-lt8-2.ensures, lines, requests) refl

pub invariant_of-self : goal.invariant_of-self
invariant_of-self c =
    let requests = stays-set c.self.inside.master.requests c.args.irq (omega arith) c.requires.no_cascade c.self.invariant.2 in
    let lines = stays-set c.self.inside.master.lines c.args.irq (omega arith) c.requires.no_cascade c.self.invariant.3 in
    rw (c.with_bit-self-inside.ensures, c.with_bit-self-inside-then-irq-lt8.ensures) (c.self.invariant.0, c.self.invariant.1, requests, lines)
