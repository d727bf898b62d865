use Rattle.std.proofs.Common.{refl, arith}
use Rattle.std.specs.Prelude.{◌^◌, bit_or, ◌-◌}
use Rattle.std.proofs.lemmas.Bool.{lt-ltb, le-ltb}
use Rattle.mpf_pair.proofs.LineLemmas.{lines-put_master, lines-put_slave, lines-take_master, lines-take_slave, stays-cleared}
use Rattle.mpf_pair.proofs.pair.Pair.acknowledge.Goals as goal

pub returns-then-n-lt8 : goal.returns-then-n-lt8
returns-then-n-lt8 c =
    let n = c.args.n in
    let requests = lines-take_master c.self.inside.master.requests c.self.inside.slave.requests n (omega arith) in
    let marks = lines-put_master c.self.inside.master.marks c.self.inside.slave.marks n (omega arith) in
    rw (← c.self.view_is, c.without_bit-self-inside.ensures, c.with_bit-self-inside.ensures, requests, marks, lt-ltb n 8 (omega arith)) refl

pub returns-else-n-lt8 : goal.returns-else-n-lt8
returns-else-n-lt8 c =
    let n = c.args.n in
    let m = c.self.inside.master.marks in
    let s = c.self.inside.slave.marks in
    let requests = lines-take_slave c.self.inside.master.requests c.self.inside.slave.requests n (omega arith) (omega arith) in
    let own = lines-put_slave m s n (omega arith) (omega arith) in
    let cascade = lines-put_master m (bit_or s (2 ^ (n - 8))) 2 (omega arith) in
    rw (← c.self.view_is, c.without_bit-self-inside-else-n-lt8.ensures, c.with_bit-self-inside-else-n-lt8.ensures, c.with_bit-self-inside-else-n-lt8-2.ensures, requests, cascade, own, le-ltb n 8 (omega arith)) refl

pub invariant_of-self : goal.invariant_of-self
invariant_of-self c = rw c.without_bit-self-inside.ensures (c.self.invariant.0, c.self.invariant.1, stays-cleared c.self.inside.master.requests c.args.n (omega arith) c.self.invariant.2, c.self.invariant.3)
