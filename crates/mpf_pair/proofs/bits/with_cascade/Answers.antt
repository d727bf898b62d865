use Rattle.std.proofs.Common.{sym}
use Rattle.mpf_pair.proofs.ByteLemmas.{byte-cascade, byte-no_cascade}
use Rattle.mpf_pair.proofs.bits.with_cascade.Goals as goal

pub returns-then-asks : goal.returns-then-asks
returns-then-asks c = rw (c.with_bit.ensures, c.without_bit-others.ensures, c.if-asks.true) (sym (byte-cascade c.args.byte c.ranges.byte.fits))

pub returns-else-asks : goal.returns-else-asks
returns-else-asks c = rw (c.without_bit-others.ensures, c.if-asks.false) (sym (byte-no_cascade c.args.byte c.ranges.byte.fits))
