use Rattle.std.proofs.Common.{refl}
use Rattle.mpf_pair.specs.Registers.{lines_of}
use Rattle.mpf_pair.proofs.pair.Pair.new.Goals as goal

pub returns : goal.returns
unfolding lines_of
returns c = rw (c.new.ensures, c.new-2.ensures) (record { state = refl })
