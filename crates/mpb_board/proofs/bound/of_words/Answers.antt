use Rattle.std.proofs.Common.{arith}
use Rattle.mpb_board.proofs.RoomLemmas.{device_ops}
use Rattle.mpb_board.proofs.bound.of_words.Goals as goal

pub returns-clause-ops : goal.returns-clause-ops
returns-clause-ops c = omega (arith, device_ops c.args.words.now, c.pulses_in-pulses.ensures.count)
