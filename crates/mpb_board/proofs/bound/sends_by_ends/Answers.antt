use Rattle.std.proofs.Common.{arith}
use Rattle.mpb_board.proofs.RoomLemmas.{ends_le}
use Rattle.mpb_board.proofs.bound.sends_by_ends.Goals as goal

pub overflow_mul-result : goal.overflow_mul-result
overflow_mul-result c = omega (arith, ends_le c.args.ios c.args.ends c.requires.few, c.requires.small)

pub returns-clause-most : goal.returns-clause-most
returns-clause-most c = omega (arith, ends_le c.args.ios c.args.ends c.requires.few)
