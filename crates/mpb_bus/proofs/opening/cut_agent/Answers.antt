use Rattle.std.proofs.Common.{arith}
use Rattle.mpb_bus.proofs.Moves.{cuts_agent}
use Rattle.mpb_bus.proofs.opening.cut_agent.Goals as goal

pub split_seat-seat-requires : goal.split_seat-seat-requires
split_seat-seat-requires c = (c.requires.words.1, (let w = c.requires.words.0 in omega arith), cuts_agent c.args.words.now.shared.key.value.plan c.args.all.now.id c.args.all.now.me.0 c.requires.free)
