use Rattle.std.proofs.Common.{arith, refl}
use Rattle.mpb_bus.specs.Rule.{nobody}
use Rattle.mpb_bus.proofs.Moves.{enters}
use Rattle.mpb_bus.proofs.closing.empty_seat.Goals as goal

pub load_new_seat-seat-requires : goal.load_new_seat-seat-requires
load_new_seat-seat-requires c = ((let w = c.requires in omega arith), λ s ok homes word. (nobody, enters c.args.words.now.shared.key.value.plan s ok, refl))
