use Rattle.std.proofs.Common.{arith, subst}
use Rattle.std.specs.Vec.{vec_capacity}
use Rattle.mpb_spec.specs.Configs.{IsConfig}
use Rattle.mpb_board.proofs.BoardLemmas.{opened}
use Rattle.mpb_board.proofs.board.Board.new.Goals as goal

pub invariant_of-result : goal.invariant_of-result
invariant_of-result c =
    opened c.args.config c.in-Ok-opening.machine c.in-Ok.journal.items (vec_capacity c.in-Ok.journal) c.in-Ok-opening.ensures c.in-Ok.ensures.items (subst IsConfig c.config.view_is c.config.invariant) c.requires.small
    (let r = c.in-Ok.ensures.capacity in let e = c.room.ensures.bound in omega arith)
