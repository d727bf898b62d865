use Rattle.std.proofs.Common.{[], refl}
use Rattle.mptab_walk.specs.declared.ending.Ending.TheVariants.{NoMemory}
use Rattle.mptab_walk.specs.Forms.{Boot}
use Rattle.mptab_walk.specs.Walk.{outside_of}
use Rattle.mptab_walk.specs.Ending.{ending_status, ending_text, shelves_of}
use Rattle.mptab_walk.specs.Boards.{board_ending_status, board_ending_text}
use Rattle.mptab_walk.proofs.BoardLemmas.{board-ends, board-unmade, asks-board, asks-end, boot-due}
use Rattle.mptab_calls.proofs.boot.give_of_boot.Goals as goal

pub returns-in-Ok-boot-clause-due : goal.returns-in-Ok-boot-clause-due
returns-in-Ok-boot-clause-due g c = (
  0,
  c.in-Ok-boot.text.items,
  boot-due (g.S.Shelf.files c.args.shelf.now) c.args.files.image.now c.args.files.script.now (outside_of g.S.Shelf g.O.Sink c.args.shelf.now c.args.out.now) (outside_of g.S.Shelf g.O.Sink c.take_board.new.shelf c.deliver_text.new.out) c.in-Ok.config c.in-Ok-boot.text.items c.in-Ok.ensures.board c.in-Ok.ensures.quiet c.in-Ok-boot.ensures.boot,
  rw c.as_slice.ensures.value at c.deliver_text.ensures,
)

pub returns-in-Ok-boot-clause-asks : goal.returns-in-Ok-boot-clause-asks
returns-in-Ok-boot-clause-asks g c = asks-board (g.S.Shelf.files c.args.shelf.now) (Boot c.args.files.image.now c.args.files.script.now) c.args.files.image.now c.args.files.script.now [] refl (g.S.Shelf.asked c.args.shelf.now) (g.S.Shelf.asked c.take_board.new.shelf) c.in-Ok.config c.in-Ok.ensures.board c.in-Ok.ensures.asks

pub returns-in-Err-boot-clause-due : goal.returns-in-Err-boot-clause-due
returns-in-Err-boot-clause-due g c = (
  ending_status NoMemory,
  ending_text c.args.files.script.now NoMemory,
  board-unmade (g.S.Shelf.files c.args.shelf.now) (Boot c.args.files.image.now c.args.files.script.now) c.args.files.image.now c.args.files.script.now [] refl (outside_of g.S.Shelf g.O.Sink c.args.shelf.now c.args.out.now) (outside_of g.S.Shelf g.O.Sink c.take_board.new.shelf c.refuse.new.out) c.in-Ok.config c.in-Ok.ensures.board c.in-Ok.ensures.quiet,
  c.refuse.ensures,
)

pub returns-in-Err-boot-clause-asks : goal.returns-in-Err-boot-clause-asks
returns-in-Err-boot-clause-asks g c = asks-board (g.S.Shelf.files c.args.shelf.now) (Boot c.args.files.image.now c.args.files.script.now) c.args.files.image.now c.args.files.script.now [] refl (g.S.Shelf.asked c.args.shelf.now) (g.S.Shelf.asked c.take_board.new.shelf) c.in-Ok.config c.in-Ok.ensures.board c.in-Ok.ensures.asks

pub returns-in-Err-clause-due : goal.returns-in-Err-clause-due
returns-in-Err-clause-due g c =
    let ending = c.in-Err.ending in (
      board_ending_status ending,
      board_ending_text c.args.files.image.now c.args.files.script.now ending,
      board-ends (g.S.Shelf.files c.args.shelf.now) (Boot c.args.files.image.now c.args.files.script.now) c.args.files.image.now c.args.files.script.now [] refl (outside_of g.S.Shelf g.O.Sink c.args.shelf.now c.args.out.now) (outside_of g.S.Shelf g.O.Sink c.take_board.new.shelf c.refuse_board.new.out) ending c.in-Err.ensures.ends,
      c.refuse_board.ensures,
    )

pub returns-in-Err-clause-asks : goal.returns-in-Err-clause-asks
returns-in-Err-clause-asks g c = asks-end (g.S.Shelf.files c.args.shelf.now) (Boot c.args.files.image.now c.args.files.script.now) c.args.files.image.now c.args.files.script.now [] refl (g.S.Shelf.asked c.args.shelf.now) (g.S.Shelf.asked c.take_board.new.shelf) (shelves_of g.S.Shelf c.args.shelf.now c.take_board.new.shelf) c.in-Err.ending c.in-Err.ensures.ends c.in-Err.ensures.asks_at_end
