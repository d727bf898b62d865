use Rattle.mptab_walk.proofs.BoardLemmas.{script-refused, board-refused}
use Rattle.mptab_walk.proofs.script.board_in.Goals as goal

pub returns-in-Err-clause-refused : goal.returns-in-Err-clause-refused
returns-in-Err-clause-refused c = script-refused c.args.tables.now c.args.text.now c.in-Err.fault c.bad_script.result c.refused.result c.in-Err.ensures.refused c.bad_script.ensures c.refused.ensures.refused c.refused.ensures.no_memory

pub returns-clause-board : goal.returns-clause-board
returns-clause-board c = tt

pub returns-clause-refused : goal.returns-clause-refused
returns-clause-refused c =
    let script = c.in-Ok.ensures in
    let again = c.refused-in-Err-board in
    board-refused c.args.tables.now c.args.text.now c.in-Ok.script c.in-Err-board.error c.bad_board.result again.result script.values script.script c.in-Err-board.ensures.fault c.bad_board.ensures again.ensures.refused again.ensures.no_memory

pub returns-in-Ok-board-clause-board : goal.returns-in-Ok-board-clause-board
returns-in-Ok-board-clause-board c =
    let script = c.in-Ok.ensures in
    let board = c.in-Ok-board.ensures in
    record { script = c.in-Ok.script; values = script.values; reads = script.script; sound = board.sound; config = board.board; startable = board.startable; small = board.small }
