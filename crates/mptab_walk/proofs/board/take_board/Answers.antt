use Rattle.mptab_walk.proofs.board.take_board.Goals as goal

pub returns-in-Ok-clause-board : goal.returns-in-Ok-clause-board
returns-in-Ok-clause-board g c = record { tables = c.in-Ok.described.tables; described = c.in-Ok.ensures.board }
