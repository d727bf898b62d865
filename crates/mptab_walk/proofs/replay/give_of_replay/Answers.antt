use Rattle.std.proofs.Common.{◌≤◌, ◌+◌, [], ◌∷◌, refl, sym, subst, Option}
use Rattle.mpt_base.specs.Outside.{Files}
use Rattle.mptab_walk.specs.Forms.{Replay, Report}
use Rattle.mptab_walk.specs.Walk.{IsDueOf, most_of, outside_of}
use Rattle.mptab_walk.specs.Ending.{shelves_of}
use Rattle.mptab_walk.specs.Boards.{IsBoardGiven, board_ending_status, board_ending_text}
use Rattle.mptab_walk.proofs.BoardLemmas.{IsDueOf-earlier, board-ends, asks-end, asks-third}
use Rattle.mptab_walk.proofs.replay.give_of_replay.Goals as goal

pub give_of_report-requires : goal.give_of_report-requires
give_of_report-requires g c = subst (λ (t : Option Files). IsBoardGiven t c.args.files.board.image.now c.args.files.board.script.now c.in-Ok.config) (sym c.in-Ok.ensures.files_stay) c.in-Ok.ensures.board

pub returns-in-Ok-clause-due : goal.returns-in-Ok-clause-due
returns-in-Ok-clause-due g c =
    let facts = c.in-Ok.ensures in
    let due = c.give_of_report.ensures.due in (
      due.0,
      due.1,
      IsDueOf-earlier (g.S.Shelf.files c.args.shelf.now) (outside_of g.S.Shelf g.O.Sink c.args.shelf.now c.args.out.now) (outside_of g.S.Shelf g.O.Sink c.take_board.new.shelf c.args.out.now) (outside_of g.S.Shelf g.O.Sink c.give_of_report.new.shelf c.give_of_report.new.out) (Replay c.args.files.board.image.now c.args.files.board.script.now c.args.files.report.now) due.0 due.1 facts.quiet
          (subst (λ (t : Option Files). IsDueOf t (outside_of g.S.Shelf g.O.Sink c.take_board.new.shelf c.args.out.now) (outside_of g.S.Shelf g.O.Sink c.give_of_report.new.shelf c.give_of_report.new.out) (Replay c.args.files.board.image.now c.args.files.board.script.now c.args.files.report.now) due.0 due.1) facts.files_stay due.2),
      due.3,
    )

pub returns-in-Ok-clause-asks : goal.returns-in-Ok-clause-asks
returns-in-Ok-clause-asks g c =
    let facts = c.in-Ok.ensures in
    asks-third (g.S.Shelf.files c.args.shelf.now) (Replay c.args.files.board.image.now c.args.files.board.script.now c.args.files.report.now) c.args.files.board.image.now c.args.files.board.script.now (Report c.args.files.report.now) refl facts.board.tables c.in-Ok.config facts.board.described (g.S.Shelf.asked c.args.shelf.now) (g.S.Shelf.asked c.take_board.new.shelf) (g.S.Shelf.asked c.give_of_report.new.shelf) facts.asks
    (subst (λ (t : Option Files). g.S.Shelf.asked c.give_of_report.new.shelf ≤ g.S.Shelf.asked c.take_board.new.shelf + most_of t (Report c.args.files.report.now)) facts.files_stay c.give_of_report.ensures.asks)

pub returns-in-Err-clause-due : goal.returns-in-Err-clause-due
returns-in-Err-clause-due g c =
    let ending = c.in-Err.ending in (
      board_ending_status ending,
      board_ending_text c.args.files.board.image.now c.args.files.board.script.now ending,
      board-ends (g.S.Shelf.files c.args.shelf.now) (Replay c.args.files.board.image.now c.args.files.board.script.now c.args.files.report.now) c.args.files.board.image.now c.args.files.board.script.now (Report c.args.files.report.now ∷ []) refl (outside_of g.S.Shelf g.O.Sink c.args.shelf.now c.args.out.now) (outside_of g.S.Shelf g.O.Sink c.take_board.new.shelf c.refuse_board.new.out) ending c.in-Err.ensures.ends,
      c.refuse_board.ensures,
    )

pub returns-in-Err-clause-asks : goal.returns-in-Err-clause-asks
returns-in-Err-clause-asks g c = asks-end (g.S.Shelf.files c.args.shelf.now) (Replay c.args.files.board.image.now c.args.files.board.script.now c.args.files.report.now) c.args.files.board.image.now c.args.files.board.script.now (Report c.args.files.report.now ∷ []) refl (g.S.Shelf.asked c.args.shelf.now) (g.S.Shelf.asked c.take_board.new.shelf) (shelves_of g.S.Shelf c.args.shelf.now c.take_board.new.shelf) c.in-Err.ending c.in-Err.ensures.ends c.in-Err.ensures.asks_at_end
