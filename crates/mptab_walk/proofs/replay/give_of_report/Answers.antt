use Rattle.std.proofs.Common.{refl}
use Rattle.mptab_walk.specs.Forms.{Replay, Report}
use Rattle.mptab_walk.specs.Commands.{IsJudged}
use Rattle.mptab_walk.specs.Walk.{outside_of}
use Rattle.mptab_walk.specs.Ending.{ending_status, ending_text, answer_status, answer_text}
use Rattle.mptab_walk.proofs.BoardLemmas.{third-ends, third-answer, verdict-text, verdict-there}
use Rattle.mptab_walk.proofs.replay.give_of_report.Goals as goal

pub returns-in-Ok-clause-due : goal.returns-in-Ok-clause-due
returns-in-Ok-clause-due g c =
    let answer = c.judged.result in
    let report = c.in-Ok.report in
    let facts = c.in-Ok.ensures in (
      answer_status answer,
      answer_text answer,
      third-answer (g.S.Shelf.files c.args.shelf.now) (Replay c.args.files.board.image.now c.args.files.board.script.now c.args.files.report.now) c.args.files.board.image.now c.args.files.board.script.now (Report c.args.files.report.now) refl c.requires.tables c.args.config c.requires.described (outside_of g.S.Shelf g.O.Sink c.args.shelf.now c.args.out.now) (outside_of g.S.Shelf g.O.Sink c.take_report.new.shelf c.deliver_answer.new.out) answer (IsJudged c.args.config report) facts.quiet (report, facts.report)
          (λ status text judged. (
            verdict-there c.args.config report status text judged,
            verdict-text (g.S.Shelf.files c.args.shelf.now) c.args.files.board.image.now c.args.files.board.script.now c.args.files.report.now c.requires.tables c.args.config c.requires.described report status text facts.report judged,
          ))
          c.judged.ensures,
      c.deliver_answer.ensures,
    )

pub returns-in-Err-clause-due : goal.returns-in-Err-clause-due
returns-in-Err-clause-due g c =
    let ending = c.in-Err.ending in (
      ending_status ending,
      ending_text c.args.files.report.now ending,
      third-ends (g.S.Shelf.files c.args.shelf.now) (Replay c.args.files.board.image.now c.args.files.board.script.now c.args.files.report.now) c.args.files.board.image.now c.args.files.board.script.now (Report c.args.files.report.now) refl c.requires.tables c.args.config c.requires.described (outside_of g.S.Shelf g.O.Sink c.args.shelf.now c.args.out.now) (outside_of g.S.Shelf g.O.Sink c.take_report.new.shelf c.refuse.new.out) ending c.in-Err.ensures.ends,
      c.refuse.ensures,
    )
