use Rattle.mptab_walk.specs.Walk.{outside_of}
use Rattle.mptab_walk.specs.Ending.{ending_status, ending_text, answer_status, answer_text}
use Rattle.mptab_walk.specs.Forms.{named_of}
use Rattle.mptab_walk.proofs.AnswerLemmas.{IsEnding-due, answer-due, IsReadyFor-given, AsksOf-source}
use Rattle.mptab_walk.proofs.tables.give_of_tables.Goals as goal

pub returns-in-Ok-clause-due : goal.returns-in-Ok-clause-due
returns-in-Ok-clause-due g c =
    let facts = c.in-Ok.ensures in
    let answer = c.answer_to.result in (
      answer_status answer,
      answer_text answer,
      answer-due (g.S.Shelf.files c.args.shelf.now) (outside_of g.S.Shelf g.O.Sink c.args.shelf.now c.args.out.now) (outside_of g.S.Shelf g.O.Sink c.take.new.shelf c.deliver_answer.new.out) c.args.command c.source_named-source.result c.in-Ok.tables answer
          c.source_named-source.ensures facts.tables facts.well_formed facts.low facts.quiet c.answer_to.ensures,
      c.deliver_answer.ensures,
    )

pub returns-in-Ok-clause-asks : goal.returns-in-Ok-clause-asks
returns-in-Ok-clause-asks g c = AsksOf-source (g.S.Shelf.files c.args.shelf.now) c.args.command (named_of c.source_named-source.result) (g.S.Shelf.asked c.args.shelf.now) (g.S.Shelf.asked c.take.new.shelf) c.source_named-source.ensures c.take.ensures.asks

pub returns-in-Err-clause-due : goal.returns-in-Err-clause-due
returns-in-Err-clause-due g c =
    let ending = c.in-Err.ending in (
      ending_status ending,
      ending_text c.name_in.result.now ending,
      IsEnding-due (g.S.Shelf.files c.args.shelf.now) (outside_of g.S.Shelf g.O.Sink c.args.shelf.now c.args.out.now) (outside_of g.S.Shelf g.O.Sink c.take.new.shelf c.refuse.new.out) c.args.command (named_of c.source_named-source.result) c.name_in.result.now ending c.source_named-source.ensures c.name_in.ensures c.in-Err.ensures.ends,
      c.refuse.ensures,
    )

pub returns-in-Err-clause-asks : goal.returns-in-Err-clause-asks
returns-in-Err-clause-asks g c = AsksOf-source (g.S.Shelf.files c.args.shelf.now) c.args.command (named_of c.source_named-source.result) (g.S.Shelf.asked c.args.shelf.now) (g.S.Shelf.asked c.take.new.shelf) c.source_named-source.ensures c.take.ensures.asks

pub answer_to-requires-clause-ready : goal.answer_to-requires-clause-ready
answer_to-requires-clause-ready g c = IsReadyFor-given (g.S.Shelf.files c.args.shelf.now) c.args.command c.source_named-source.result c.in-Ok.tables c.source_named-source.ensures c.in-Ok.ensures.tables
