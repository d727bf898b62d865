use Rattle.std.proofs.Common.{refl}
use Rattle.mptab_walk.specs.Forms.{Pircmp, RoutingTable}
use Rattle.mptab_walk.specs.Commands.{IsPirCompared}
use Rattle.mptab_walk.specs.Walk.{outside_of}
use Rattle.mptab_walk.specs.Ending.{ending_status, ending_text, answer_status, answer_text}
use Rattle.mptab_walk.proofs.SecondLemmas.{second-ends, second-answer, found-there}
use Rattle.mptab_walk.proofs.pircmp.give_of_pir.Goals as goal

pub returns-in-Ok-clause-due : goal.returns-in-Ok-clause-due
returns-in-Ok-clause-due g c =
    let answer = c.compared.result in
    let table = c.in-Ok.pir in
    let facts = c.in-Ok.ensures in (
      answer_status answer,
      answer_text answer,
      second-answer (g.S.Shelf.files c.args.shelf.now) (Pircmp c.args.files.image.now c.args.files.table.now) c.args.files.image.now (RoutingTable c.args.files.table.now) refl c.args.tables.now c.requires.gives (outside_of g.S.Shelf g.O.Sink c.args.shelf.now c.args.out.now) (outside_of g.S.Shelf g.O.Sink c.take_pir.new.shelf c.deliver_answer.new.out) answer (IsPirCompared c.args.tables.now table) facts.quiet (table, facts.table)
          (λ status text compared. (found-there _ status compared.2, (c.args.tables.now, c.requires.well_formed, c.requires.low, c.requires.gives, (table, facts.table, compared)))) c.compared.ensures,
      c.deliver_answer.ensures,
    )

pub returns-in-Err-clause-due : goal.returns-in-Err-clause-due
returns-in-Err-clause-due g c =
    let ending = c.in-Err.ending in (
      ending_status ending,
      ending_text c.args.files.table.now ending,
      second-ends (g.S.Shelf.files c.args.shelf.now) (Pircmp c.args.files.image.now c.args.files.table.now) c.args.files.image.now (RoutingTable c.args.files.table.now) refl c.args.tables.now c.requires.gives (outside_of g.S.Shelf g.O.Sink c.args.shelf.now c.args.out.now) (outside_of g.S.Shelf g.O.Sink c.take_pir.new.shelf c.refuse.new.out) ending c.in-Err.ensures.ends,
      c.refuse.ensures,
    )
