use Rattle.std.proofs.Common.{refl}
use Rattle.mptab_walk.specs.Forms.{Madtcmp, AcpiTable}
use Rattle.mptab_walk.specs.Commands.{IsMadtCompared}
use Rattle.mptab_walk.specs.Walk.{outside_of}
use Rattle.mptab_walk.specs.Ending.{ending_status, ending_text, answer_status, answer_text}
use Rattle.mptab_walk.proofs.SecondLemmas.{second-ends, second-answer, found-there}
use Rattle.mptab_walk.proofs.madtcmp.give_of_madt.Goals as goal

pub returns-in-Ok-clause-due : goal.returns-in-Ok-clause-due
returns-in-Ok-clause-due g c =
    let answer = c.compared.result in
    let table = c.in-Ok.madt in
    let facts = c.in-Ok.ensures in (
      answer_status answer,
      answer_text answer,
      second-answer (g.S.Shelf.files c.args.shelf.now) (Madtcmp c.args.files.image.now c.args.files.elcr c.args.files.madt.now) c.args.files.image.now (AcpiTable c.args.files.madt.now) refl c.args.tables.now c.requires.gives (outside_of g.S.Shelf g.O.Sink c.args.shelf.now c.args.out.now) (outside_of g.S.Shelf g.O.Sink c.take_madt.new.shelf c.deliver_answer.new.out) answer (IsMadtCompared c.args.files.elcr c.args.tables.now table) facts.quiet (table, facts.table)
          (λ status text compared. (found-there _ status compared.0, (c.args.tables.now, c.requires.well_formed, c.requires.low, c.requires.gives, (table, facts.table, compared)))) c.compared.ensures,
      c.deliver_answer.ensures,
    )

pub returns-in-Err-clause-due : goal.returns-in-Err-clause-due
returns-in-Err-clause-due g c =
    let ending = c.in-Err.ending in (
      ending_status ending,
      ending_text c.args.files.madt.now ending,
      second-ends (g.S.Shelf.files c.args.shelf.now) (Madtcmp c.args.files.image.now c.args.files.elcr c.args.files.madt.now) c.args.files.image.now (AcpiTable c.args.files.madt.now) refl c.args.tables.now c.requires.gives (outside_of g.S.Shelf g.O.Sink c.args.shelf.now c.args.out.now) (outside_of g.S.Shelf g.O.Sink c.take_madt.new.shelf c.refuse.new.out) ending c.in-Err.ensures.ends,
      c.refuse.ensures,
    )
