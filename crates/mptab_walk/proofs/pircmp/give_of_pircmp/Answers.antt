use Rattle.std.proofs.Common.{◌≤◌, ◌+◌, refl, sym, subst, Option}
use Rattle.mpt_base.specs.Outside.{Files}
use Rattle.mptab_walk.specs.Forms.{Pircmp, RoutingTable}
use Rattle.mptab_walk.specs.Commands.{ImageGives}
use Rattle.mptab_walk.specs.Walk.{IsDueOf, most_of, outside_of}
use Rattle.mptab_walk.specs.Ending.{ending_status, ending_text}
use Rattle.mptab_walk.proofs.BoardLemmas.{IsDueOf-earlier}
use Rattle.mptab_walk.proofs.SecondLemmas.{image-ends, asks-image, asks-second}
use Rattle.mptab_walk.proofs.pircmp.give_of_pircmp.Goals as goal

pub give_of_pir-requires-clause-gives : goal.give_of_pir-requires-clause-gives
give_of_pir-requires-clause-gives g c = subst (λ (t : Option Files). ImageGives t c.args.files.image.now c.in-Ok.tables) (sym c.in-Ok.ensures.files_stay) c.in-Ok.ensures.tables

pub returns-in-Ok-clause-due : goal.returns-in-Ok-clause-due
returns-in-Ok-clause-due g c =
    let facts = c.in-Ok.ensures in
    let due = c.give_of_pir.ensures.due in (
      due.0,
      due.1,
      IsDueOf-earlier (g.S.Shelf.files c.args.shelf.now) (outside_of g.S.Shelf g.O.Sink c.args.shelf.now c.args.out.now) (outside_of g.S.Shelf g.O.Sink c.take_image.new.shelf c.args.out.now) (outside_of g.S.Shelf g.O.Sink c.give_of_pir.new.shelf c.give_of_pir.new.out) (Pircmp c.args.files.image.now c.args.files.table.now) due.0 due.1 facts.quiet
          (subst (λ (t : Option Files). IsDueOf t (outside_of g.S.Shelf g.O.Sink c.take_image.new.shelf c.args.out.now) (outside_of g.S.Shelf g.O.Sink c.give_of_pir.new.shelf c.give_of_pir.new.out) (Pircmp c.args.files.image.now c.args.files.table.now) due.0 due.1) facts.files_stay due.2),
      due.3,
    )

pub returns-in-Ok-clause-asks : goal.returns-in-Ok-clause-asks
returns-in-Ok-clause-asks g c =
    let facts = c.in-Ok.ensures in
    asks-second (g.S.Shelf.files c.args.shelf.now) (Pircmp c.args.files.image.now c.args.files.table.now) c.args.files.image.now (RoutingTable c.args.files.table.now) refl c.in-Ok.tables facts.tables (g.S.Shelf.asked c.args.shelf.now) (g.S.Shelf.asked c.take_image.new.shelf) (g.S.Shelf.asked c.give_of_pir.new.shelf) facts.asks
    (subst (λ (t : Option Files). g.S.Shelf.asked c.give_of_pir.new.shelf ≤ g.S.Shelf.asked c.take_image.new.shelf + most_of t (RoutingTable c.args.files.table.now)) facts.files_stay c.give_of_pir.ensures.asks)

pub returns-in-Err-clause-due : goal.returns-in-Err-clause-due
returns-in-Err-clause-due g c =
    let ending = c.in-Err.ending in (
      ending_status ending,
      ending_text c.args.files.image.now ending,
      image-ends (g.S.Shelf.files c.args.shelf.now) (Pircmp c.args.files.image.now c.args.files.table.now) c.args.files.image.now (RoutingTable c.args.files.table.now) refl (outside_of g.S.Shelf g.O.Sink c.args.shelf.now c.args.out.now) (outside_of g.S.Shelf g.O.Sink c.take_image.new.shelf c.refuse.new.out) ending c.in-Err.ensures.ends,
      c.refuse.ensures,
    )

pub returns-in-Err-clause-asks : goal.returns-in-Err-clause-asks
returns-in-Err-clause-asks g c = asks-image (g.S.Shelf.files c.args.shelf.now) (Pircmp c.args.files.image.now c.args.files.table.now) c.args.files.image.now (RoutingTable c.args.files.table.now) refl (g.S.Shelf.asked c.args.shelf.now) (g.S.Shelf.asked c.take_image.new.shelf) c.in-Err.ensures.asks
