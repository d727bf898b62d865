use Rattle.std.proofs.Common.{refl, arith}
use Rattle.mptab_walk.specs.declared.ending.Ending.TheVariants.{NoMemory}
use Rattle.mptab_walk.specs.Forms.{Pic, Calls}
use Rattle.mptab_walk.specs.Walk.{outside_of}
use Rattle.mptab_walk.specs.Ending.{ending_status, ending_text}
use Rattle.mptab_walk.proofs.BoardLemmas.{third-ends, third-unmade, third-due, played-text}
use Rattle.mptab_walk.proofs.pic.give_of_calls.Goals as goal

pub returns-in-Ok-played-clause-due : goal.returns-in-Ok-played-clause-due
returns-in-Ok-played-clause-due g c =
    let text = c.in-Ok-played.text.items in
    let ops = c.in-Ok.ops.items in
    let facts = c.in-Ok.ensures in (
      0,
      text,
      third-due (g.S.Shelf.files c.args.shelf.now) (Pic c.args.files.board.image.now c.args.files.board.script.now c.args.files.calls.now) c.args.files.board.image.now c.args.files.board.script.now (Calls c.args.files.calls.now) refl c.args.tables.now c.args.config c.requires (outside_of g.S.Shelf g.O.Sink c.args.shelf.now c.args.out.now) (outside_of g.S.Shelf g.O.Sink c.take_calls.new.shelf c.deliver_text.new.out) 0 text facts.quiet (ops, facts.calls)
          (λ three. absurd (omega (arith, three)))
          (played-text (g.S.Shelf.files c.args.shelf.now) c.args.files.board.image.now c.args.files.board.script.now c.args.files.calls.now c.args.tables.now c.args.config c.requires ops text facts.calls (rw c.as_slice.ensures.value at c.in-Ok-played.ensures)),
      rw c.as_slice-in-Ok-played.ensures.value at c.deliver_text.ensures,
    )

pub returns-in-Ok-clause-due : goal.returns-in-Ok-clause-due
returns-in-Ok-clause-due g c = (
  ending_status NoMemory,
  ending_text c.args.files.calls.now NoMemory,
  third-unmade (g.S.Shelf.files c.args.shelf.now) (Pic c.args.files.board.image.now c.args.files.board.script.now c.args.files.calls.now) c.args.files.board.image.now c.args.files.board.script.now (Calls c.args.files.calls.now) refl c.args.tables.now c.args.config c.requires (outside_of g.S.Shelf g.O.Sink c.args.shelf.now c.args.out.now) (outside_of g.S.Shelf g.O.Sink c.take_calls.new.shelf c.refuse.new.out) c.in-Ok.ensures.quiet,
  c.refuse.ensures,
)

pub returns-clause-due : goal.returns-clause-due
returns-clause-due g c =
    let ending = c.in-Err.ending in (
      ending_status ending,
      ending_text c.args.files.calls.now ending,
      third-ends (g.S.Shelf.files c.args.shelf.now) (Pic c.args.files.board.image.now c.args.files.board.script.now c.args.files.calls.now) c.args.files.board.image.now c.args.files.board.script.now (Calls c.args.files.calls.now) refl c.args.tables.now c.args.config c.requires (outside_of g.S.Shelf g.O.Sink c.args.shelf.now c.args.out.now) (outside_of g.S.Shelf g.O.Sink c.take_calls.new.shelf c.refuse-in-Err.new.out) ending c.in-Err.ensures.ends,
      c.refuse-in-Err.ensures,
    )
