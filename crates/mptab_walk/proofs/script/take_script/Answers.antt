use Rattle.std.proofs.Common.{ℕ, ◌+◌, ◌≤◌, refl, subst}
use Rattle.mptab_walk.specs.Forms.{Script}
use Rattle.mptab_walk.specs.Ending.{shelves_of}
use Rattle.mptab_walk.specs.Boards.{RefusesScript}
use Rattle.mptab_walk.proofs.BoardLemmas.{script-ends, board-given}
use Rattle.mptab_walk.proofs.LimitedLemmas.{held-ended, most_within-most}
use Rattle.mptab_walk.proofs.script.take_script.Goals as goal

pub returns-in-Ok-clause-board : goal.returns-in-Ok-clause-board
returns-in-Ok-clause-board g c = board-given (g.S.Shelf.files c.args.shelf.now) c.args.files.image.now c.args.files.script.now c.in-Ok.bytes.items c.in-Ok.ensures.bytes c.args.tables.now c.board_in.result (rw c.as_slice.ensures.value at c.board_in.ensures.board)

pub returns-in-Ok-clause-ends : goal.returns-in-Ok-clause-ends
returns-in-Ok-clause-ends g c =
    let told = g.S.Shelf.files c.args.shelf.now in
    let image = c.args.files.image.now in
    let name = c.args.files.script.now in
    let bytes = c.in-Ok.bytes.items in
    held-ended told (Script image name) bytes c.in-Ok.ensures.bytes c.board_in.result (shelves_of g.S.Shelf c.args.shelf.now c.take_bytes.new.shelf) (RefusesScript c.args.tables.now bytes) c.in-Ok.ensures.quiet
    (script-ends told image name bytes c.in-Ok.ensures.bytes c.args.tables.now c.requires.well_formed c.requires.tables) (rw c.as_slice.ensures.value at c.board_in.ensures.refused)

pub returns-in-Err-clause-ends : goal.returns-in-Err-clause-ends
returns-in-Err-clause-ends g c = c.in-Err.ensures.ends (Script c.args.files.image.now c.args.files.script.now) refl refl

pub returns-in-Ok-clause-asks : goal.returns-in-Ok-clause-asks
returns-in-Ok-clause-asks g c = subst (λ (n : ℕ). g.S.Shelf.asked c.take_bytes.new.shelf ≤ g.S.Shelf.asked c.args.shelf.now + n) (most_within-most (g.S.Shelf.files c.args.shelf.now) (Script c.args.files.image.now c.args.files.script.now) (λ n. refl)) c.in-Ok.ensures.asks

pub returns-in-Err-clause-asks : goal.returns-in-Err-clause-asks
returns-in-Err-clause-asks g c = subst (λ (n : ℕ). g.S.Shelf.asked c.take_bytes.new.shelf ≤ g.S.Shelf.asked c.args.shelf.now + n) (most_within-most (g.S.Shelf.files c.args.shelf.now) (Script c.args.files.image.now c.args.files.script.now) (λ n. refl)) c.in-Err.ensures.asks
