use Rattle.std.proofs.Common.{◌≡◌, ◌∙◌, ◌-◌, Some, length, slice_get, sym, ap}
use Rattle.mpb_board.proofs.BoardLemmas.{last_grows}
use Rattle.mpb_board.proofs.board.Board.step.Goals as goal

pub returns-clause-grows : goal.returns-clause-grows
returns-clause-grows c =
    let told : slice_get c.append.new.self.journal (length c.append.new.self.journal - 1) ≡ Some c.again.result = sym c.in-Some-last.ensures.last ∙ ap Some (sym c.again.ensures.same) in
    last_grows c.args.self.now c.append.new.self c.args.agent c.args.offer c.append.ensures.grows.0 c.again.result c.append.ensures.grows.1 told
