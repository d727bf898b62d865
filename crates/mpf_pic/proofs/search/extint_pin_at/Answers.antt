use Rattle.std.proofs.Common.{◌∙◌}
use Rattle.std.specs.Prelude.{slice_get}
use Rattle.mpb_board.specs.BoardView.{state_of}
use Rattle.mpf_pic.proofs.PinSearch.{pin_of_chip, pin_of_none}
use Rattle.mpf_pic.proofs.search.extint_pin_at.Goals as goal

pub returns-in-Some : goal.returns-in-Some
returns-in-Some c =
    let place = slice_get (state_of c.args.board.now).places c.args.place in
    c.extint_pin_of.ensures ∙ pin_of_chip c.args.boot c.in-Some.chip.now place c.in-Some.ensures.io

pub returns-in-None : goal.returns-in-None
returns-in-None c = pin_of_none c.args.boot (slice_get (state_of c.args.board.now).places c.args.place) c.in-None.ensures.io
