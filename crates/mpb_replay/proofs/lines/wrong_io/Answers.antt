use Rattle.std.proofs.Common.{◌≡◌, length, map, ap, ◌∙◌, arith}
use Rattle.std.proofs.lemmas.List.{length-map}
use Rattle.mpb_board.specs.BoardView.{state_of}
use Rattle.mpb_laws.proofs.PartsStay.{places_stay}
use Rattle.mpb_replay_laws.specs.Lines.{io_line_in, line_of_place}
use Rattle.mpb_replay.proofs.LogLemmas.{all_same}
use Rattle.mpb_replay.proofs.lines.wrong_io.Goals as goal

pub returns : goal.returns
returns c =
    let board = c.args.board.now in
    let places = (state_of board).places in
    let ios : length c.behind-board.inside.ios.items ≡ length board.plan.ios = ap (λ p. length p.ios) (c.behind-board.view_is ∙ c.config.ensures.same) in
    all_same (map io_line_in c.args.lines.now) (map line_of_place places) c.loop-place.place c.loop-place.invariant (omega (arith, ios, places_stay board.plan board.journal, length-map places line_of_place, c.len.ensures, c.loop-place-test.false))
