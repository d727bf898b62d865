use Rattle.std.proofs.Common.{◌≡◌, ℕ, ◌<◌, List, ◌++◌, length, take, ap, ◌∙◌, arith}
use Rattle.std.proofs.lemmas.Grind.{common_steps}
use Rattle.mpb_board.specs.BoardView.{state_of}
use Rattle.mpb_laws.proofs.PartsStay.{places_stay}
use Rattle.std.specs.Prelude.{slice_get}
use Rattle.mpb_report.specs.Found.{found_io}
use Rattle.mpb_report.proofs.FoundLemmas.{found_more}
use Rattle.mpb_report.proofs.state_lines.push_io_lines.Goals as goal

pub loop-place-preserved : goal.loop-place-preserved
loop-place-preserved c =
    let board = c.args.board.now in
    let places = (state_of board).places in
    let ios : length c.behind-board.inside.ios.items ≡ length board.plan.ios = ap (λ p. length p.ios) (c.behind-board.view_is ∙ c.config.ensures.same) in
    let stay : length places ≡ length board.plan.ios = places_stay board.plan board.journal in
    let within : c.loop-place.place < length places = omega arith in
    c.in_default.ensures
    ∙ ap (λ (t : List ℕ). t ++ found_io c.loop-place.place (slice_get places c.loop-place.place)) c.loop-place.invariant
    ∙ found_more c.args.out.now.items places c.loop-place.place within

pub returns : goal.returns
returns c =
    let board = c.args.board.now in
    let places = (state_of board).places in
    let ios : length c.behind-board.inside.ios.items ≡ length board.plan.ios = ap (λ p. length p.ios) (c.behind-board.view_is ∙ c.config.ensures.same) in
    let stay : length places ≡ length board.plan.ios = places_stay board.plan board.journal in
    let all : c.loop-place.place ≡ length places = omega arith in
    let whole : take c.loop-place.place places ≡ places = grind (arith, common_steps) in
    rw whole at c.loop-place.invariant
