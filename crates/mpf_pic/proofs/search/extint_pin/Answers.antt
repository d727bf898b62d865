use Rattle.std.proofs.Common.{◌≡◌, ◌-◌, ◌<◌, ℕ, Bool, length, ap, sym, ◌∙◌, arith}
use Rattle.mpb_board.specs.BoardView.{state_of}
use Rattle.mpb_laws.proofs.PartsStay.{places_stay}
use Rattle.mpf_pic.specs.Wiring.{is_extint_at}
use Rattle.mpf_pic.proofs.PinSearch.{found_here, found_later, found_nowhere}
use Rattle.mpf_pic.proofs.search.extint_pin.Goals as goal

pub returns-in-Some : goal.returns-in-Some
returns-in-Some c =
    let board = c.args.board.now in
    let places = (state_of board).places in
    let ios : length c.behind-board.inside.ios.items ≡ length board.plan.ios = ap (λ p. length p.ios) (c.behind-board.view_is ∙ c.config.ensures.same) in
    let stay : length places ≡ length board.plan.ios = places_stay board.plan board.journal in
    let within : c.loop-place.place < length places = omega arith in
    let sends : ℕ × ℕ → Bool = is_extint_at c.args.boot (state_of board) in
    found_here sends c.loop-place.place (length places) within c.in-Some.pin (sym c.in-Some.is ∙ c.extint_pin_at.ensures) ∙ c.loop-place.invariant

pub loop-place-preserved : goal.loop-place-preserved
loop-place-preserved c =
    let board = c.args.board.now in
    let places = (state_of board).places in
    let ios : length c.behind-board.inside.ios.items ≡ length board.plan.ios = ap (λ p. length p.ios) (c.behind-board.view_is ∙ c.config.ensures.same) in
    let stay : length places ≡ length board.plan.ios = places_stay board.plan board.journal in
    let within : c.loop-place.place < length places = omega arith in
    let sends : ℕ × ℕ → Bool = is_extint_at c.args.boot (state_of board) in
    found_later sends c.loop-place.place (length places) within (sym c.in_default.is ∙ c.extint_pin_at.ensures) ∙ c.loop-place.invariant

pub returns : goal.returns
returns c =
    let board = c.args.board.now in
    let places = (state_of board).places in
    let ios : length c.behind-board.inside.ios.items ≡ length board.plan.ios = ap (λ p. length p.ios) (c.behind-board.view_is ∙ c.config.ensures.same) in
    let stay : length places ≡ length board.plan.ios = places_stay board.plan board.journal in
    let none : length places - c.loop-place.place ≡ 0 = omega arith in
    let sends : ℕ × ℕ → Bool = is_extint_at c.args.boot (state_of board) in
    sym (found_nowhere sends c.loop-place.place (length places - c.loop-place.place) none) ∙ c.loop-place.invariant
