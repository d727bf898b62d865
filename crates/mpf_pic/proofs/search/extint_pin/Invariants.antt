use Rattle.std.proofs.Common.{◌≡◌, ◌-◌, length, find}
use Rattle.mpb_board.specs.BoardView.{state_of}
use Rattle.mpf_pic.specs.Wiring.{is_extint_at, all_pins}
use Rattle.mpf_pic.proofs.PinSearch.{pins_from}
use Rattle.mpf_pic.proofs.search.extint_pin.Given as goal

-- the search goes on from here
abbrev pub invariant-loop-place : goal.invariant-loop-place
invariant-loop-place l = find (is_extint_at l.boot (state_of l.board)) (pins_from l.place (length (state_of l.board).places - l.place)) ≡ find (is_extint_at l.boot (state_of l.board)) (all_pins (state_of l.board))
