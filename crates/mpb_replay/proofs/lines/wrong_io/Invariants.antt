use Rattle.std.proofs.Common.{◌≡◌, map, take}
use Rattle.mpb_board.specs.BoardView.{state_of}
use Rattle.mpb_replay_laws.specs.Lines.{io_line_in, line_of_place}
use Rattle.mpb_replay.proofs.lines.wrong_io.Given as goal

abbrev pub invariant-loop-place : goal.invariant-loop-place
invariant-loop-place l = take l.place (map io_line_in l.lines) ≡ take l.place (map line_of_place (state_of l.board).places)
