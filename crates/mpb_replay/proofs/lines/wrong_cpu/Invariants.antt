use Rattle.std.proofs.Common.{◌≡◌, map, take}
use Rattle.mpb_board.specs.BoardView.{state_of}
use Rattle.mpb_replay_laws.specs.Lines.{cpu_line_in, line_of_processor}
use Rattle.mpb_replay.proofs.lines.wrong_cpu.Given as goal

abbrev pub invariant-loop-number : goal.invariant-loop-number
invariant-loop-number l = take l.number (map cpu_line_in l.lines) ≡ take l.number (map line_of_processor (state_of l.board).processors)
