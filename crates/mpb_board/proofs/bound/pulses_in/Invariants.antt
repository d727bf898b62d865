use Rattle.std.proofs.Common.{◌≡◌, ◌≤◌, count_by, take}
use Rattle.mpb_spec.specs.Room.{is_pulse}
use Rattle.mpb_board.proofs.bound.pulses_in.Given as goal

abbrev pub invariant-loop-word : goal.invariant-loop-word
invariant-loop-word l = (l.pulses ≡ count_by is_pulse (take l.word-index l.words)) × (l.pulses ≤ l.word-index)
