use Rattle.std.proofs.Common.{◌≡◌, ◌≤◌, count_by, take}
use Rattle.mpb_spec.specs.Room.{is_high}
use Rattle.mpb_board.proofs.bound.highs_in.Given as goal

abbrev pub invariant-loop-word : goal.invariant-loop-word
invariant-loop-word l = (l.highs ≡ count_by is_high (take l.word-index l.words)) × (l.highs ≤ l.word-index)
