use Rattle.std.proofs.Common.{◌≡◌, ◌≤◌, ◌+◌, take, length}
use Rattle.std.specs.List.{filter_map}
use Rattle.mpb_spec.specs.Plan.{op_of_word}
use Rattle.mpb_replay.proofs.made.ops_of.Given as goal

abbrev pub invariant-loop-word : goal.invariant-loop-word
invariant-loop-word l = (l.ops ≡ 2 + length (filter_map op_of_word (take l.word-index l.words))) × (l.ops ≤ 2 + l.word-index)
