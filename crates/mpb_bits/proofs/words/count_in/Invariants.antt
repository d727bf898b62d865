use Rattle.std.proofs.Common.{◌≡◌, ◌*◌}
use Rattle.mpb_bits.proofs.CountLemmas.{count_before}
use Rattle.mpb_bits.proofs.words.count_in.Given as goal

-- the members in the words so far
abbrev pub invariant-loop-word : goal.invariant-loop-word
invariant-loop-word l = l.count ≡ count_before l.words (64 * l.word-index)
