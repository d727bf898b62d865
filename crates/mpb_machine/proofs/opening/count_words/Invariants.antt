use Rattle.std.proofs.Common.{◌≡◌, ◌≤◌, ◌<◌, ℕ, ◌+◌, length, slice_index, take}
use Rattle.mpb_spec.specs.Pulses.{planned_in, pulses_in}
use Rattle.mpb_machine.proofs.opening.count_words.Given as goal

abbrev pub invariant-loop-word : goal.invariant-loop-word
invariant-loop-word l = record {
  wide : length l.left ≡ 24;
  counts : (k : ℕ) → k < 24 → slice_index l.left k ≡ slice_index l.initial.left k + planned_in l.at k (pulses_in (take l.word-index l.words));
  most : (k : ℕ) → slice_index l.left k ≤ slice_index l.initial.left k + l.word-index;
}
