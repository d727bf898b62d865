use Rattle.std.proofs.Common.{◌≡◌, ℕ, ◌<◌, ◌≤◌, get_or}
use Rattle.std.specs.Prelude.{bit_or}
use Rattle.mpb_bits.proofs.words.unite_in.Given as goal

-- the words before the place are united, and the others are as they were
abbrev pub invariant-loop-place : goal.invariant-loop-place
invariant-loop-place l = record {
  done : (k : ℕ) → k < l.place → get_or l.words k 0 ≡ bit_or (get_or l.initial.words k 0) (get_or l.others k 0);
  rest : (k : ℕ) → l.place ≤ k → get_or l.words k 0 ≡ get_or l.initial.words k 0;
}
