use Rattle.std.proofs.Common.{◌≡◌, ℕ, ◌≤◌, length, get_or}
use Rattle.mpb_bits.proofs.words.top_in.Given as goal

-- the words from the place on are 0
abbrev pub invariant-loop-place : goal.invariant-loop-place
invariant-loop-place l = record { within : l.place ≤ length l.words; zeros : (k : ℕ) → l.place ≤ k → get_or l.words k 0 ≡ 0 }

abbrev pub decreases-loop-place : goal.decreases-loop-place
decreases-loop-place l = l.place
