use Rattle.std.proofs.Common.{◌≤◌, length}
use Rattle.mpb_replay_rows.proofs.example.entries_of.Given as goal

abbrev pub invariant-loop-line : goal.invariant-loop-line
invariant-loop-line l = length l.entries.items ≤ l.line-index
