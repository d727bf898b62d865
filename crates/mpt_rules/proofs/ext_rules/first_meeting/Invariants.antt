use Rattle.std.proofs.Common.{ℕ, ◌<◌}
use Rattle.mpt_rules.specs.Places.{HoldsAt}
use Rattle.mpt_rules.specs.Entries.{MeetsRange}
use Rattle.mpt_rules.proofs.ext_rules.first_meeting.Given as goal

abbrev pub invariant-loop-j : goal.invariant-loop-j
invariant-loop-j l = (k : ℕ) → k < l.j → HoldsAt (MeetsRange l.entry) l.entries k → ⊥
