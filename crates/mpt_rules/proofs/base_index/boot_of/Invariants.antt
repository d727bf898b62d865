use Rattle.std.proofs.Common.{ℕ, ◌<◌}
use Rattle.mpt_rules.specs.Places.{HoldsAt}
use Rattle.mpt_rules.specs.Entries.{HasBootFlag}
use Rattle.mpt_rules.proofs.base_index.boot_of.Given as goal

abbrev pub invariant-loop-i : goal.invariant-loop-i
invariant-loop-i l = (k : ℕ) → k < l.i → HoldsAt HasBootFlag l.entries k → ⊥
