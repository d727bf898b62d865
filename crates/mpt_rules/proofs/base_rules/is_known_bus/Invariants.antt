use Rattle.std.proofs.Common.{◌≡◌, ℕ, ◌<◌}
use Rattle.std.specs.Prelude.{slice_index_or}
use Rattle.mpt_rules.specs.Entries.{known_buses}
use Rattle.mpt_rules.proofs.base_rules.is_known_bus.Given as goal

abbrev pub invariant-loop-k : goal.invariant-loop-k
invariant-loop-k l = (m : ℕ) → m < l.k → slice_index_or known_buses m l.name ≡ l.name → ⊥
