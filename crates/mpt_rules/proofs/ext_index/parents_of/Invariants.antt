use Rattle.std.proofs.Common.{◌≡◌, ℕ, ◌<◌, length}
use Rattle.std.specs.Prelude.{slice_index_or, None}
use Rattle.mpt_rules.specs.Index.{IsParent}
use Rattle.mpt_rules.proofs.ext_index.parents_of.Given as goal

abbrev pub invariant-loop-bus : goal.invariant-loop-bus
invariant-loop-bus l = record {
  long : length l.parents ≡ 256;
  each : (k : ℕ) → k < l.bus → IsParent l.entries k (slice_index_or l.parents k None);
}
