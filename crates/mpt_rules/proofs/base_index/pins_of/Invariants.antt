use Rattle.std.proofs.Common.{ℕ}
use Rattle.std.specs.BTreeMap as tree
use Rattle.mpt_rules.specs.Places.{FirstIs}
use Rattle.mpt_rules.specs.Entries.{IsOnPin}
use Rattle.mpt_rules.specs.Index.{key_cmp}
use Rattle.mpt_rules.proofs.base_index.pins_of.Given as goal

abbrev pub invariant-loop-i : goal.invariant-loop-i
invariant-loop-i l = (q : ℕ × ℕ × ℕ) → FirstIs (IsOnPin q) l.entries l.i (tree.get key_cmp l.firsts q)
