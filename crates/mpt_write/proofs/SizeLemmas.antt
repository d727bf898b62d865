-- A base entry has at least one byte, and the bytes of one more entry add to those so far.
use Rattle.std.proofs.Common.{◌≡◌, ℕ, ◌+◌, ◌≤◌, ◌<◌, List, [], ◌∷◌, length, take, get_or, arith}
use Rattle.std.specs.Prelude.{sum_by}
use Rattle.std.proofs.lemmas.List.Sums.{sum_by-cons, sum_by_more}
use Rattle.mpt_spec.specs.declared.entry.Base.{Base}
use Rattle.mpt_spec.specs.declared.entry.Base.TheVariants as base
use Rattle.mpt_spec.specs.Entries.{base_length}

pub entries_below_bytes : (es : List Base) → length es ≤ sum_by base_length es
entries_below_bytes [] = omega arith
entries_below_bytes (e ∷ es) = omega (arith, sum_by-cons base_length e es, entries_below_bytes es, some e)
  where
    some : (e : Base) → 1 ≤ base_length e
    some (base.Processor e) = omega arith
    some (base.Bus e) = omega arith
    some (base.IoApic e) = omega arith
    some (base.IoInt e) = omega arith
    some (base.LocalInt e) = omega arith

-- the size of one more member
pub summed_more : {T : Type 0} (size : T → ℕ) (members : List T) (i : ℕ) (default : T) (before old new : ℕ) → i < length members
    → old ≡ before + sum_by size (take i members) → new ≡ old + size (get_or members i default) → new ≡ before + sum_by size (take (i + 1) members)
summed_more size members i default before old new inside was now = omega (arith, was, now, sum_by_more size members i default inside)
