use Rattle.std.proofs.Common.{take}
use Rattle.std.specs.List.{AllByRecursion}
use Rattle.mpt_spec.specs.Values.{IsBaseValue}
use Rattle.mpt_write.proofs.values.base_values.Given as goal

abbrev pub invariant-loop-entry : goal.invariant-loop-entry
invariant-loop-entry l = AllByRecursion IsBaseValue (take l.entry-index l.entries)
