use Rattle.std.proofs.Common.{take}
use Rattle.std.specs.List.{AllByRecursion}
use Rattle.mpf_madt.specs.Lawful.{IsEntryValue}
use Rattle.mpf_madt.proofs.values.entry_values.Given as goal

abbrev pub invariant-loop-entry : goal.invariant-loop-entry
invariant-loop-entry l = AllByRecursion IsEntryValue (take l.entry-index l.entries)
