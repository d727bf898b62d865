use Rattle.std.proofs.Common.{◌≡◌, ◌+◌, ◌-◌, ◌^◌, take}
use Rattle.std.specs.Prelude.{min, sum_by}
use Rattle.mpf_madt.specs.Entries.{entry_length}
use Rattle.mpf_madt.proofs.judging.madt_size.Given as goal

abbrev pub invariant-loop-entry : goal.invariant-loop-entry
invariant-loop-entry l = l.size ≡ min (44 + sum_by entry_length (take l.entry-index l.fn.madt.entries)) (2 ^ 64 - 1)
