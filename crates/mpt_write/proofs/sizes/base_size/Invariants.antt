use Rattle.std.proofs.Common.{◌≡◌, ◌+◌, ◌-◌, ◌^◌, take}
use Rattle.std.specs.Prelude.{min, sum_by}
use Rattle.mpt_spec.specs.Entries.{base_length}
use Rattle.mpt_write.proofs.sizes.base_size.Given as goal

abbrev pub invariant-loop-entry : goal.invariant-loop-entry
invariant-loop-entry l = l.size ≡ min (44 + sum_by base_length (take l.entry-index l.fn.table.base)) (2 ^ 64 - 1)
