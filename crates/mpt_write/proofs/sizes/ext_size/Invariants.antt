use Rattle.std.proofs.Common.{◌≡◌, ◌-◌, ◌^◌, take}
use Rattle.std.specs.Prelude.{min, sum_by}
use Rattle.mpt_spec.specs.Extended.{ext_length}
use Rattle.mpt_write.proofs.sizes.ext_size.Given as goal

abbrev pub invariant-loop-entry : goal.invariant-loop-entry
invariant-loop-entry l = l.size ≡ min (sum_by ext_length (take l.entry-index l.fn.table.ext)) (2 ^ 64 - 1)
