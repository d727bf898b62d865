use Rattle.std.proofs.Common.{◌≡◌, ◌+◌, ◌++◌, take, length}
use Rattle.std.specs.Prelude.{sum_by}
use Rattle.std.specs.List.{flat_map}
use Rattle.mpt_spec.specs.Entries.{base_length}
use Rattle.mpt_spec.specs.Image.{base_bytes}
use Rattle.mpt_write.proofs.block.push_bases.Given as goal

abbrev pub invariant-loop-entry : goal.invariant-loop-entry
invariant-loop-entry l = (l.out.items ≡ l.fn.out.items ++ flat_map base_bytes (take l.entry-index l.entries)) × (length l.out.items ≡ length l.fn.out.items + sum_by base_length (take l.entry-index l.entries))
