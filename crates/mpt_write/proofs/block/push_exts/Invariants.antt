use Rattle.std.proofs.Common.{◌≡◌, ◌+◌, ◌++◌, take, length}
use Rattle.std.specs.Prelude.{sum_by}
use Rattle.std.specs.List.{flat_map}
use Rattle.mpt_spec.specs.Extended.{ext_length}
use Rattle.mpt_spec.specs.Image.{ext_bytes}
use Rattle.mpt_write.proofs.block.push_exts.Given as goal

abbrev pub invariant-loop-entry : goal.invariant-loop-entry
invariant-loop-entry l = (l.out.items ≡ l.fn.out.items ++ flat_map ext_bytes (take l.entry-index l.entries)) × (length l.out.items ≡ length l.fn.out.items + sum_by ext_length (take l.entry-index l.entries))
