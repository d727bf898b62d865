use Rattle.std.proofs.Common.{◌≡◌, ◌++◌, length, ap, ◌∙◌, arith, length-append}
use Rattle.std.specs.Prelude.{sum_by}
use Rattle.mpt_base.specs.Writing.{checksum_of}
use Rattle.mpt_spec.specs.Entries.{base_length}
use Rattle.mpt_spec.specs.Image.{header_bytes}
use Rattle.mpt_write.proofs.SizeLemmas.{entries_below_bytes}
use Rattle.mpt_write.proofs.BlockLemmas.{opened}
use Rattle.mpt_write.proofs.block.open_base_table.Goals as goal

pub header_of-header-requires : goal.header_of-header-requires
header_of-header-requires c = omega (arith, c.requires.base_fits, entries_below_bytes c.args.table.now.base)

pub returns-clause-bytes : goal.returns-clause-bytes
returns-clause-bytes c =
    let t = c.args.table.now in
    let part = c.args.ext_part.now in
    let n = c.base_size-base_length.result in
    let header : c.append.new.out.items ≡ header_bytes t n (length part) 0 (checksum_of part) =
    c.in-Ok.ensures.ok ∙ ap (λ xs. xs ++ c.header_of-header.result) c.new-out.ensures.items ∙ c.header_of-header.ensures ∙ ap (header_bytes t n (length part) 0) c.checksum8.ensures in
    opened t part c.append.new.out.items c.push_bases.new.out.items c.as_slice.result.now n c.as_slice.ensures header c.in-Ok-push_bases.ensures.bytes c.in-Ok-push_bases.ensures.size (omega (arith, c.base_size-base_length.ensures, c.requires.base_fits))

pub returns-clause-size : goal.returns-clause-size
returns-clause-size c = omega (
  arith,
  c.in-Ok-push_bases.ensures.size,
  ap (sum_by base_length) c.as_slice.ensures,
  ap length c.in-Ok.ensures.ok,
  length-append c.new-out.result.items c.header_of-header.result,
  ap length c.new-out.ensures.items,
)
