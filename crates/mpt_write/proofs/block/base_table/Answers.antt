use Rattle.std.proofs.Common.{◌≡◌, length, ap, ◌∙◌, arith}
use Rattle.mpt_write.proofs.BlockLemmas.{sealed_base_table}
use Rattle.mpt_base.proofs.WrittenBack.{written_back}
use Rattle.mpt_write.proofs.block.base_table.Goals as goal

pub returns-clause-bytes : goal.returns-clause-bytes
returns-clause-bytes c =
    let v = c.in-Ok.bytes in
    let slice : c.as_mut_slice.result.now ≡ v.items = c.as_mut_slice.ensures.value in
    written_back v.len c.seal8.new.bytes v.items (omega arith) (c.seal8.auto.bytes ∙ ap (λ xs. length xs) slice)
    ∙ c.seal8.ensures.set
    ∙ sealed_base_table c.args.table.now c.args.ext_part.now c.as_mut_slice.result.now (slice ∙ c.in-Ok.ensures.bytes)
