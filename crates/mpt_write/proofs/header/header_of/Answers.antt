use Rattle.std.proofs.Common.{[], ◌++◌, length, ◌∙◌, arith}
use Rattle.std.specs.Prelude.{codes}
use Rattle.std.specs.Int.{to_le_bytes, w16, w32}
use Rattle.mpt_spec.specs.Image.{header_end}
use Rattle.mpt_write.proofs.BlockLemmas.{header_put, five_joined}
use Rattle.mpt_write.proofs.header.header_of.Goals as goal

pub returns : goal.returns
returns c =
    let t = c.args.table.now in
    header_put c.put_bytes.new.bytes c.put_bytes-2.new.bytes c.put_bytes-3.new.bytes c.put_bytes-4.new.bytes c.put_bytes-5.new.bytes c.front_of.result t.oem t.product c.back_of.result c.end_of.result
    (omega arith) (omega arith) (omega arith) (omega arith) (omega arith)
    c.put_bytes.ensures c.put_bytes-2.ensures c.put_bytes-3.ensures c.put_bytes-4.ensures c.put_bytes-5.ensures
    ∙ (λ i. c.front_of.ensures i ++ t.oem ++ t.product ++ c.back_of.ensures i ++ c.end_of.ensures i ++ [])
    ∙ five_joined (codes "PCMP") (to_le_bytes w16 c.args.base_length) t.oem t.product (to_le_bytes w32 t.oem_table) (to_le_bytes w16 t.oem_size) (to_le_bytes w16 (length t.base)) (to_le_bytes w32 t.local_address)
    (header_end t c.args.ext_length c.args.ext_checksum) t.revision 0
