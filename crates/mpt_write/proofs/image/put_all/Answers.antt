use Rattle.std.specs.Prelude.{◌/◌}
use Rattle.std.specs.Int.{to_le_bytes, w16}
use Rattle.mpt_spec.specs.Image.{pointer_bytes, body_bytes}
use Rattle.mpt_write.proofs.PieceLemmas.{pieces}
use Rattle.mpt_write.proofs.image.put_all.Goals as goal

pub returns : goal.returns
returns c =
    let t = c.args.tables.now in
    pieces c.args.image.now c.put_u16.new.bytes c.put_bytes.new.bytes c.put_block.new.image (to_le_bytes w16 (t.at / 16)) (pointer_bytes t.pointer) c.write_pointer.result (body_bytes t.body) t.at t.pointer.address
    c.put_u16.ensures c.write_pointer.ensures c.put_bytes.ensures c.put_block.ensures
