use Rattle.std.proofs.Common.{◌≡◌, ◌∙◌, ap, replicate, length, arith}
use Rattle.std.specs.Prelude.{◌/◌}
use Rattle.std.specs.Int.{to_le_bytes, w16}
use Rattle.mpt_base.specs.Writing.{overlay}
use Rattle.mpt_spec.specs.Image.{pointer_bytes, body_bytes}
use Rattle.mpt_base.proofs.WrittenBack.{written_back}
use Rattle.mpt_write.proofs.image.image_with.Goals as goal

pub returns : goal.returns
returns c =
    let t = c.args.tables.now in
    let v = c.in-Ok.image in
    let slice : c.as_mut_slice.result.now ≡ v.items = c.as_mut_slice.ensures.value in
    let zeros : v.items ≡ replicate c.args.size 0 = c.in-Ok.ensures in
    written_back v.len c.put_all.new.image v.items (omega arith) (c.put_all.auto.image ∙ ap (λ xs. length xs) slice)
    ∙ c.put_all.ensures
    ∙ ap (λ x. overlay (overlay (overlay x 0x40E (to_le_bytes w16 (t.at / 16))) t.at (pointer_bytes t.pointer)) t.pointer.address (body_bytes t.body)) (slice ∙ zeros)
