use Rattle.std.proofs.Common.{ap, ◌∙◌, arith, replicate}
use Rattle.mpt_base.specs.Writing.{overlay}
use Rattle.mpf_madt.proofs.WrittenLemmas.{header_put}
use Rattle.mpf_madt.proofs.writing.header_of.Goals as goal

pub returns : goal.returns
returns c =
    header_put c.args.madt.now c.args.size c.put_bytes.new.bytes c.put_bytes-2.new.bytes c.put_bytes-3.new.bytes c.put_u32.new.bytes c.put_bytes-4.new.bytes c.put_bytes-5.new.bytes
    (omega arith) (omega arith) (omega arith)
    (c.put_bytes.ensures ∙ ap (λ xs. overlay (replicate 44 0) 0 xs) c.front_of.ensures) c.put_bytes-2.ensures c.put_bytes-3.ensures c.put_u32.ensures c.put_bytes-4.ensures
    (c.put_bytes-5.ensures ∙ ap (λ xs. overlay c.put_bytes-4.new.bytes 32 xs) c.back_of.ensures)
