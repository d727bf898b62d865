use Rattle.std.proofs.Common.{length, sym, subst}
use Rattle.mpt_base.specs.Bytes.{IsByteList}
use Rattle.mpf_pir.proofs.LayoutLemmas.{AreSlots-size}
use Rattle.mpf_pir.proofs.OneLemmas.{IsPir-bytes_one}
use Rattle.mpf_pir.proofs.writing.write_pir.Goals as goal

pub returns-clause-size : goal.returns-clause-size
returns-clause-size c = sym (AreSlots-size c.args.pir.now.slots c.in-Ok.bytes.items 32 (length c.in-Ok.bytes.items) c.in-Ok.ensures.slots)

pub returns-clause-only : goal.returns-clause-only
returns-clause-only c bytes in_bytes is =
    IsPir-bytes_one c.args.pir.now c.in-Ok.bytes.items bytes (subst (λ xs. IsByteList xs) c.as_slice.ensures.value c.byte_list.ensures) in_bytes c.in-Ok.ensures is
