use Rattle.std.proofs.Common.{◌≡◌, length, ap, ◌∙◌, arith}
use Rattle.mpf_madt.proofs.WrittenLemmas.{sealed_madt, written_back}
use Rattle.mpf_madt.proofs.writing.table_bytes.Goals as goal

pub returns : goal.returns
returns c =
    let v = c.in-Ok.bytes in
    let slice : c.as_mut_slice.result.now ≡ v.items = c.as_mut_slice.ensures.value in
    written_back v.len c.seal8.new.bytes v.items (omega arith) (c.seal8.auto.bytes ∙ ap (λ xs. length xs) slice)
    ∙ c.seal8.ensures.set
    ∙ sealed_madt c.args.madt.now c.as_mut_slice.result.now (slice ∙ c.in-Ok.ensures)

pub seal8-requires : goal.seal8-requires
seal8-requires c = omega (arith, ap length c.as_mut_slice.ensures.value, ap length c.in-Ok.ensures)
