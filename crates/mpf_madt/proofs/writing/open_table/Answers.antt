use Rattle.std.proofs.Common.{◌≡◌, ◌+◌, ◌++◌, length, ap, ◌∙◌, arith}
use Rattle.std.specs.List.{flat_map}
use Rattle.mpf_madt.specs.Spelling.{entry_bytes, header_bytes}
use Rattle.mpf_madt.proofs.WrittenLemmas.{length-entries}
use Rattle.mpf_madt.proofs.writing.open_table.Goals as goal

pub returns-in-Ok : goal.returns-in-Ok
returns-in-Ok c =
    let m = c.args.madt.now in
    let entries = flat_map entry_bytes m.entries in
    let size : c.madt_size-size.result ≡ 44 + length entries = omega (arith, c.madt_size-size.ensures, length-entries m.entries, c.requires.lawful.fits) in
    c.in-Ok.ensures ∙ ap (λ xs. xs ++ header_bytes m c.madt_size-size.result 0 ++ entries) c.new-out.ensures.items ∙ ap (λ n. header_bytes m n 0 ++ entries) size
