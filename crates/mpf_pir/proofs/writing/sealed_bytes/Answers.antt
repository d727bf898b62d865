use Rattle.std.proofs.Common.{◌≡◌, ℕ, List, ◌++◌, length, take, drop, set, sym, subst, ap, ◌∙◌, arith}
use Rattle.mpt_base.specs.Bytes.{SumsToZero}
use Rattle.mpt_base.specs.Writing.{checksum_of}
use Rattle.mpf_pir.specs.Layout.{IsPir}
use Rattle.mpf_pir.proofs.LayoutLemmas.{AreSlots-size}
use Rattle.mpf_pir.proofs.WrittenLemmas.{sealed, written_back}
use Rattle.mpf_pir.proofs.writing.sealed_bytes.Goals as goal

pub seal8-requires : goal.seal8-requires
seal8-requires c =
    let open_bytes : List ℕ = c.in-Ok.bytes.items in
    omega (arith, ap length c.as_mut_slice.ensures.value, AreSlots-size c.args.pir.now.slots open_bytes 32 (length open_bytes) c.in-Ok.ensures.whole.slots)

pub returns : goal.returns
returns c =
    let t = c.args.pir.now in
    let v = c.in-Ok.bytes in
    let slice : c.as_mut_slice.result.now ≡ v.items = c.as_mut_slice.ensures.value in
    let byte : ℕ = checksum_of (set v.items 31 0) in
    let put : c.seal8.new.bytes ≡ set v.items 31 byte = c.seal8.ensures.set ∙ ap (λ xs. set xs 31 (checksum_of (set xs 31 0))) slice in
    let back : take v.len (c.seal8.new.bytes ++ drop (length c.seal8.new.bytes) v.items) ≡ c.seal8.new.bytes =
    written_back v.len c.seal8.new.bytes v.items (omega arith) (c.seal8.auto.bytes ∙ ap (λ xs. length xs) slice) in
    subst (λ xs. IsPir t xs) (sym (back ∙ put)) (sealed t v.items byte c.in-Ok.ensures.whole (subst (λ xs. SumsToZero xs) put c.seal8.ensures.sums))
