use Rattle.std.proofs.Common.{◌≡◌, ◌+◌, ◌*◌, ℕ, [], ◌∷◌, ◌++◌, length, sym, refl, subst, ap, ◌∙◌}
use Rattle.mpf_pir.specs.Layout.{AreSlots}
use Rattle.mpf_pir.specs.Spelling.{IsOpenPir, header_bytes}
use Rattle.mpf_pir.proofs.WrittenLemmas.{opened}
use Rattle.mpf_pir.proofs.writing.open_bytes.Goals as goal

pub returns-in-Ok-push_pieces : goal.returns-in-Ok-push_pieces
returns-in-Ok-push_pieces c =
    let t = c.args.pir.now in
    let total : ℕ = 32 + 16 * length t.slots in
    let slots : c.as_slice-slots.result.now ≡ t.slots = c.as_slice-slots.ensures in
    let header : c.header_bytes-header.result ≡ header_bytes t total = c.header_bytes-header.ensures ∙ ap (λ ss. header_bytes t (32 + 16 * length ss)) slots in
    let bytes : c.push_pieces.new.out.items ≡ (header_bytes t total ++ 0 ∷ []) ++ c.in-Ok.slots.items =
    c.in-Ok-push_pieces.ensures ∙ (λ i. ((c.new-out.ensures.items i ++ header i) ++ 0 ∷ []) ++ c.as_slice.ensures.value i) in
    record {
      whole = subst (λ xs. IsOpenPir t xs) (sym bytes) (opened t total c.in-Ok.slots.items c.requires.few refl c.header_value.ensures (c.in-Ok.ensures.size ∙ ap (λ ss. 16 * length ss) slots)
          (subst (λ ss. AreSlots ss c.in-Ok.slots.items 0 (length c.in-Ok.slots.items)) slots c.in-Ok.ensures.slots));
    }
