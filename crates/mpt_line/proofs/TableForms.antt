-- The lines of the floating pointer and of the header are read exactly.
use Rattle.std.proofs.Common.{◌≡◌, ℕ, ◌^◌, ◌<◌, ◌≤◌, ◌⊎◌, true, false, eqb, List, [], ◌∷◌, ◌++◌, length, slice_index, refl, sym, ap, subst, inl, inr, append_assoc, arith}
use Rattle.std.specs.Prelude.{◌≢◌, codes, ◌==◌, nat_le, ◌&&◌, ◌||◌, not, None}
use Rattle.std.proofs.lemmas.Bool.Decides.{nat_tests}
use Rattle.std.proofs.lemmas.Bool.{eqb-true, eq-eqb, false_from_ne_true, cases_eq}
use Rattle.mpt_spec.specs.Revision.{IsKnownRevision}
use Rattle.mpt_listing.specs.Listing.{hex, hex_bytes, quoted}
use Rattle.mpt_line.specs.declared.heads.HeaderLine.{HeaderLine}
use Rattle.mpt_line.specs.declared.heads.HeaderEnd.{HeaderEnd}
use Rattle.mpt_line.specs.declared.heads.HeaderEnd.TheVariants as end
use Rattle.mpt_line.specs.Reading.{seen_as, bytes_field_in, text_in}
use Rattle.mpt_line.specs.Lines.{IsRightPointer, pointer_text, IsRightEnd, IsRightHeader, header_text}
use Rattle.mpt_line.specs.Forms.{pointer_in, end_in, header_in, is_right_pointer, is_end_of, is_right_header}
use Rattle.mpt_line.proofs.Exact.{IsExact, both-exact, ended-exact, seen_as-exact, checked-exact, tagged-exact, either-exact, text-exact, value-exact}
use Rattle.mpt_line.proofs.Digits.{field-exact, bytes_field-exact, quoted_field-exact}
use Rattle.mpt_line.proofs.ByteValues.{AreAllBytes, to_bytes, from_bytes}

pub pointer-exact : IsExact pointer_text IsRightPointer pointer_in
unfolding pointer_in
pointer-exact =
    value-exact
    (checked-exact
    (seen_as-exact (both-exact (field-exact (codes "pointer at ") 8) (both-exact (field-exact (codes " table ") 8) (both-exact (field-exact (codes " revision ") 2) (ended-exact (bytes_field-exact (codes " features ") 5)))))
    (λ v. record { at = v.0; pointer = record { address = v.1.0; revision = v.1.1.0; features = v.1.1.1 } }) (λ e. (e.at, (e.pointer.address, (e.pointer.revision, e.pointer.features)))) (λ _. refl) (λ _. refl))
    is_right_pointer)
    IsRightPointer
    (λ e v. record {
      at = v.0.0;
      fields = record { address = v.0.1.0; revision = v.0.1.1.0; features = to_bytes e.pointer.features 5 v.0.1.1.1 };
      revision = right_revision e.pointer.revision (slice_index e.pointer.features 0) e.pointer.address v.1;
      number = right_low e.pointer.revision (slice_index e.pointer.features 0) e.pointer.address v.1;
      address = right_address e.pointer.revision (slice_index e.pointer.features 0) e.pointer.address v.1;
    })
    (λ e v. (
      (v.at, (v.fields.address, (v.fields.revision, from_bytes e.pointer.features 5 v.fields.features))),
      is_right e.pointer.revision (slice_index e.pointer.features 0) e.pointer.address v.revision v.number v.address,
    ))
  where
    right_revision : (r n a : ℕ) → (((r == 1) || (r == 4)) && nat_le n 7 && not ((n == 0) && (a == 0))) ≡ true → IsKnownRevision r
    right_revision r n a h = by_case (cases_eq r 1) (cases_eq r 4)
      where
        by_case : (r ≡ 1) ⊎ (r ≢ 1) → (r ≡ 4) ⊎ (r ≢ 4) → IsKnownRevision r
        by_case (inl one) _ = inl one
        by_case (inr _) (inl four) = inr four
        by_case (inr m) (inr n) = absurd (grind (arith, nat_tests))

    right_low : (r n a : ℕ) → (((r == 1) || (r == 4)) && nat_le n 7 && not ((n == 0) && (a == 0))) ≡ true → n ≤ 7
    right_low r n a h = grind (arith, nat_tests)

    right_address : (r n a : ℕ) → (((r == 1) || (r == 4)) && nat_le n 7 && not ((n == 0) && (a == 0))) ≡ true → n ≡ 0 → a ≢ 0
    right_address r n a h k e = grind (arith, nat_tests)

    is_right : (r n a : ℕ) → IsKnownRevision r → n ≤ 7 → (n ≡ 0 → a ≢ 0) → (((r == 1) || (r == 4)) && nat_le n 7 && not ((n == 0) && (a == 0))) ≡ true
    is_right r n a (inl h) k e = grind (arith, nat_tests)
    is_right r n a (inr h) k e = grind (arith, nat_tests)

-- the last field of a header: its text and its value
end_text : HeaderEnd → List ℕ
end_text (end.Reserved byte) = codes " reserved " ++ hex 2 byte
end_text (end.Old bytes) = codes " old " ++ hex_bytes bytes

abbrev IsEndValue : HeaderEnd → Type 0
IsEndValue (end.Reserved byte) = byte < 16 ^ 2
IsEndValue (end.Old bytes) = (length bytes ≡ 4) × AreAllBytes bytes

abbrev EndCase : HeaderEnd → Type 0
EndCase e = ((bytes : List ℕ) × (e ≡ end.Old bytes) × ((length bytes ≡ 4) × AreAllBytes bytes)) ⊎ ((byte : ℕ) × (e ≡ end.Reserved byte) × (byte < 16 ^ 2))

no_old : (e : HeaderEnd) (rest : List ℕ) → ((byte : ℕ) × (e ≡ end.Reserved byte) × (byte < 16 ^ 2)) → seen_as end.Old (bytes_field_in (codes " old ") 4) (end_text e ++ rest) ≡ None
unfolding end_text bytes_field_in text_in
no_old e rest (byte, h, v) = ap (λ (x : HeaderEnd). seen_as end.Old (bytes_field_in (codes " old ") 4) (end_text x ++ rest)) h

end_to : (e : HeaderEnd) → EndCase e → IsEndValue e
end_to e (inl (bytes, h, v)) = subst (λ (x : HeaderEnd). IsEndValue x) (sym h) v
end_to e (inr (byte, h, v)) = subst (λ (x : HeaderEnd). IsEndValue x) (sym h) v

end_of : (e : HeaderEnd) → IsEndValue e → EndCase e
end_of (end.Reserved byte) v = inr (byte, refl, v)
end_of (end.Old bytes) v = inl (bytes, refl, v)

end-exact : IsExact end_text IsEndValue end_in
unfolding end_in end_text
end-exact =
    value-exact
    (either-exact (tagged-exact (bytes_field-exact (codes " old ") 4) end_text end.Old (λ _. refl)) (tagged-exact (field-exact (codes " reserved ") 2) end_text end.Reserved (λ _. refl)) no_old)
    IsEndValue end_to end_of

-- a header by its last field
abbrev header_with : ℕ → List ℕ → List ℕ → ℕ → ℕ → ℕ → HeaderEnd → HeaderLine
header_with r o p t s l e = record { revision = r; oem = o; product = p; oem_table = t; oem_size = s; local_address = l; end = e }

abbrev parts_text : ℕ → List ℕ → List ℕ → ℕ → ℕ → ℕ → HeaderEnd → List ℕ
parts_text r o p t s l e =
    (codes "header revision " ++ hex 2 r) ++ ((codes " oem " ++ quoted o) ++ ((codes " product " ++ quoted p)
    ++ ((codes " oemtable " ++ hex 8 t) ++ ((codes " oemsize " ++ hex 4 s) ++ ((codes " local " ++ hex 8 l) ++ (end_text e ++ 10 ∷ []))))))

same_text : (r : ℕ) (o p : List ℕ) (t s l : ℕ) (e : HeaderEnd) → is_end_of e r ≡ true → header_text (header_with r o p t s l e) ≡ parts_text r o p t s l e
unfolding end_text
same_text r o p t s l (end.Reserved byte) h =
    let four : r ≡ 4 = eqb-true r 4 h in
    let front : eqb r 1 ≡ false = false_from_ne_true (eqb r 1) (λ one. omega (arith, four, eqb-true r 1 one)) in
    rw front (simp append_assoc refl)
same_text r o p t s l (end.Old bytes) h = rw h (simp append_assoc refl)

pub header-exact : IsExact header_text IsRightHeader header_in
unfolding header_in
header-exact =
    value-exact
    (text-exact
    (checked-exact
    (seen_as-exact (both-exact (field-exact (codes "header revision ") 2) (both-exact (quoted_field-exact (codes " oem ") 8) (both-exact (quoted_field-exact (codes " product ") 12)
    (both-exact (field-exact (codes " oemtable ") 8) (both-exact (field-exact (codes " oemsize ") 4) (both-exact (field-exact (codes " local ") 8) (ended-exact end-exact)))))))
    (λ v. record { revision = v.0; oem = v.1.0; product = v.1.1.0; oem_table = v.1.1.1.0; oem_size = v.1.1.1.1.0; local_address = v.1.1.1.1.1.0; end = v.1.1.1.1.1.1 })
    (λ e. (e.revision, (e.oem, (e.product, (e.oem_table, (e.oem_size, (e.local_address, e.end))))))) (λ _. refl) (λ _. refl))
    is_right_header)
    header_text
    (λ e v. same_text e.revision e.oem e.product e.oem_table e.oem_size e.local_address e.end v.1))
    IsRightHeader
    (λ e v. record {
      oem = to_bytes e.oem 8 v.0.1.0;
      product = to_bytes e.product 12 v.0.1.1.0;
      oem_table = v.0.1.1.1.0;
      oem_size = v.0.1.1.1.1.0;
      local_address = v.0.1.1.1.1.1.0;
      end = right_end e.end e.revision v.0.1.1.1.1.1.1 v.1;
    })
    (λ e v. ((low e.end e.revision v.end, (from_bytes e.oem 8 v.oem, (from_bytes e.product 12 v.product, (v.oem_table, (v.oem_size, (v.local_address, end_value e.end e.revision v.end)))))), is_end e.end e.revision v.end))
  where
    right_end : (e : HeaderEnd) (r : ℕ) → IsEndValue e → is_end_of e r ≡ true → IsRightEnd e r
    right_end (end.Reserved byte) r v h = (eqb-true r 4 h, v)
    right_end (end.Old bytes) r v h = let b = to_bytes bytes 4 v in (eqb-true r 1 h, b.0, b.1)

    low : (e : HeaderEnd) (r : ℕ) → IsRightEnd e r → r < 16 ^ 2
    low (end.Reserved byte) r h = omega (arith, h.0)
    low (end.Old bytes) r h = omega (arith, h.0)

    end_value : (e : HeaderEnd) (r : ℕ) → IsRightEnd e r → IsEndValue e
    end_value (end.Reserved byte) r h = h.1
    end_value (end.Old bytes) r h = from_bytes bytes 4 (h.1, h.2)

    is_end : (e : HeaderEnd) (r : ℕ) → IsRightEnd e r → is_end_of e r ≡ true
    is_end (end.Reserved byte) r h = eq-eqb r 4 h.0
    is_end (end.Old bytes) r h = eq-eqb r 1 h.0
