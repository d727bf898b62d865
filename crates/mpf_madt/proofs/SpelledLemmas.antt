-- Bytes that are a table are those that are written for it.
use Rattle.std.proofs.Common.{◌≡◌, ℕ, ◌+◌, ◌≤◌, List, [], ◌∷◌, ◌++◌, length, sum, sym, refl, ap, ◌∙◌, subst, arith}
use Rattle.std.specs.Prelude.{slice_index, codes}
use Rattle.std.specs.Int.{to_le_bytes, w16, w32}
use Rattle.std.specs.List.{flat_map}
use Rattle.std.proofs.lemmas.List.{length-append}
use Rattle.mpt_base.specs.Bytes.{part, SumsToZero, IsByteList}
use Rattle.mpt_base.specs.Writing.{checksum_of}
use Rattle.mpt_spec.proofs.ByteLemmas.{take_whole}
use Rattle.mpt_spec.proofs.SpellingLemmas.{length-part, IsSpelledAt, unsealed, spelled-part, spelled-append, spelled-byte, spelled-cons, spelled-2, spelled-4}
use Rattle.mpf_madt.specs.declared.madt.Madt.{Madt}
use Rattle.mpf_madt.specs.declared.madt.MadtEntry.{MadtEntry}
use Rattle.mpf_madt.specs.declared.madt.MadtEntry.TheVariants as entry
use Rattle.mpf_madt.specs.Entries.{IsMadtEntryAt, entry_length, AreMadtEntries}
use Rattle.mpf_madt.specs.Table.{IsMadt}
use Rattle.mpf_madt.specs.Spelling.{entry_bytes, front_bytes, back_bytes, header_bytes, madt_with, madt_bytes}
use Rattle.mpf_madt.proofs.WrittenLemmas.{length-entry_bytes, length-header, sum-madt_with}

module _ (image : List ℕ) (b : IsByteList image) where
  entry_spelled : (e : MadtEntry) (at : ℕ) → at + entry_length e ≤ length image → IsMadtEntryAt e image at → IsSpelledAt image at (entry_bytes e)
  entry_spelled (entry.Local u a f) at i h =
      spelled-cons image b at (at + 1) 0 (8 ∷ u ∷ a ∷ to_le_bytes w32 f) refl (sym h.type_byte)
      (spelled-cons image b (at + 1) (at + 2) 8 (u ∷ a ∷ to_le_bytes w32 f) (omega arith) (sym h.length_byte)
      (spelled-cons image b (at + 2) (at + 3) u (a ∷ to_le_bytes w32 f) (omega arith) h.uid_there
      (spelled-cons image b (at + 3) (at + 4) a (to_le_bytes w32 f) (omega arith) h.apic_there (spelled-4 image b (at + 4) f h.flags_there (omega arith)))))
  entry_spelled (entry.Io d r a g) at i h =
      let rest : List ℕ = to_le_bytes w32 a ++ to_le_bytes w32 g in
      let fields : IsSpelledAt image (at + 4) rest =
      spelled-append image b (at + 4) (at + 8) (to_le_bytes w32 a) (to_le_bytes w32 g) (omega arith) (spelled-4 image b (at + 4) a h.address_there (omega arith)) (spelled-4 image b (at + 8) g h.base_there (omega arith)) in
      spelled-cons image b at (at + 1) 1 (12 ∷ d ∷ r ∷ rest) refl (sym h.type_byte)
      (spelled-cons image b (at + 1) (at + 2) 12 (d ∷ r ∷ rest) (omega arith) (sym h.length_byte)
      (spelled-cons image b (at + 2) (at + 3) d (r ∷ rest) (omega arith) h.id_there (spelled-cons image b (at + 3) (at + 4) r rest (omega arith) h.reserved_there fields)))
  entry_spelled (entry.Override u s g f) at i h =
      let rest : List ℕ = to_le_bytes w32 g ++ to_le_bytes w16 f in
      let fields : IsSpelledAt image (at + 4) rest =
      spelled-append image b (at + 4) (at + 8) (to_le_bytes w32 g) (to_le_bytes w16 f) (omega arith) (spelled-4 image b (at + 4) g h.gsi_there (omega arith)) (spelled-2 image b (at + 8) f h.flags_there (omega arith)) in
      spelled-cons image b at (at + 1) 2 (10 ∷ u ∷ s ∷ rest) refl (sym h.type_byte)
      (spelled-cons image b (at + 1) (at + 2) 10 (u ∷ s ∷ rest) (omega arith) (sym h.length_byte)
      (spelled-cons image b (at + 2) (at + 3) u (s ∷ rest) (omega arith) h.bus_there (spelled-cons image b (at + 3) (at + 4) s rest (omega arith) h.source_there fields)))
  entry_spelled (entry.Nmi u f l) at i h =
      let rest : List ℕ = to_le_bytes w16 f ++ l ∷ [] in
      let fields : IsSpelledAt image (at + 3) rest =
      spelled-append image b (at + 3) (at + 5) (to_le_bytes w16 f) (l ∷ []) (omega arith) (spelled-2 image b (at + 3) f h.flags_there (omega arith)) (spelled-byte image b (at + 5) l h.lint_there (omega arith)) in
      spelled-cons image b at (at + 1) 4 (6 ∷ u ∷ rest) refl (sym h.type_byte)
      (spelled-cons image b (at + 1) (at + 2) 6 (u ∷ rest) (omega arith) (sym h.length_byte)
      (spelled-cons image b (at + 2) (at + 3) u rest (omega arith) h.uid_there fields))
  entry_spelled (entry.Other e) at i h =
      spelled-cons image b at (at + 1) e.kind ((2 + length e.rest) ∷ e.rest) refl h.type_byte
      (spelled-cons image b (at + 1) (at + 2) (2 + length e.rest) e.rest (omega arith) (sym h.length_byte) (spelled-part image b (at + 2) (length e.rest) e.rest h.rest (omega arith)))

  -- entries end to end
  entries_spelled : (es : List MadtEntry) (from to : ℕ) → to ≤ length image → AreMadtEntries es image from to → IsSpelledAt image from (flat_map entry_bytes es) × (from + length (flat_map entry_bytes es) ≡ to)
  entries_spelled [] from to i h = (record { inside = omega (arith, h); there = refl }, omega (arith, h))
  entries_spelled (e ∷ es) from to i h =
      let rest = entries_spelled es (from + entry_length e) to i h.1 in
      let room : from + entry_length e ≤ length image = omega (arith, rest.1) in
      let long : length (entry_bytes e) ≡ entry_length e = length-entry_bytes e in (
        spelled-append image b from (from + entry_length e) (entry_bytes e) (flat_map entry_bytes es) (omega arith) (entry_spelled e from room h.0) rest.0,
        omega (arith, rest.1, length-append (entry_bytes e) (flat_map entry_bytes es)),
      )

  -- the table with the checksum that stands in the bytes
  with_spelled : (m : Madt) → IsMadt m image → image ≡ madt_with m (slice_index image 9)
  with_spelled m t =
      let whole : 44 ≤ length image = t.whole in
      let entries : List ℕ = flat_map entry_bytes m.entries in
      let size : ℕ = 44 + length entries in
      let checksum : ℕ = slice_index image 9 in
      let word : List ℕ = to_le_bytes w32 m.oem_revision in
      let back : List ℕ = back_bytes m in
      let rest = entries_spelled m.entries 44 (length image) (omega arith) t.entries in
      let long : size ≡ length image = rest.1 in
      let oem : length m.oem ≡ 6 = ap length t.header.oem ∙ length-part image 10 6 (omega arith) in
      let table : length m.table ≡ 8 = ap length t.header.table ∙ length-part image 16 8 (omega arith) in
      let creator : length m.creator ≡ 4 = ap length t.header.creator ∙ length-part image 28 4 (omega arith) in
      let front_there : IsSpelledAt image 0 (front_bytes m size checksum) =
      spelled-append image b 0 4 (codes "APIC") (to_le_bytes w32 size ++ (m.revision ∷ checksum ∷ [])) refl (spelled-part image b 0 4 (codes "APIC") (sym t.header.signature) (omega arith))
      (spelled-append image b 4 8 (to_le_bytes w32 size) (m.revision ∷ checksum ∷ []) refl (spelled-4 image b 4 size (omega (arith, t.size)) (omega arith))
      (spelled-cons image b 8 9 m.revision (checksum ∷ []) refl t.header.revision (spelled-byte image b 9 checksum refl (omega arith)))) in
      let back_there : IsSpelledAt image 32 back =
      spelled-append image b 32 36 (to_le_bytes w32 m.creator_revision) (to_le_bytes w32 m.local_address ++ to_le_bytes w32 m.flags) refl (spelled-4 image b 32 m.creator_revision t.header.creator_revision (omega arith))
      (spelled-append image b 36 40 (to_le_bytes w32 m.local_address) (to_le_bytes w32 m.flags) refl (spelled-4 image b 36 m.local_address t.header.local_address (omega arith)) (spelled-4 image b 40 m.flags t.header.flags (omega arith))) in
      let header_there : IsSpelledAt image 0 (header_bytes m size checksum) =
      spelled-append image b 0 10 (front_bytes m size checksum) (m.oem ++ (m.table ++ (word ++ (m.creator ++ back)))) refl front_there
      (spelled-append image b 10 16 m.oem (m.table ++ (word ++ (m.creator ++ back))) (omega arith) (spelled-part image b 10 6 m.oem t.header.oem (omega arith))
      (spelled-append image b 16 24 m.table (word ++ (m.creator ++ back)) (omega arith) (spelled-part image b 16 8 m.table t.header.table (omega arith))
      (spelled-append image b 24 28 word (m.creator ++ back) refl (spelled-4 image b 24 m.oem_revision t.header.oem_revision (omega arith))
      (spelled-append image b 28 32 m.creator back (omega arith) (spelled-part image b 28 4 m.creator t.header.creator (omega arith)) back_there)))) in
      let header_long : length (header_bytes m size checksum) ≡ 44 = length-header m size checksum oem table creator in
      let all : IsSpelledAt image 0 (madt_with m checksum) = spelled-append image b 0 44 (header_bytes m size checksum) entries (omega arith) header_there rest.0 in
      let same : length (madt_with m checksum) ≡ length image = length-append (header_bytes m size checksum) entries ∙ omega arith in
      sym (take_whole (length image) image refl) ∙ ap (λ n. part image 0 n) (sym same) ∙ all.there

-- bytes that are a table are those that are written for it
pub IsMadt-spelled : (m : Madt) (bytes : List ℕ) → IsByteList bytes → IsMadt m bytes → bytes ≡ madt_bytes m
IsMadt-spelled m bytes b t =
    let there : ℕ = slice_index bytes 9 in
    let same : bytes ≡ madt_with m there = with_spelled bytes b m t in
    let whole : SumsToZero (madt_with m there) = subst (λ x. SumsToZero x) same t.checksum in
    let checksum : there ≡ checksum_of (madt_with m 0) = unsealed (sum (madt_with m 0)) (sum (madt_with m there)) there (sum-madt_with m there) whole (b 9) in
    same ∙ ap (λ x. madt_with m x) checksum

-- a table is one list of bytes at most
pub IsMadt-one_spelling : (m : Madt) (bytes others : List ℕ) → IsByteList bytes → IsByteList others → IsMadt m bytes → IsMadt m others → bytes ≡ others
IsMadt-one_spelling m bytes others b c h g = IsMadt-spelled m bytes b h ∙ sym (IsMadt-spelled m others c g)
