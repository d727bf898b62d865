-- The bytes that are written for a table are that table.
use Rattle.std.proofs.Common.{◌≡◌, ℕ, ◌+◌, ◌^◌, ◌<◌, ◌≤◌, List, [], ◌∷◌, ◌++◌, length, sum, take, drop, replicate, set, sym, refl, ap, ◌∙◌, subst, arith, append_assoc, append-nil, drop-drop}
use Rattle.std.specs.Prelude.{slice_index, codes, sum_by}
use Rattle.std.specs.Int.{to_le_bytes, w32}
use Rattle.std.specs.List.{AllByRecursion, flat_map}
use Rattle.std.proofs.lemmas.List.{length-append, take-append-le, take_all, drop_at}
use Rattle.std.proofs.lemmas.List.Sums.{sum_by-cons}
use Rattle.mpt_base.specs.Bytes.{part, number_at}
use Rattle.mpt_base.specs.Writing.{checksum_of, overlay}
use Rattle.mpt_spec.proofs.ByteLemmas.{slice_index-append, number_at-append, part-append, slice_index-behind, number_at-behind, part-behind, take-append_whole, number_at-to_le_bytes_2, number_at-to_le_bytes_4, sum-cell, sealed}
use Rattle.mpf_madt.specs.declared.madt.Madt.{Madt}
use Rattle.mpf_madt.specs.declared.madt.MadtEntry.{MadtEntry}
use Rattle.mpf_madt.specs.declared.madt.MadtEntry.TheVariants as entry
use Rattle.mpf_madt.specs.Entries.{IsMadtEntryAt, entry_length, AreMadtEntries}
use Rattle.mpf_madt.specs.Table.{IsHeaderOf, IsMadt}
use Rattle.mpf_madt.specs.Lawful.{IsLawfulEntry, IsEntryValue, IsLawfulMadt, IsMadtValue, madt_size}
use Rattle.mpf_madt.specs.Spelling.{entry_bytes, front_bytes, back_bytes, header_bytes, madt_with, madt_bytes}

pub length-entry_bytes : (e : MadtEntry) → length (entry_bytes e) ≡ entry_length e
length-entry_bytes (entry.Local u a f) = refl
length-entry_bytes (entry.Io i r a b) = refl
length-entry_bytes (entry.Override b s g f) = refl
length-entry_bytes (entry.Nmi u f l) = refl
length-entry_bytes (entry.Other e) = omega arith

pub length-entries : (es : List MadtEntry) → length (flat_map entry_bytes es) ≡ sum_by entry_length es
length-entries [] = refl
length-entries (e ∷ es) = length-append (entry_bytes e) (flat_map entry_bytes es) ∙ omega (arith, length-entry_bytes e, length-entries es) ∙ sym (sum_by-cons entry_length e es)

module _ (before after : List ℕ) where
  -- the first byte behind some bytes, and the byte and the number at a place behind them
  first : (bytes : List ℕ) → slice_index (before ++ bytes) (length before) ≡ slice_index bytes 0
  first bytes =
      let place : length before + 0 ≡ length before = omega arith in
      rw place at (slice_index-append before bytes 0)

  byte : (bytes : List ℕ) (i : ℕ) → slice_index bytes i ≡ slice_index (before ++ bytes) (length before + i)
  byte bytes i = sym (slice_index-append before bytes i)

  number : (n : ℕ) (bytes : List ℕ) (i x : ℕ) → number_at n bytes i ≡ x → x ≡ number_at n (before ++ bytes) (length before + i)
  number n bytes i x e = sym (number_at-append n before bytes i ∙ e)

  field : (bytes : List ℕ) (i n : ℕ) (xs : List ℕ) → part bytes i n ≡ xs → xs ≡ part (before ++ bytes) (length before + i) n
  field bytes i n xs e = sym (part-append before bytes i n ∙ e)

  entry-written : (e : MadtEntry) → IsEntryValue e → IsLawfulEntry e → IsMadtEntryAt e (before ++ (entry_bytes e ++ after)) (length before)
  entry-written (entry.Local u a f) v l =
      let bytes : List ℕ = entry_bytes (entry.Local u a f) ++ after in
      record { type_byte = first bytes; length_byte = sym (byte bytes 1); uid_there = byte bytes 2; apic_there = byte bytes 3; flags_there = number 4 bytes 4 f (number_at-to_le_bytes_4 f v.2) }
  entry-written (entry.Io i r a b) v l =
      let bytes : List ℕ = entry_bytes (entry.Io i r a b) ++ after in
      record { type_byte = first bytes; length_byte = sym (byte bytes 1); id_there = byte bytes 2; reserved_there = byte bytes 3; address_there = number 4 bytes 4 a (number_at-to_le_bytes_4 a v.2); base_there = number 4 bytes 8 b (number_at-to_le_bytes_4 b v.3) }
  entry-written (entry.Override b s g f) v l =
      let bytes : List ℕ = entry_bytes (entry.Override b s g f) ++ after in
      record { type_byte = first bytes; length_byte = sym (byte bytes 1); bus_there = byte bytes 2; source_there = byte bytes 3; gsi_there = number 4 bytes 4 g (number_at-to_le_bytes_4 g v.2); flags_there = number 2 bytes 8 f (number_at-to_le_bytes_2 f v.3) }
  entry-written (entry.Nmi u f m) v l =
      let bytes : List ℕ = entry_bytes (entry.Nmi u f m) ++ after in
      record { type_byte = first bytes; length_byte = sym (byte bytes 1); uid_there = byte bytes 2; flags_there = number 2 bytes 3 f (number_at-to_le_bytes_2 f v.1); lint_there = byte bytes 5 }
  entry-written (entry.Other e) v l =
      let bytes : List ℕ = entry_bytes (entry.Other e) ++ after in
      record { type_byte = sym (first bytes); other = l.0; length_byte = sym (byte bytes 1); rest = field bytes 2 (length e.rest) e.rest (take-append_whole (length e.rest) e.rest after refl) }

moved : (es : List MadtEntry) (a b : List ℕ) (f g x y : ℕ) → a ≡ b → f ≡ g → x ≡ y → AreMadtEntries es a f x → AreMadtEntries es b g y
moved es a b f g x y p q r h = subst (λ z. AreMadtEntries es b g z) r (subst (λ z. AreMadtEntries es b z x) q (subst (λ z. AreMadtEntries es z f x) p h))

-- what is spelled one after another stands end to end
end_to_end : (es : List MadtEntry) (before after : List ℕ) → AllByRecursion IsEntryValue es → AllByRecursion IsLawfulEntry es
    → AreMadtEntries es (before ++ (flat_map entry_bytes es ++ after)) (length before) (length before + length (flat_map entry_bytes es))
end_to_end [] before after v l = omega arith
end_to_end (e ∷ es) before after v l =
    let rest : List ℕ = flat_map entry_bytes es in
    let joined : entry_bytes e ++ (rest ++ after) ≡ entry_bytes e ++ rest ++ after = sym (append_assoc (entry_bytes e) rest after) in
    let head : IsMadtEntryAt e (before ++ (entry_bytes e ++ rest ++ after)) (length before) =
    subst (λ x. IsMadtEntryAt e (before ++ x) (length before)) joined (entry-written before (rest ++ after) e v.0 l.0) in
    let whole : before ++ entry_bytes e ++ (rest ++ after) ≡ before ++ (entry_bytes e ++ rest ++ after) = append_assoc before (entry_bytes e) (rest ++ after) ∙ ap (λ x. before ++ x) joined in
    let place : length (before ++ entry_bytes e) ≡ length before + entry_length e = length-append before (entry_bytes e) ∙ ap (λ x. length before + x) (length-entry_bytes e) in
    let end : length (before ++ entry_bytes e) + length rest ≡ length before + length (entry_bytes e ++ rest) = omega (arith, length-append before (entry_bytes e), length-append (entry_bytes e) rest) in
    let tail : AreMadtEntries es (before ++ entry_bytes e ++ (rest ++ after)) (length (before ++ entry_bytes e)) (length (before ++ entry_bytes e) + length rest) = end_to_end es (before ++ entry_bytes e) after v.1 l.1 in (
      head,
      moved es (before ++ entry_bytes e ++ (rest ++ after)) (before ++ (entry_bytes e ++ rest ++ after)) (length (before ++ entry_bytes e)) (length before + entry_length e)
          (length (before ++ entry_bytes e) + length rest) (length before + length (entry_bytes e ++ rest)) whole place end tail,
    )

-- the header in its parts, before what follows
header-parts : (m : Madt) (size checksum : ℕ) (rest : List ℕ) → header_bytes m size checksum ++ rest
    ≡ front_bytes m size checksum ++ (m.oem ++ (m.table ++ (to_le_bytes w32 m.oem_revision ++ (m.creator ++ (back_bytes m ++ rest)))))
header-parts m size checksum rest = simp append_assoc

pub length-header : (m : Madt) (size checksum : ℕ) → length m.oem ≡ 6 → length m.table ≡ 8 → length m.creator ≡ 4 → length (header_bytes m size checksum) ≡ 44
length-header m size checksum oem table creator =
    omega (
      arith,
      oem,
      table,
      creator,
      length-append m.oem (m.table ++ (to_le_bytes w32 m.oem_revision ++ (m.creator ++ back_bytes m))),
      length-append m.table (to_le_bytes w32 m.oem_revision ++ (m.creator ++ back_bytes m)),
      length-append m.creator (back_bytes m),
    )

-- the fields of a header that is spelled
record IsSpelledHeader (m : Madt) (size : ℕ) (image : List ℕ) : Type 0 where
  header : IsHeaderOf m image
  size_there : number_at 4 image 4 ≡ size

header-written : (m : Madt) (size checksum : ℕ) (rest image : List ℕ) → IsMadtValue m → size < 2 ^ 32 → image ≡ header_bytes m size checksum ++ rest → IsSpelledHeader m size image
header-written m size checksum rest image v low spelled =
    let front : List ℕ = front_bytes m size checksum in
    let word : List ℕ = to_le_bytes w32 m.oem_revision in
    let back : List ℕ = back_bytes m in
    let all : image ≡ [] ++ (front ++ (m.oem ++ (m.table ++ (word ++ (m.creator ++ (back ++ rest)))))) = spelled ∙ header-parts m size checksum rest in
    let from_oem : image ≡ front ++ (m.oem ++ (m.table ++ (word ++ (m.creator ++ (back ++ rest))))) = all in
    let from_table : image ≡ front ++ m.oem ++ (m.table ++ (word ++ (m.creator ++ (back ++ rest)))) = from_oem ∙ sym (append_assoc front m.oem (m.table ++ (word ++ (m.creator ++ (back ++ rest))))) in
    let from_word : image ≡ front ++ m.oem ++ m.table ++ (word ++ (m.creator ++ (back ++ rest))) = from_table ∙ sym (append_assoc (front ++ m.oem) m.table (word ++ (m.creator ++ (back ++ rest)))) in
    let from_creator : image ≡ front ++ m.oem ++ m.table ++ word ++ (m.creator ++ (back ++ rest)) = from_word ∙ sym (append_assoc (front ++ m.oem ++ m.table) word (m.creator ++ (back ++ rest))) in
    let from_back : image ≡ front ++ m.oem ++ m.table ++ word ++ m.creator ++ (back ++ rest) = from_creator ∙ sym (append_assoc (front ++ m.oem ++ m.table ++ word) m.creator (back ++ rest)) in
    let table_at : length (front ++ m.oem) ≡ 16 = length-append front m.oem ∙ omega (arith, v.oem.0) in
    let word_at : length (front ++ m.oem ++ m.table) ≡ 24 = length-append (front ++ m.oem) m.table ∙ omega (arith, v.table.0) in
    let creator_at : length (front ++ m.oem ++ m.table ++ word) ≡ 28 = length-append (front ++ m.oem ++ m.table) word ∙ omega arith in
    let back_at : length (front ++ m.oem ++ m.table ++ word ++ m.creator) ≡ 32 = length-append (front ++ m.oem ++ m.table ++ word) m.creator ∙ omega (arith, v.creator.0) in
    let tail : List ℕ = m.oem ++ (m.table ++ (word ++ (m.creator ++ (back ++ rest)))) in
    record {
      header = record {
        signature = part-behind 4 image [] (front ++ tail) 0 0 all refl;
        revision = sym (slice_index-behind image [] (front ++ tail) 8 8 all refl);
        oem = sym (part-behind 6 image front tail 10 0 from_oem refl ∙ take-append_whole 6 m.oem (m.table ++ (word ++ (m.creator ++ (back ++ rest)))) v.oem.0);
        table = sym (part-behind 8 image (front ++ m.oem) (m.table ++ (word ++ (m.creator ++ (back ++ rest)))) 16 0 from_table (omega arith) ∙ take-append_whole 8 m.table (word ++ (m.creator ++ (back ++ rest))) v.table.0);
        oem_revision = sym (number_at-behind 4 image (front ++ m.oem ++ m.table) (word ++ (m.creator ++ (back ++ rest))) 24 0 from_word (omega arith) ∙ number_at-to_le_bytes_4 m.oem_revision v.oem_revision);
        creator = sym (part-behind 4 image (front ++ m.oem ++ m.table ++ word) (m.creator ++ (back ++ rest)) 28 0 from_creator (omega arith) ∙ take-append_whole 4 m.creator (back ++ rest) v.creator.0);
        creator_revision = sym (number_at-behind 4 image (front ++ m.oem ++ m.table ++ word ++ m.creator) (back ++ rest) 32 0 from_back (omega arith) ∙ number_at-to_le_bytes_4 m.creator_revision v.creator_revision);
        local_address = sym (number_at-behind 4 image (front ++ m.oem ++ m.table ++ word ++ m.creator) (back ++ rest) 36 4 from_back (omega arith) ∙ number_at-to_le_bytes_4 m.local_address v.local_address);
        flags = sym (number_at-behind 4 image (front ++ m.oem ++ m.table ++ word ++ m.creator) (back ++ rest) 40 8 from_back (omega arith) ∙ number_at-to_le_bytes_4 m.flags v.flags);
      };
      size_there = number_at-behind 4 image [] (front ++ tail) 4 4 all refl ∙ number_at-to_le_bytes_4 size low;
    }

-- the checksum is a byte in the place of a zero
pub sum-madt_with : (m : Madt) (checksum : ℕ) → sum (madt_with m checksum) ≡ sum (madt_with m 0) + checksum
sum-madt_with m checksum =
    let entries : List ℕ = flat_map entry_bytes m.entries in
    let size : ℕ = 44 + length entries in
    let tail : List ℕ = m.oem ++ (m.table ++ (to_le_bytes w32 m.oem_revision ++ (m.creator ++ (back_bytes m ++ entries)))) in
    ap sum (header-parts m size checksum entries)
    ∙ sum-cell (codes "APIC" ++ (to_le_bytes w32 size ++ m.revision ∷ [])) tail checksum
    ∙ ap (λ s. s + checksum) (sym (ap sum (header-parts m size 0 entries)))

-- the checksum in the place of the zero
pub set-madt_with : (m : Madt) (c d : ℕ) → set (madt_with m c) 9 d ≡ madt_with m d
set-madt_with m c d = refl

pub sealed_madt : (m : Madt) (bytes : List ℕ) → bytes ≡ madt_with m 0 → set bytes 9 (checksum_of (set bytes 9 0)) ≡ madt_bytes m
sealed_madt m bytes h =
    ap (λ xs. set xs 9 (checksum_of (set xs 9 0))) h
    ∙ ap (λ xs. set (madt_with m 0) 9 (checksum_of xs)) (set-madt_with m 0 0)
    ∙ set-madt_with m 0 (checksum_of (madt_with m 0))

pub length-madt_bytes : (m : Madt) → IsMadtValue m → length (madt_bytes m) ≡ madt_size m
length-madt_bytes m v =
    let entries : List ℕ = flat_map entry_bytes m.entries in
    let header : List ℕ = header_bytes m (44 + length entries) (checksum_of (madt_with m 0)) in
    omega (arith, length-append header entries, length-header m (44 + length entries) (checksum_of (madt_with m 0)) v.oem.0 v.table.0 v.creator.0, length-entries m.entries)

-- the bytes of a table are the table
pub IsMadt-written : (m : Madt) → IsMadtValue m → IsLawfulMadt m → IsMadt m (madt_bytes m)
IsMadt-written m v l =
    let entries : List ℕ = flat_map entry_bytes m.entries in
    let size : ℕ = 44 + length entries in
    let checksum : ℕ = checksum_of (madt_with m 0) in
    let header : List ℕ = header_bytes m size checksum in
    let long : length header ≡ 44 = length-header m size checksum v.oem.0 v.table.0 v.creator.0 in
    let many : length entries ≡ sum_by entry_length m.entries = length-entries m.entries in
    let whole : length (madt_bytes m) ≡ size = length-append header entries ∙ omega arith in
    let head : IsSpelledHeader m size (madt_bytes m) = header-written m size checksum entries (madt_bytes m) v (omega (arith, l.fits)) refl in
    let tiles : AreMadtEntries m.entries (header ++ (entries ++ [])) (length header) (length header + length entries) = end_to_end m.entries header [] v.entries l.lawful in
    record {
      whole = omega arith;
      size = head.size_there ∙ sym whole;
      checksum = sealed (sum (madt_with m 0)) (sum (madt_bytes m)) checksum (sum-madt_with m checksum) refl;
      header = head.header;
      entries = moved m.entries (header ++ (entries ++ [])) (madt_bytes m) (length header) 44 (length header + length entries) (length (madt_bytes m)) (ap (λ x. header ++ x) (append-nil entries)) long (omega arith) tiles;
    }

-- a piece that is put behind what is done
put_next : (done rest left piece bytes : List ℕ) (at : ℕ) → bytes ≡ done ++ rest → length done ≡ at → drop (length piece) rest ≡ left → overlay bytes at piece ≡ done ++ piece ++ left
put_next done rest left piece bytes at is there more =
    ap (λ xs. overlay xs at piece) is
    ∙ ap (λ xs. xs ++ piece ++ drop (at + length piece) (done ++ rest)) (take-append_whole at done rest there)
    ∙ ap (λ xs. done ++ piece ++ xs) (sym (drop-drop (length piece) at (done ++ rest)) ∙ ap (λ xs. drop (length piece) xs) (drop_at done rest at there) ∙ more)

six_joined : (a b c d e f : List ℕ) → a ++ b ++ c ++ d ++ e ++ f ++ [] ≡ a ++ (b ++ (c ++ (d ++ (e ++ f))))
six_joined a b c d e f = simp (append_assoc, append-nil)

-- the header in six pieces
pub header_put : (m : Madt) (size : ℕ) (v w x y z new : List ℕ) → length m.oem ≡ 6 → length m.table ≡ 8 → length m.creator ≡ 4
    → v ≡ overlay (replicate 44 0) 0 (front_bytes m size 0) → w ≡ overlay v 10 m.oem → x ≡ overlay w 16 m.table → y ≡ overlay x 24 (to_le_bytes w32 m.oem_revision) → z ≡ overlay y 28 m.creator → new ≡ overlay z 32 (back_bytes m)
    → new ≡ header_bytes m size 0
header_put m size v w x y z new oem table creator hv hw hx hy hz hn =
    let front : List ℕ = front_bytes m size 0 in
    let word : List ℕ = to_le_bytes w32 m.oem_revision in
    let second : w ≡ front ++ m.oem ++ replicate 28 0 = hw ∙ put_next front (replicate 34 0) (replicate 28 0) m.oem v 10 hv refl (ap (λ n. drop n (replicate 34 0)) oem) in
    let long2 : length (front ++ m.oem) ≡ 16 = length-append front m.oem ∙ omega (arith, oem) in
    let third : x ≡ front ++ m.oem ++ m.table ++ replicate 20 0 = hx ∙ put_next (front ++ m.oem) (replicate 28 0) (replicate 20 0) m.table w 16 second long2 (ap (λ n. drop n (replicate 28 0)) table) in
    let long3 : length (front ++ m.oem ++ m.table) ≡ 24 = length-append (front ++ m.oem) m.table ∙ omega (arith, long2, table) in
    let fourth : y ≡ front ++ m.oem ++ m.table ++ word ++ replicate 16 0 = hy ∙ put_next (front ++ m.oem ++ m.table) (replicate 20 0) (replicate 16 0) word x 24 third long3 refl in
    let long4 : length (front ++ m.oem ++ m.table ++ word) ≡ 28 = length-append (front ++ m.oem ++ m.table) word ∙ omega (arith, long3) in
    let fifth : z ≡ front ++ m.oem ++ m.table ++ word ++ m.creator ++ replicate 12 0 = hz ∙ put_next (front ++ m.oem ++ m.table ++ word) (replicate 16 0) (replicate 12 0) m.creator y 28 fourth long4 (ap (λ n. drop n (replicate 16 0)) creator) in
    let long5 : length (front ++ m.oem ++ m.table ++ word ++ m.creator) ≡ 32 = length-append (front ++ m.oem ++ m.table ++ word) m.creator ∙ omega (arith, long4, creator) in
    hn ∙ put_next (front ++ m.oem ++ m.table ++ word ++ m.creator) (replicate 12 0) [] (back_bytes m) z 32 fifth long5 refl ∙ six_joined front m.oem m.table word m.creator (back_bytes m)

-- what was written through a slice of a whole vector is what the vector has
pub written_back : (len : ℕ) (new items : List ℕ) → len ≡ length items → length new ≡ length items → take len (new ++ drop (length new) items) ≡ new
written_back len new items h k =
    let low : len ≤ length new = omega arith in
    let same : len ≡ length new = omega arith in
    take-append-le len new (drop (length new) items) low ∙ take_all len new (omega arith)
