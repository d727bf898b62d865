-- What stands in an image of bytes is spelled in one way: the bytes that are written for it.
--     IsSpelledAt image at bytes           the bytes stand in the image from a place on
--     spelled-byte, -2, -4, -8, -part      those of a field, by its value; spelled-cons, -append: one after the other
--     unsealed                             the byte that makes a sum zero is the checksum
use Rattle.std.proofs.Common.{◌≡◌, ◌≢◌, replicate, ℕ, suc, ◌+◌, ◌-◌, ◌%◌, ◌<◌, ◌≤◌, ◌⊎◌, List, [], ◌∷◌, ◌++◌, length, take, drop, sum, sym, refl, ap, ◌∙◌, subst, inl, inr, arith, add-zero}
use Rattle.std.specs.Prelude.{slice_index, codes}
use Rattle.std.specs.Int.{to_le_bytes, from_le_bytes, w16, w32, w64}
use Rattle.std.specs.List.{flat_map}
use Rattle.std.proofs.Math.Seq.{drop-cons, take-add}
use Rattle.std.proofs.lemmas.Bool.{cases_lt}
use Rattle.std.proofs.lemmas.List.{length-append, length-take, length-drop, drop-drop, get_or_past}
use Rattle.std.proofs.lemmas.List.Sums.{sum_by-cons}
use Rattle.std.proofs.lemmas.Nat.{le_bytes_2, le_bytes_4, le_bytes_8}
use Rattle.mpt_base.specs.Bytes.{part, number_at, SumsToZero}
use Rattle.mpt_spec.specs.declared.pointer.Pointer.{Pointer}
use Rattle.mpt_spec.specs.declared.entry.IntEntry.{IntEntry}
use Rattle.mpt_spec.specs.declared.entry.Base.{Base}
use Rattle.mpt_spec.specs.declared.entry.Base.TheVariants as base
use Rattle.mpt_spec.specs.declared.entry.Ext.{Ext}
use Rattle.mpt_spec.specs.declared.entry.Ext.TheVariants as ext
use Rattle.mpt_spec.specs.declared.tables.Table.{Table}
use Rattle.mpt_spec.specs.Pointer.{IsFloatingPointer}
use Rattle.mpt_spec.specs.Entries.{IsInterruptAt, IsBaseEntryAt, AreBaseEntries, base_length}
use Rattle.mpt_spec.specs.Extended.{IsExtEntryAt, AreExtEntries, ext_length}
use Rattle.mpt_spec.specs.Revision.{IsKnownRevision}
use Rattle.mpt_spec.specs.Table.{base_length_at, ext_length_at, revision_at, old_at, base_end, ext_end, IsConfigurationTable}
use Rattle.mpt_base.specs.Writing.{checksum_of}
use Rattle.mpt_spec.specs.Image.{interrupt_bytes, base_bytes, ext_bytes, header_end, header_bytes, base_table_bytes, table_bytes, pointer_with, pointer_bytes}
use Rattle.mpt_base.specs.Bytes.{IsByteList}
use Rattle.mpt_spec.proofs.ByteLemmas.{take_whole, two_bytes, four_bytes, eight_bytes, sum-cell}
use Rattle.mpt_spec.proofs.WrittenTableLemmas.{header_front, header_back, header-parts, length-header_end, length-header, sum-base_table}
use Rattle.mpt_spec.proofs.RevisionLemmas.{by_revision-old, by_revision-new, by_revision-both}
use Rattle.mpt_spec.proofs.CallerLemmas.{slice_index-part, number_at-part}

pub length-part : (image : List ℕ) (at n : ℕ) → at + n ≤ length image → length (part image at n) ≡ n
length-part image at n h = length-take n (drop at image) ∙ omega (arith, length-drop at image)

pub IsByteList-part : (image : List ℕ) (at n : ℕ) → IsByteList image → IsByteList (part image at n)
IsByteList-part image at n b i = by_place (cases_lt i n)
  where
    by_place : (i < n) ⊎ (n ≤ i) → slice_index (part image at n) i < 256
    by_place (inl low) = subst (λ x. x < 256) (sym (slice_index-part image at n i low)) (b (at + i))
    by_place (inr high) =
        let past : length (part image at n) ≤ i = omega (arith, length-take n (drop at image)) in
        omega (arith, get_or_past (part image at n) i 0 past)

-- a number is that of its own bytes
pub number_at-own_part : (n : ℕ) (image : List ℕ) (at : ℕ) → number_at n image at ≡ number_at n (part image at n) 0
number_at-own_part n image at = sym (number_at-part n image at n 0 (omega arith) ∙ ap (λ k. number_at n image k) (add-zero at))

-- the bytes stand in the image from a place on
pub record IsSpelledAt (image : List ℕ) (at : ℕ) (bytes : List ℕ) : Type 0 where
  pub inside : at + length bytes ≤ length image
  pub there : part image at (length bytes) ≡ bytes

-- the byte that makes a sum zero is the checksum
pub unsealed : (s t c : ℕ) → t ≡ s + c → t % 256 ≡ 0 → c < 256 → c ≡ (256 - s % 256) % 256
unsealed s t c more whole low = omega arith

module _ (image : List ℕ) (b : IsByteList image) where
  pub spelled-part : (at n : ℕ) (xs : List ℕ) → xs ≡ part image at n → at + n ≤ length image → IsSpelledAt image at xs
  spelled-part at n xs e h =
      let size : length xs ≡ n = ap length e ∙ length-part image at n h in
      record { inside = omega arith; there = ap (λ m. part image at m) size ∙ sym e }

  pub spelled-append : (at next : ℕ) (xs ys : List ℕ) → next ≡ at + length xs → IsSpelledAt image at xs → IsSpelledAt image next ys → IsSpelledAt image at (xs ++ ys)
  spelled-append at next xs ys p h g =
      let size : length (xs ++ ys) ≡ length xs + length ys = length-append xs ys in
      let inside_rest : next + length ys ≤ length image = g.inside in
      let there_rest : part image (at + length xs) (length ys) ≡ ys = rw p at g.there in
      record {
        inside = omega arith;
        there = ap (λ m. part image at m) size ∙ take-add (length xs) (length ys) (drop at image) ∙ ap (λ z. take (length xs) (drop at image) ++ take (length ys) z) (drop-drop (length xs) at image)
            ∙ ap (λ z. z ++ part image (at + length xs) (length ys)) h.there ∙ ap (λ z. xs ++ z) there_rest;
      }

  pub spelled-byte : (at x : ℕ) → x ≡ slice_index image at → at < length image → IsSpelledAt image at (x ∷ [])
  spelled-byte at x e h =
      let cell : drop at image ≡ slice_index image at ∷ drop (suc at) image = drop-cons image at 0 h in
      record { inside = omega arith; there = ap (λ z. take 1 z) cell ∙ ap (λ z. z ∷ []) (sym e) }

  pub spelled-cons : (at next x : ℕ) (xs : List ℕ) → next ≡ at + 1 → x ≡ slice_index image at → IsSpelledAt image next xs → IsSpelledAt image at (x ∷ xs)
  spelled-cons at next x xs p e g =
      let inside_rest : next + length xs ≤ length image = g.inside in
      spelled-append at next (x ∷ []) xs p (spelled-byte at x e (omega arith)) g

  pub spelled-2 : (at n : ℕ) → n ≡ number_at 2 image at → at + 2 ≤ length image → IsSpelledAt image at (to_le_bytes w16 n)
  spelled-2 at n e h =
      let value : n ≡ from_le_bytes w16 (part image at 2) = e ∙ number_at-own_part 2 image at ∙ two_bytes _ _ in
      spelled-part at 2 (to_le_bytes w16 n) (le_bytes_2 (part image at 2) n (length-part image at 2 h) (IsByteList-part image at 2 b) value) h

  pub spelled-4 : (at n : ℕ) → n ≡ number_at 4 image at → at + 4 ≤ length image → IsSpelledAt image at (to_le_bytes w32 n)
  spelled-4 at n e h =
      let value : n ≡ from_le_bytes w32 (part image at 4) = e ∙ number_at-own_part 4 image at ∙ four_bytes _ _ _ _ in
      spelled-part at 4 (to_le_bytes w32 n) (le_bytes_4 (part image at 4) n (length-part image at 4 h) (IsByteList-part image at 4 b) value) h

  pub spelled-8 : (at n : ℕ) → n ≡ number_at 8 image at → at + 8 ≤ length image → IsSpelledAt image at (to_le_bytes w64 n)
  spelled-8 at n e h =
      let value : n ≡ from_le_bytes w64 (part image at 8) = e ∙ number_at-own_part 8 image at ∙ eight_bytes _ _ _ _ _ _ _ _ in
      spelled-part at 8 (to_le_bytes w64 n) (le_bytes_8 (part image at 8) n (length-part image at 8 h) (IsByteList-part image at 8 b) value) h

  interrupt_spelled : (n : ℕ) (e : IntEntry) (at : ℕ) → at + 8 ≤ length image → IsInterruptAt n e image at → IsSpelledAt image at (interrupt_bytes n e)
  interrupt_spelled n e at i h =
      let tail : IsSpelledAt image (at + 4) (e.bus ∷ e.irq ∷ e.dest ∷ e.pin ∷ []) =
      spelled-cons (at + 4) (at + 5) e.bus (e.irq ∷ e.dest ∷ e.pin ∷ []) (omega arith) h.bus (spelled-cons (at + 5) (at + 6) e.irq (e.dest ∷ e.pin ∷ []) (omega arith) h.irq
      (spelled-cons (at + 6) (at + 7) e.dest (e.pin ∷ []) (omega arith) h.dest (spelled-byte (at + 7) e.pin h.pin (omega arith)))) in
      spelled-cons at (at + 1) n (e.kind ∷ to_le_bytes w16 e.flags ++ (e.bus ∷ e.irq ∷ e.dest ∷ e.pin ∷ [])) refl (sym h.type_byte)
      (spelled-cons (at + 1) (at + 2) e.kind (to_le_bytes w16 e.flags ++ (e.bus ∷ e.irq ∷ e.dest ∷ e.pin ∷ [])) (omega arith) h.kind
      (spelled-append (at + 2) (at + 4) (to_le_bytes w16 e.flags) (e.bus ∷ e.irq ∷ e.dest ∷ e.pin ∷ []) (omega arith) (spelled-2 (at + 2) e.flags h.flags (omega arith)) tail))

  base_entry_spelled : (e : Base) (at : ℕ) → at + base_length e ≤ length image → IsBaseEntryAt e image at → IsSpelledAt image at (base_bytes e)
  base_entry_spelled (base.Processor e) at i h =
      let fields : IsSpelledAt image (at + 4) (to_le_bytes w32 e.signature ++ (to_le_bytes w32 e.features ++ e.reserved)) =
      spelled-append (at + 4) (at + 8) (to_le_bytes w32 e.signature) (to_le_bytes w32 e.features ++ e.reserved) (omega arith) (spelled-4 (at + 4) e.signature h.signature (omega arith))
      (spelled-append (at + 8) (at + 12) (to_le_bytes w32 e.features) e.reserved (omega arith) (spelled-4 (at + 8) e.features h.features (omega arith)) (spelled-part (at + 12) 8 e.reserved h.reserved (omega arith))) in
      let rest : List ℕ = to_le_bytes w32 e.signature ++ (to_le_bytes w32 e.features ++ e.reserved) in
      spelled-cons at (at + 1) 0 (e.apic ∷ e.version ∷ e.flags ∷ rest) refl (sym h.type_byte) (spelled-cons (at + 1) (at + 2) e.apic (e.version ∷ e.flags ∷ rest) (omega arith) h.apic
      (spelled-cons (at + 2) (at + 3) e.version (e.flags ∷ rest) (omega arith) h.version (spelled-cons (at + 3) (at + 4) e.flags rest (omega arith) h.flags fields)))
  base_entry_spelled (base.Bus e) at i h =
      spelled-cons at (at + 1) 1 (e.id ∷ e.name) refl (sym h.type_byte) (spelled-cons (at + 1) (at + 2) e.id e.name (omega arith) h.id (spelled-part (at + 2) 6 e.name h.name (omega arith)))
  base_entry_spelled (base.IoApic e) at i h =
      spelled-cons at (at + 1) 2 (e.id ∷ e.version ∷ e.flags ∷ to_le_bytes w32 e.address) refl (sym h.type_byte)
      (spelled-cons (at + 1) (at + 2) e.id (e.version ∷ e.flags ∷ to_le_bytes w32 e.address) (omega arith) h.id
      (spelled-cons (at + 2) (at + 3) e.version (e.flags ∷ to_le_bytes w32 e.address) (omega arith) h.version
      (spelled-cons (at + 3) (at + 4) e.flags (to_le_bytes w32 e.address) (omega arith) h.flags (spelled-4 (at + 4) e.address h.address (omega arith)))))
  base_entry_spelled (base.IoInt e) at i h = interrupt_spelled 3 e at i h
  base_entry_spelled (base.LocalInt e) at i h = interrupt_spelled 4 e at i h

  ext_entry_spelled : (e : Ext) (at : ℕ) → at + ext_length e ≤ length image → IsExtEntryAt e image at → IsSpelledAt image at (ext_bytes e)
  ext_entry_spelled (ext.Space e) at i h =
      let rest : List ℕ = to_le_bytes w64 e.base ++ to_le_bytes w64 e.length in
      let fields : IsSpelledAt image (at + 4) rest =
      spelled-append (at + 4) (at + 12) (to_le_bytes w64 e.base) (to_le_bytes w64 e.length) (omega arith) (spelled-8 (at + 4) e.base h.base (omega arith)) (spelled-8 (at + 12) e.length h.range (omega arith)) in
      spelled-cons at (at + 1) 128 (20 ∷ e.bus ∷ e.kind ∷ rest) refl (sym h.type_byte) (spelled-cons (at + 1) (at + 2) 20 (e.bus ∷ e.kind ∷ rest) (omega arith) (sym h.length_byte)
      (spelled-cons (at + 2) (at + 3) e.bus (e.kind ∷ rest) (omega arith) h.bus (spelled-cons (at + 3) (at + 4) e.kind rest (omega arith) h.kind fields)))
  ext_entry_spelled (ext.Hierarchy e) at i h =
      spelled-cons at (at + 1) 129 (8 ∷ e.bus ∷ e.info ∷ e.parent ∷ e.reserved) refl (sym h.type_byte)
      (spelled-cons (at + 1) (at + 2) 8 (e.bus ∷ e.info ∷ e.parent ∷ e.reserved) (omega arith) (sym h.length_byte)
      (spelled-cons (at + 2) (at + 3) e.bus (e.info ∷ e.parent ∷ e.reserved) (omega arith) h.bus
      (spelled-cons (at + 3) (at + 4) e.info (e.parent ∷ e.reserved) (omega arith) h.info
      (spelled-cons (at + 4) (at + 5) e.parent e.reserved (omega arith) h.parent (spelled-part (at + 5) 3 e.reserved h.reserved (omega arith))))))
  ext_entry_spelled (ext.Modifier e) at i h =
      spelled-cons at (at + 1) 130 (8 ∷ e.bus ∷ e.flags ∷ to_le_bytes w32 e.ranges) refl (sym h.type_byte)
      (spelled-cons (at + 1) (at + 2) 8 (e.bus ∷ e.flags ∷ to_le_bytes w32 e.ranges) (omega arith) (sym h.length_byte)
      (spelled-cons (at + 2) (at + 3) e.bus (e.flags ∷ to_le_bytes w32 e.ranges) (omega arith) h.bus
      (spelled-cons (at + 3) (at + 4) e.flags (to_le_bytes w32 e.ranges) (omega arith) h.flags (spelled-4 (at + 4) e.ranges h.ranges (omega arith)))))
  ext_entry_spelled (ext.Opaque e) at i h =
      spelled-cons at (at + 1) e.kind ((2 + length e.rest) ∷ e.rest) refl h.type_byte
      (spelled-cons (at + 1) (at + 2) (2 + length e.rest) e.rest (omega arith) (sym h.length_byte) (spelled-part (at + 2) (length e.rest) e.rest h.rest (omega arith)))

  -- how long the bytes of an entry are that stands in the image
  base_entry_long : (e : Base) (at : ℕ) → at + base_length e ≤ length image → IsBaseEntryAt e image at → length (base_bytes e) ≡ base_length e
  base_entry_long (base.Processor e) at i h = omega (arith, ap length h.reserved, length-part image (at + 12) 8 (omega arith))
  base_entry_long (base.Bus e) at i h = omega (arith, ap length h.name, length-part image (at + 2) 6 (omega arith))
  base_entry_long (base.IoApic e) at i h = refl
  base_entry_long (base.IoInt e) at i h = refl
  base_entry_long (base.LocalInt e) at i h = refl

  ext_entry_long : (e : Ext) (at : ℕ) → at + ext_length e ≤ length image → IsExtEntryAt e image at → length (ext_bytes e) ≡ ext_length e
  ext_entry_long (ext.Space e) at i h = refl
  ext_entry_long (ext.Hierarchy e) at i h = omega (arith, ap length h.reserved, length-part image (at + 5) 3 (omega arith))
  ext_entry_long (ext.Modifier e) at i h = refl
  ext_entry_long (ext.Opaque e) at i h = omega arith

  -- entries end to end
  base_entries_spelled : (es : List Base) (from to : ℕ) → to ≤ length image → AreBaseEntries es image from to → IsSpelledAt image from (flat_map base_bytes es) × (from + length (flat_map base_bytes es) ≡ to)
  base_entries_spelled [] from to i h = (record { inside = omega (arith, h); there = refl }, omega (arith, h))
  base_entries_spelled (e ∷ es) from to i h =
      let rest = base_entries_spelled es (from + base_length e) to i h.1 in
      let room : from + base_length e ≤ length image = omega (arith, rest.1) in
      let long : length (base_bytes e) ≡ base_length e = base_entry_long e from room h.0 in (
        spelled-append from (from + base_length e) (base_bytes e) (flat_map base_bytes es) (omega arith) (base_entry_spelled e from room h.0) rest.0,
        omega (arith, rest.1, length-append (base_bytes e) (flat_map base_bytes es)),
      )

  ext_entries_spelled : (es : List Ext) (from to : ℕ) → to ≤ length image → AreExtEntries es image from to → IsSpelledAt image from (flat_map ext_bytes es) × (from + length (flat_map ext_bytes es) ≡ to)
  ext_entries_spelled [] from to i h = (record { inside = omega (arith, h); there = refl }, omega (arith, h))
  ext_entries_spelled (e ∷ es) from to i h =
      let rest = ext_entries_spelled es (from + ext_length e) to i h.1 in
      let room : from + ext_length e ≤ length image = omega (arith, rest.1) in
      let long : length (ext_bytes e) ≡ ext_length e = ext_entry_long e from room h.0 in (
        spelled-append from (from + ext_length e) (ext_bytes e) (flat_map ext_bytes es) (omega arith) (ext_entry_spelled e from room h.0) rest.0,
        omega (arith, rest.1, length-append (ext_bytes e) (flat_map ext_bytes es)),
      )

  -- bytes 40 to 43 of the header
  length-old_at : (at : ℕ) → at + 44 ≤ length image → length (old_at image at) ≡ 4
  length-old_at at h = by_revision-both (λ (xs : List ℕ). length xs ≡ 4) (revision_at image at) (part image (at + 40) 4) (replicate 4 0) (length-part image (at + 40) 4 (omega arith)) refl

  header_end_spelled : (t : Table) (at : ℕ) (ext_part : List ℕ) → IsConfigurationTable t image at → part image (base_end image at) (ext_length_at image at) ≡ ext_part → length ext_part ≡ ext_length_at image at
      → IsSpelledAt image (at + 40) (header_end t (length ext_part) (checksum_of ext_part))
  header_end_spelled t at ext_part c ext_same ext_fill = by_case c.revision
    where
      header : at + 44 ≤ length image
      header = omega (arith, c.inside.base.header, c.inside.base.inside)

      by_case : IsKnownRevision t.revision → IsSpelledAt image (at + 40) (header_end t (length ext_part) (checksum_of ext_part))
      by_case (inl one) =
          let there : revision_at image at ≡ 1 = sym c.header.revision ∙ one in
          let kept : t.old ≡ part image (at + 40) 4 = c.header.old ∙ by_revision-old (revision_at image at) (part image (at + 40) 4) (replicate 4 0) there in
          subst (λ (xs : List ℕ). IsSpelledAt image (at + 40) xs) (sym (by_revision-old t.revision t.old (to_le_bytes w16 (length ext_part) ++ checksum_of ext_part ∷ t.reserved ∷ []) one)) (spelled-part (at + 40) 4 t.old kept (omega (arith, header)))
      by_case (inr four) =
          let new : revision_at image at ≢ 1 = λ e. omega (arith, c.header.revision, four, e) in
          let long : length ext_part ≡ number_at 2 image (at + 40) = ext_fill ∙ by_revision-new (revision_at image at) 0 (number_at 2 image (at + 40)) new in
          let reserved : t.reserved ≡ slice_index image (at + 43) = c.header.reserved ∙ by_revision-new (revision_at image at) 0 (slice_index image (at + 43)) new in
          let ext_sum : SumsToZero (slice_index image (at + 42) ∷ ext_part) = subst (λ (xs : List ℕ). SumsToZero (slice_index image (at + 42) ∷ xs)) ext_same (c.ext_checksum new) in
          let ext_byte : checksum_of ext_part ≡ slice_index image (at + 42) =
          sym (unsealed (sum ext_part) (sum (slice_index image (at + 42) ∷ ext_part)) (slice_index image (at + 42)) (omega (arith, sum_by-cons (λ (x : ℕ). x) (slice_index image (at + 42)) ext_part)) ext_sum (b (at + 42))) in
          subst (λ (xs : List ℕ). IsSpelledAt image (at + 40) xs) (sym (by_revision-new t.revision t.old (to_le_bytes w16 (length ext_part) ++ checksum_of ext_part ∷ t.reserved ∷ []) (λ e. omega (arith, four, e))))
          (spelled-append (at + 40) (at + 42) (to_le_bytes w16 (length ext_part)) (checksum_of ext_part ∷ t.reserved ∷ []) (omega arith) (spelled-2 (at + 40) (length ext_part) long (omega (arith, header)))
          (spelled-cons (at + 42) (at + 43) (checksum_of ext_part) (t.reserved ∷ []) (omega arith) ext_byte (spelled-byte (at + 43) t.reserved reserved (omega (arith, header)))))

  -- the base table with the checksum that stands in the image
  base_table_spelled : (t : Table) (at : ℕ) → IsConfigurationTable t image at → IsSpelledAt image at (base_table_bytes t (slice_index image (at + 7)) (flat_map ext_bytes t.ext))
  base_table_spelled t at c =
      let entries : List ℕ = flat_map base_bytes t.base in
      let ext_part : List ℕ = flat_map ext_bytes t.ext in
      let base_len : ℕ = 44 + length entries in
      let checksum : ℕ = slice_index image (at + 7) in
      let ext_checksum : ℕ = checksum_of ext_part in
      let end : List ℕ = header_end t (length ext_part) ext_checksum in
      let base_inside : at + base_length_at image at ≤ length image = c.inside.base.inside in
      let bases = base_entries_spelled t.base (at + 44) (base_end image at) c.inside.base.inside c.base in
      let exts = ext_entries_spelled t.ext (base_end image at) (ext_end image at) c.inside.inside c.ext in
      let entries_fill : at + 44 + length entries ≡ at + base_length_at image at = bases.1 in
      let ext_fill : base_end image at + length ext_part ≡ base_end image at + ext_length_at image at = exts.1 in
      let ext_same : part image (base_end image at) (ext_length_at image at) ≡ ext_part =
      ap (λ n. part image (base_end image at) n) (omega arith) ∙ exts.0.there in
      let last : IsSpelledAt image (at + 40) end = header_end_spelled t at ext_part c ext_same (omega (arith, ext_fill)) in
      let end_long : length end ≡ 4 = length-header_end t (length ext_part) ext_checksum (ap length c.header.old ∙ length-old_at at (omega arith)) in
      let front : IsSpelledAt image at (header_front base_len t.revision checksum) =
      spelled-append at (at + 4) (codes "PCMP") (to_le_bytes w16 base_len ++ (t.revision ∷ checksum ∷ [])) refl (spelled-part at 4 (codes "PCMP") (sym c.header.signature) (omega arith))
      (spelled-append (at + 4) (at + 6) (to_le_bytes w16 base_len) (t.revision ∷ checksum ∷ []) (omega arith) (spelled-2 (at + 4) base_len (omega arith) (omega arith))
      (spelled-cons (at + 6) (at + 7) t.revision (checksum ∷ []) (omega arith) c.header.revision (spelled-byte (at + 7) checksum refl (omega arith)))) in
      let back : IsSpelledAt image (at + 28) (header_back t) =
      spelled-append (at + 28) (at + 32) (to_le_bytes w32 t.oem_table) (to_le_bytes w16 t.oem_size ++ (to_le_bytes w16 (length t.base) ++ to_le_bytes w32 t.local_address)) (omega arith)
      (spelled-4 (at + 28) t.oem_table c.header.oem_table (omega arith))
      (spelled-append (at + 32) (at + 34) (to_le_bytes w16 t.oem_size) (to_le_bytes w16 (length t.base) ++ to_le_bytes w32 t.local_address) (omega arith)
      (spelled-2 (at + 32) t.oem_size c.header.oem_size (omega arith))
      (spelled-append (at + 34) (at + 36) (to_le_bytes w16 (length t.base)) (to_le_bytes w32 t.local_address) (omega arith)
      (spelled-2 (at + 34) (length t.base) c.count (omega arith)) (spelled-4 (at + 36) t.local_address c.header.local_address (omega arith)))) in
      let oem_long : length t.oem ≡ 8 = ap length c.header.oem ∙ length-part image (at + 8) 8 (omega arith) in
      let product_long : length t.product ≡ 12 = ap length c.header.product ∙ length-part image (at + 16) 12 (omega arith) in
      let all : IsSpelledAt image at (header_front base_len t.revision checksum ++ (t.oem ++ (t.product ++ (header_back t ++ (end ++ entries))))) =
      spelled-append at (at + 8) (header_front base_len t.revision checksum) (t.oem ++ (t.product ++ (header_back t ++ (end ++ entries)))) refl front
      (spelled-append (at + 8) (at + 16) t.oem (t.product ++ (header_back t ++ (end ++ entries))) (omega arith) (spelled-part (at + 8) 8 t.oem c.header.oem (omega arith))
      (spelled-append (at + 16) (at + 28) t.product (header_back t ++ (end ++ entries)) (omega arith) (spelled-part (at + 16) 12 t.product c.header.product (omega arith))
      (spelled-append (at + 28) (at + 40) (header_back t) (end ++ entries) (omega arith) back (spelled-append (at + 40) (at + 44) end entries (omega (arith, end_long)) last bases.0)))) in
      subst (λ xs. IsSpelledAt image at xs) (sym (header-parts t base_len (length ext_part) checksum ext_checksum entries)) all

  table_spelled : (t : Table) (at : ℕ) → IsConfigurationTable t image at → IsSpelledAt image at (table_bytes t)
  table_spelled t at c =
      let entries : List ℕ = flat_map base_bytes t.base in
      let ext_part : List ℕ = flat_map ext_bytes t.ext in
      let there : ℕ = slice_index image (at + 7) in
      let written : ℕ = checksum_of (base_table_bytes t 0 ext_part) in
      let table : IsSpelledAt image at (base_table_bytes t there ext_part) = base_table_spelled t at c in
      let exts = ext_entries_spelled t.ext (base_end image at) (ext_end image at) c.inside.inside c.ext in
      let bases = base_entries_spelled t.base (at + 44) (base_end image at) c.inside.base.inside c.base in
      let entries_fill : at + 44 + length entries ≡ at + base_length_at image at = bases.1 in
      let base_inside : at + base_length_at image at ≤ length image = c.inside.base.inside in
      let oem_long : length t.oem ≡ 8 = ap length c.header.oem ∙ length-part image (at + 8) 8 (omega arith) in
      let product_long : length t.product ≡ 12 = ap length c.header.product ∙ length-part image (at + 16) 12 (omega arith) in
      let header : List ℕ = header_bytes t (44 + length entries) (length ext_part) there (checksum_of ext_part) in
      let header_long : length header ≡ 44 = length-header t (44 + length entries) (length ext_part) there (checksum_of ext_part) oem_long product_long (ap length c.header.old ∙ length-old_at at (omega (arith, c.inside.base.header, base_inside))) in
      let long : length (base_table_bytes t there ext_part) ≡ base_length_at image at = length-append header entries ∙ omega arith in
      let same : part image at (base_length_at image at) ≡ base_table_bytes t there ext_part = ap (λ n. part image at n) (sym long) ∙ table.there in
      let whole : SumsToZero (base_table_bytes t there ext_part) = rw same at c.checksum in
      let checksum : there ≡ written = unsealed (sum (base_table_bytes t 0 ext_part)) (sum (base_table_bytes t there ext_part)) there (sum-base_table t there ext_part) whole (b (at + 7)) in
      subst (λ x. IsSpelledAt image at (base_table_bytes t x ext_part ++ ext_part)) checksum
      (spelled-append at (base_end image at) (base_table_bytes t there ext_part) ext_part (ap (λ n. at + n) (sym long)) table exts.0)

-- an entry that stands in an image of bytes has there the bytes that are written for it
pub IsBaseEntryAt-spelled : (e : Base) (image : List ℕ) (at : ℕ) → IsByteList image → at + base_length e ≤ length image → IsBaseEntryAt e image at → part image at (length (base_bytes e)) ≡ base_bytes e
IsBaseEntryAt-spelled e image at b i h = (base_entry_spelled image b e at i h).there

pub IsExtEntryAt-spelled : (e : Ext) (image : List ℕ) (at : ℕ) → IsByteList image → at + ext_length e ≤ length image → IsExtEntryAt e image at → part image at (length (ext_bytes e)) ≡ ext_bytes e
IsExtEntryAt-spelled e image at b i h = (ext_entry_spelled image b e at i h).there

-- a table that stands in an image of bytes has there the bytes that are written for it
pub IsConfigurationTable-spelled : (t : Table) (image : List ℕ) (at : ℕ) → IsByteList image → IsConfigurationTable t image at → part image at (length (table_bytes t)) ≡ table_bytes t
IsConfigurationTable-spelled t image at b c = (table_spelled image b t at c).there

-- a floating pointer with the checksum that stands in its bytes
pointer_spelled : (p : Pointer) (bytes : List ℕ) → IsByteList bytes → IsFloatingPointer p bytes → bytes ≡ pointer_with p (slice_index bytes 10)
pointer_spelled p bytes b h =
    let size : length bytes ≡ 16 = h.size in
    let checksum : ℕ = slice_index bytes 10 in
    let features_long : length p.features ≡ 5 = ap length h.features ∙ length-part bytes 11 5 (omega arith) in
    let all : IsSpelledAt bytes 0 (codes "_MP_" ++ (to_le_bytes w32 p.address ++ (1 ∷ p.revision ∷ checksum ∷ p.features))) =
    spelled-append bytes b 0 4 (codes "_MP_") (to_le_bytes w32 p.address ++ (1 ∷ p.revision ∷ checksum ∷ p.features)) refl (spelled-part bytes b 0 4 (codes "_MP_") (sym h.signature) (omega arith))
    (spelled-append bytes b 4 8 (to_le_bytes w32 p.address) (1 ∷ p.revision ∷ checksum ∷ p.features) refl (spelled-4 bytes b 4 p.address h.address (omega arith))
    (spelled-cons bytes b 8 9 1 (p.revision ∷ checksum ∷ p.features) refl (sym h.paragraphs) (spelled-cons bytes b 9 10 p.revision (checksum ∷ p.features) refl h.revision
    (spelled-cons bytes b 10 11 checksum p.features refl refl (spelled-part bytes b 11 5 p.features h.features (omega arith)))))) in
    let long : length (pointer_with p checksum) ≡ 16 = omega arith in
    sym (take_whole 16 bytes size) ∙ ap (λ n. part bytes 0 n) (sym long) ∙ all.there

-- the bytes of a floating pointer are those that are written for it
pub IsFloatingPointer-spelled : (p : Pointer) (bytes : List ℕ) → IsByteList bytes → IsFloatingPointer p bytes → bytes ≡ pointer_bytes p
IsFloatingPointer-spelled p bytes b h =
    let same : bytes ≡ pointer_with p (slice_index bytes 10) = pointer_spelled p bytes b h in
    let whole : SumsToZero (pointer_with p (slice_index bytes 10)) = subst (λ x. SumsToZero x) same h.checksum in
    let more : sum (pointer_with p (slice_index bytes 10)) ≡ sum (pointer_with p 0) + slice_index bytes 10 = sum-cell (codes "_MP_" ++ to_le_bytes w32 p.address ++ 1 ∷ p.revision ∷ []) p.features (slice_index bytes 10) in
    let checksum : slice_index bytes 10 ≡ checksum_of (pointer_with p 0) = unsealed (sum (pointer_with p 0)) (sum (pointer_with p (slice_index bytes 10))) (slice_index bytes 10) more whole (b 10) in
    same ∙ ap (λ x. pointer_with p x) checksum
