-- The bytes that are written for a table are that table, wherever they stand.
use Rattle.std.proofs.Common.{◌≡◌, ◌≢◌, ℕ, ◌+◌, ◌^◌, ◌<◌, ◌≤◌, List, [], ◌∷◌, ◌++◌, length, replicate, sum, inl, inr, sym, refl, ap, ◌∙◌, subst, arith, append_assoc}
use Rattle.std.specs.Prelude.{slice_index, codes, sum_by}
use Rattle.std.specs.Int.{to_le_bytes, w16, w32}
use Rattle.std.specs.List.{AllByRecursion, flat_map}
use Rattle.std.proofs.lemmas.List.{length-append}
use Rattle.std.proofs.lemmas.List.Sums.{sum_by-cons}
use Rattle.mpt_base.specs.Bytes.{part, number_at, SumsToZero}
use Rattle.mpt_spec.specs.declared.entry.Base.{Base}
use Rattle.mpt_spec.specs.declared.entry.Base.TheVariants as base
use Rattle.mpt_spec.specs.declared.entry.Ext.{Ext}
use Rattle.mpt_spec.specs.declared.entry.Ext.TheVariants as ext
use Rattle.mpt_spec.specs.declared.tables.Table.{Table}
use Rattle.mpt_spec.specs.Entries.{AreBaseEntries, IsBaseEntryAt, base_length}
use Rattle.mpt_spec.specs.Extended.{AreExtEntries, IsExtEntryAt, ext_length}
use Rattle.mpt_spec.specs.Revision.{IsKnownRevision}
use Rattle.mpt_spec.specs.Table.{IsHeaderAt, IsConfigurationTable, base_length_at, ext_length_at, count_at, revision_at, reserved_at, old_at, base_end, ext_end}
use Rattle.mpt_spec.specs.Canonical.{IsLawfulExt, HasFieldsOfRevision, IsWellFormedTable, base_size, ext_size}
use Rattle.mpt_base.specs.Writing.{checksum_of}
use Rattle.mpt_spec.specs.Image.{base_bytes, ext_bytes, header_end, header_bytes, base_table_bytes, table_bytes}
use Rattle.mpt_spec.specs.Values.{IsBaseValue, IsExtValue, IsTableValue}
use Rattle.mpt_spec.proofs.ByteLemmas.{slice_index-behind, number_at-behind, part-behind, take-append_whole, number_at-to_le_bytes_2, number_at-to_le_bytes_4, sum-cell, sealed}
use Rattle.mpt_spec.proofs.RevisionLemmas.{by_revision-old, by_revision-new, by_revision-both}
use Rattle.mpt_spec.proofs.WrittenLemmas.{IsBaseEntryAt-written, IsExtEntryAt-written}

-- entries of any kind: what is spelled one after another stands end to end
module _ {E : Type 0} (At : E → List ℕ → ℕ → Type 0) (size : E → ℕ) (bytes : E → List ℕ) (Value : E → Type 0) (Are : List E → List ℕ → ℕ → ℕ → Type 0)
    (none : (image : List ℕ) (from to : ℕ) → from ≡ to → Are [] image from to)
    (more : (e : E) (es : List E) (image : List ℕ) (from to : ℕ) → At e image from → Are es image (from + size e) to → Are (e ∷ es) image from to)
    (one : (e : E) (before after : List ℕ) → Value e → At e (before ++ (bytes e ++ after)) (length before))
    (long : (e : E) → Value e → length (bytes e) ≡ size e) where
  moved : (es : List E) (a b : List ℕ) (f g x y : ℕ) → a ≡ b → f ≡ g → x ≡ y → Are es a f x → Are es b g y
  moved es a b f g x y p q r h = subst (λ z. Are es b g z) r (subst (λ z. Are es b z x) q (subst (λ z. Are es z f x) p h))

  end_to_end : (es : List E) (before after : List ℕ) → AllByRecursion Value es → Are es (before ++ (flat_map bytes es ++ after)) (length before) (length before + length (flat_map bytes es))
  end_to_end [] before after v = none (before ++ after) (length before) (length before + 0) (omega arith)
  end_to_end (e ∷ es) before after v =
      let rest : List ℕ = flat_map bytes es in
      let joined : bytes e ++ (rest ++ after) ≡ bytes e ++ rest ++ after = sym (append_assoc (bytes e) rest after) in
      let head : At e (before ++ (bytes e ++ rest ++ after)) (length before) = subst (λ x. At e (before ++ x) (length before)) joined (one e before (rest ++ after) v.0) in
      let whole : before ++ bytes e ++ (rest ++ after) ≡ before ++ (bytes e ++ rest ++ after) = append_assoc before (bytes e) (rest ++ after) ∙ ap (λ x. before ++ x) joined in
      let place : length (before ++ bytes e) ≡ length before + size e = length-append before (bytes e) ∙ ap (λ x. length before + x) (long e v.0) in
      let end : length (before ++ bytes e) + length rest ≡ length before + length (bytes e ++ rest) = omega (arith, length-append before (bytes e), length-append (bytes e) rest) in
      let tail : Are es (before ++ bytes e ++ (rest ++ after)) (length (before ++ bytes e)) (length (before ++ bytes e) + length rest) = end_to_end es (before ++ bytes e) after v.1 in
      more e es (before ++ (bytes e ++ rest ++ after)) (length before) (length before + length (bytes e ++ rest)) head
      (moved es (before ++ bytes e ++ (rest ++ after)) (before ++ (bytes e ++ rest ++ after)) (length (before ++ bytes e)) (length before + size e) (length (before ++ bytes e) + length rest) (length before + length (bytes e ++ rest)) whole place end tail)

  total : (es : List E) → AllByRecursion Value es → length (flat_map bytes es) ≡ sum_by size es
  total [] v = refl
  total (e ∷ es) v =
      let rest : length (flat_map bytes es) ≡ sum_by size es = total es v.1 in
      length-append (bytes e) (flat_map bytes es) ∙ (omega (arith, long e v.0)) ∙ sym (sum_by-cons size e es)

pub length-base_bytes : (e : Base) → IsBaseValue e → length (base_bytes e) ≡ base_length e
length-base_bytes (base.Processor e) v = omega (arith, v.reserved.0)
length-base_bytes (base.Bus e) v = omega (arith, v.name.0)
length-base_bytes (base.IoApic e) v = refl
length-base_bytes (base.IoInt e) v = refl
length-base_bytes (base.LocalInt e) v = refl

pub length-ext_bytes : (e : Ext) → IsExtValue e → length (ext_bytes e) ≡ ext_length e
length-ext_bytes (ext.Space e) v = refl
length-ext_bytes (ext.Hierarchy e) v = omega (arith, v.reserved.0)
length-ext_bytes (ext.Modifier e) v = refl
length-ext_bytes (ext.Opaque e) v = omega arith

pub AreBaseEntries-written : (es : List Base) (before after : List ℕ) → AllByRecursion IsBaseValue es → AreBaseEntries es (before ++ (flat_map base_bytes es ++ after)) (length before) (length before + length (flat_map base_bytes es))
AreBaseEntries-written es before after v =
    end_to_end IsBaseEntryAt base_length base_bytes IsBaseValue AreBaseEntries (λ image from to e. e) (λ e es image from to h g. (h, g)) (λ e before after v. IsBaseEntryAt-written e before after (length before) v refl) length-base_bytes es before after v

pub length-base_part : (es : List Base) → AllByRecursion IsBaseValue es → length (flat_map base_bytes es) ≡ sum_by base_length es
length-base_part es v =
    total IsBaseEntryAt base_length base_bytes IsBaseValue AreBaseEntries (λ image from to e. e) (λ e es image from to h g. (h, g)) (λ e before after v. IsBaseEntryAt-written e before after (length before) v refl) length-base_bytes es v

-- an extended entry whose fields fit and whose type and length are lawful
abbrev IsLawfulValue : Ext → Type 0
IsLawfulValue e = IsExtValue e × IsLawfulExt e

both : (es : List Ext) → AllByRecursion IsExtValue es → AllByRecursion IsLawfulExt es → AllByRecursion IsLawfulValue es
both [] v l = tt
both (e ∷ es) v l = ((v.0, l.0), both es v.1 l.1)

pub AreExtEntries-written : (es : List Ext) (before after : List ℕ) → AllByRecursion IsExtValue es → AllByRecursion IsLawfulExt es → AreExtEntries es (before ++ (flat_map ext_bytes es ++ after)) (length before) (length before + length (flat_map ext_bytes es))
AreExtEntries-written es before after v l =
    end_to_end IsExtEntryAt ext_length ext_bytes IsLawfulValue AreExtEntries (λ image from to e. e) (λ e es image from to h g. (h, g)) (λ e before after v. IsExtEntryAt-written e before after (length before) v.0 v.1 refl) (λ e v. length-ext_bytes e v.0) es before after (both es v l)

pub length-ext_part : (es : List Ext) → AllByRecursion IsExtValue es → AllByRecursion IsLawfulExt es → length (flat_map ext_bytes es) ≡ sum_by ext_length es
length-ext_part es v l =
    total IsExtEntryAt ext_length ext_bytes IsLawfulValue AreExtEntries (λ image from to e. e) (λ e es image from to h g. (h, g)) (λ e before after v. IsExtEntryAt-written e before after (length before) v.0 v.1 refl) (λ e v. length-ext_bytes e v.0) es (both es v l)

-- the header before the OEM id, behind the product id and before its end
abbrev pub header_front : ℕ → ℕ → ℕ → List ℕ
header_front base_len revision checksum = codes "PCMP" ++ to_le_bytes w16 base_len ++ revision ∷ checksum ∷ []

abbrev pub header_back : Table → List ℕ
header_back t = to_le_bytes w32 t.oem_table ++ to_le_bytes w16 t.oem_size ++ to_le_bytes w16 (length t.base) ++ to_le_bytes w32 t.local_address

pub header-parts : (t : Table) (base_len ext_len checksum ext_checksum : ℕ) (rest : List ℕ) → header_bytes t base_len ext_len checksum ext_checksum ++ rest
    ≡ header_front base_len t.revision checksum ++ (t.oem ++ (t.product ++ (header_back t ++ (header_end t ext_len ext_checksum ++ rest))))
header-parts t base_len ext_len checksum ext_checksum rest = simp append_assoc

-- what a header has from its end, bytes 40 to 43, with its extended length and its extended checksum
record IsSpelledEndAt (t : Table) (ext_len ext_checksum : ℕ) (image : List ℕ) (at : ℕ) : Type 0 where
  reserved : t.reserved ≡ reserved_at image at
  old : t.old ≡ old_at image at
  ext_len_there : ext_length_at image at ≡ ext_len
  ext_checksum_there : revision_at image at ≢ 1 → slice_index image (at + 42) ≡ ext_checksum

end-written : (t : Table) (ext_len ext_checksum : ℕ) (front rest image : List ℕ) (at : ℕ) → length t.old ≡ 4 → HasFieldsOfRevision t → ext_len < 2 ^ 16 → (t.revision ≡ 1 → ext_len ≡ 0)
    → t.revision ≡ revision_at image at → image ≡ front ++ (header_end t ext_len ext_checksum ++ rest) → length front ≡ at + 40 → IsSpelledEndAt t ext_len ext_checksum image at
end-written t ext_len ext_checksum front rest image at old_size (inl fields) low none revision spelled here =
    let r : ℕ = revision_at image at in
    let new : r ≢ 1 = λ one. omega (arith, fields.0, revision, one) in
    let end : List ℕ = to_le_bytes w16 ext_len ++ ext_checksum ∷ t.reserved ∷ [] in
    let is : header_end t ext_len ext_checksum ≡ end = by_revision-new t.revision t.old end (λ one. omega (arith, fields.0, one)) in
    let all : image ≡ front ++ (end ++ rest) = spelled ∙ ap (λ (xs : List ℕ). front ++ (xs ++ rest)) is in
    record {
      reserved = sym (by_revision-new r 0 (slice_index image (at + 43)) new ∙ slice_index-behind image front (end ++ rest) (at + 43) 3 all (omega arith));
      old = fields.1 ∙ sym (by_revision-new r (part image (at + 40) 4) (replicate 4 0) new);
      ext_len_there = by_revision-new r 0 (number_at 2 image (at + 40)) new ∙ number_at-behind 2 image front (end ++ rest) (at + 40) 0 all (omega arith) ∙ number_at-to_le_bytes_2 ext_len low;
      ext_checksum_there = λ _. slice_index-behind image front (end ++ rest) (at + 42) 2 all (omega arith);
    }
end-written t ext_len ext_checksum front rest image at old_size (inr fields) low none revision spelled here =
    let r : ℕ = revision_at image at in
    let one : r ≡ 1 = sym revision ∙ fields.0 in
    let is : header_end t ext_len ext_checksum ≡ t.old = by_revision-old t.revision t.old (to_le_bytes w16 ext_len ++ ext_checksum ∷ t.reserved ∷ []) fields.0 in
    let all : image ≡ front ++ (t.old ++ rest) = spelled ∙ ap (λ (xs : List ℕ). front ++ (xs ++ rest)) is in
    record {
      reserved = fields.1 ∙ sym (by_revision-old r 0 (slice_index image (at + 43)) one);
      old = sym (by_revision-old r (part image (at + 40) 4) (replicate 4 0) one ∙ part-behind 4 image front (t.old ++ rest) (at + 40) 0 all (omega arith) ∙ take-append_whole 4 t.old rest old_size);
      ext_len_there = by_revision-old r 0 (number_at 2 image (at + 40)) one ∙ sym (none fields.0);
      ext_checksum_there = λ new. absurd (new one);
    }

-- the fields of a header that is spelled at a place, with its lengths, its count and its extended checksum
record IsSpelledHeaderAt (t : Table) (base_len ext_len ext_checksum : ℕ) (image : List ℕ) (at : ℕ) : Type 0 where
  header : IsHeaderAt t image at
  base_len_there : base_length_at image at ≡ base_len
  ext_len_there : ext_length_at image at ≡ ext_len
  count_there : count_at image at ≡ length t.base
  ext_checksum_there : revision_at image at ≢ 1 → slice_index image (at + 42) ≡ ext_checksum

header-written : (t : Table) (base_len ext_len checksum ext_checksum : ℕ) (before rest image : List ℕ) (at : ℕ) → IsTableValue t → HasFieldsOfRevision t → (t.revision ≡ 1 → ext_len ≡ 0) → base_len < 2 ^ 16 → ext_len < 2 ^ 16 → length t.base < 2 ^ 16
    → image ≡ before ++ (header_bytes t base_len ext_len checksum ext_checksum ++ rest) → at ≡ length before → IsSpelledHeaderAt t base_len ext_len ext_checksum image at
header-written t base_len ext_len checksum ext_checksum before rest image at v fields none base_low ext_low count_low spelled here =
    let front : List ℕ = header_front base_len t.revision checksum in
    let back : List ℕ = header_back t in
    let end : List ℕ = header_end t ext_len ext_checksum ++ rest in
    let all : image ≡ before ++ (front ++ (t.oem ++ (t.product ++ (back ++ end)))) = spelled ∙ ap (λ x. before ++ x) (header-parts t base_len ext_len checksum ext_checksum rest) in
    let from_oem : image ≡ before ++ front ++ (t.oem ++ (t.product ++ (back ++ end))) = all ∙ sym (append_assoc before front (t.oem ++ (t.product ++ (back ++ end)))) in
    let from_product : image ≡ before ++ front ++ t.oem ++ (t.product ++ (back ++ end)) = from_oem ∙ sym (append_assoc (before ++ front) t.oem (t.product ++ (back ++ end))) in
    let from_back : image ≡ before ++ front ++ t.oem ++ t.product ++ (back ++ end) = from_product ∙ sym (append_assoc (before ++ front ++ t.oem) t.product (back ++ end)) in
    let oem_at : length (before ++ front) ≡ at + 8 = length-append before front ∙ omega arith in
    let product_at : length (before ++ front ++ t.oem) ≡ at + 16 = length-append (before ++ front) t.oem ∙ omega (arith, v.oem.0) in
    let back_at : length (before ++ front ++ t.oem ++ t.product) ≡ at + 28 = length-append (before ++ front ++ t.oem) t.product ∙ omega (arith, v.product.0) in
    let from_end : image ≡ before ++ front ++ t.oem ++ t.product ++ back ++ end = from_back ∙ sym (append_assoc (before ++ front ++ t.oem ++ t.product) back end) in
    let end_at : length (before ++ front ++ t.oem ++ t.product ++ back) ≡ at + 40 = length-append (before ++ front ++ t.oem ++ t.product) back ∙ omega arith in
    let revision : t.revision ≡ revision_at image at = sym (slice_index-behind image before (front ++ (t.oem ++ (t.product ++ (back ++ end)))) (at + 6) 6 all (omega arith)) in
    let last : IsSpelledEndAt t ext_len ext_checksum image at = end-written t ext_len ext_checksum (before ++ front ++ t.oem ++ t.product ++ back) rest image at v.old.0 fields ext_low none revision from_end end_at in
    record {
      header = record {
        signature = part-behind 4 image before (front ++ (t.oem ++ (t.product ++ (back ++ end)))) at 0 all (omega arith);
        revision = revision;
        oem = sym (part-behind 8 image (before ++ front) (t.oem ++ (t.product ++ (back ++ end))) (at + 8) 0 from_oem (omega arith) ∙ take-append_whole 8 t.oem (t.product ++ (back ++ end)) v.oem.0);
        product = sym (part-behind 12 image (before ++ front ++ t.oem) (t.product ++ (back ++ end)) (at + 16) 0 from_product (omega arith) ∙ take-append_whole 12 t.product (back ++ end) v.product.0);
        oem_table = sym (number_at-behind 4 image (before ++ front ++ t.oem ++ t.product) (back ++ end) (at + 28) 0 from_back (omega arith) ∙ number_at-to_le_bytes_4 t.oem_table v.oem_table);
        oem_size = sym (number_at-behind 2 image (before ++ front ++ t.oem ++ t.product) (back ++ end) (at + 32) 4 from_back (omega arith) ∙ number_at-to_le_bytes_2 t.oem_size v.oem_size);
        local_address = sym (number_at-behind 4 image (before ++ front ++ t.oem ++ t.product) (back ++ end) (at + 36) 8 from_back (omega arith) ∙ number_at-to_le_bytes_4 t.local_address v.local_address);
        reserved = last.reserved;
        old = last.old;
      };
      base_len_there = number_at-behind 2 image before (front ++ (t.oem ++ (t.product ++ (back ++ end)))) (at + 4) 4 all (omega arith) ∙ number_at-to_le_bytes_2 base_len base_low;
      ext_len_there = last.ext_len_there;
      count_there = number_at-behind 2 image (before ++ front ++ t.oem ++ t.product) (back ++ end) (at + 34) 6 from_back (omega arith) ∙ number_at-to_le_bytes_2 (length t.base) count_low;
      ext_checksum_there = last.ext_checksum_there;
    }

pub length-header_end : (t : Table) (ext_len ext_checksum : ℕ) → length t.old ≡ 4 → length (header_end t ext_len ext_checksum) ≡ 4
length-header_end t ext_len ext_checksum old = by_revision-both (λ (xs : List ℕ). length xs ≡ 4) t.revision t.old (to_le_bytes w16 ext_len ++ ext_checksum ∷ t.reserved ∷ []) old refl

pub length-header : (t : Table) (base_len ext_len checksum ext_checksum : ℕ) → length t.oem ≡ 8 → length t.product ≡ 12 → length t.old ≡ 4 → length (header_bytes t base_len ext_len checksum ext_checksum) ≡ 44
length-header t base_len ext_len checksum ext_checksum oem product old =
    let header : List ℕ = header_bytes t base_len ext_len checksum ext_checksum in
    let end : List ℕ = header_end t ext_len ext_checksum in
    let end_long : length end ≡ 4 = length-header_end t ext_len ext_checksum old in
    let back : List ℕ = header_back t ++ (end ++ []) in
    let same : length (header ++ []) ≡ length (header_front base_len t.revision checksum ++ (t.oem ++ (t.product ++ back))) = ap length (header-parts t base_len ext_len checksum ext_checksum []) in
    omega (arith, same, end_long, length-append header [], length-append t.oem (t.product ++ back), length-append t.product back, length-append (header_back t) (end ++ []), length-append end [])

-- a table has the bytes of its base table and of its extended part
pub length-table_bytes : (t : Table) → IsTableValue t → IsWellFormedTable t → length (table_bytes t) ≡ base_size t + ext_size t
length-table_bytes t v w =
    let entries : List ℕ = flat_map base_bytes t.base in
    let ext_part : List ℕ = flat_map ext_bytes t.ext in
    let checksum : ℕ = checksum_of (base_table_bytes t 0 ext_part) in
    let header : List ℕ = header_bytes t (44 + length entries) (length ext_part) checksum (checksum_of ext_part) in
    let header_long : length header ≡ 44 = length-header t (44 + length entries) (length ext_part) checksum (checksum_of ext_part) v.oem.0 v.product.0 v.old.0 in
    length-append (header ++ entries) ext_part ∙ omega (arith, header_long, length-append header entries, length-base_part t.base v.base, length-ext_part t.ext v.ext w.lawful)

-- a base entry has at least one byte
entries_below_bytes : (es : List Base) → length es ≤ sum_by base_length es
entries_below_bytes [] = omega arith
entries_below_bytes (e ∷ es) = omega (arith, sum_by-cons base_length e es, entries_below_bytes es, some e)
  where
    some : (e : Base) → 1 ≤ base_length e
    some (base.Processor e) = omega arith
    some (base.Bus e) = omega arith
    some (base.IoApic e) = omega arith
    some (base.IoInt e) = omega arith
    some (base.LocalInt e) = omega arith

-- the checksum of the base table is a byte in the place of a zero
pub sum-base_table : (t : Table) (checksum : ℕ) (ext_part : List ℕ) → sum (base_table_bytes t checksum ext_part) ≡ sum (base_table_bytes t 0 ext_part) + checksum
sum-base_table t checksum ext_part =
    let entries : List ℕ = flat_map base_bytes t.base in
    let base_len : ℕ = 44 + length entries in
    let rest : List ℕ = t.oem ++ (t.product ++ (header_back t ++ (header_end t (length ext_part) (checksum_of ext_part) ++ entries))) in
    ap sum (header-parts t base_len (length ext_part) checksum (checksum_of ext_part) entries)
    ∙ sum-cell (codes "PCMP" ++ to_le_bytes w16 base_len ++ t.revision ∷ []) rest checksum
    ∙ ap (λ s. s + checksum) (sym (ap sum (header-parts t base_len (length ext_part) 0 (checksum_of ext_part) entries)))

sum-sealed : (bytes : List ℕ) → SumsToZero (checksum_of bytes ∷ bytes)
sum-sealed bytes = sealed (sum bytes) (sum (checksum_of bytes ∷ bytes)) (checksum_of bytes) (omega (arith, sum_by-cons (λ (x : ℕ). x) (checksum_of bytes) bytes)) refl

-- a table with the fields of its revision has a known one, and no extended part at revision 1
known_revision : (t : Table) → HasFieldsOfRevision t → IsKnownRevision t.revision
known_revision t (inl fields) = inr fields.0
known_revision t (inr fields) = inl fields.0

no_ext_part : (t : Table) → HasFieldsOfRevision t → t.revision ≡ 1 → length (flat_map ext_bytes t.ext) ≡ 0
no_ext_part t (inl fields) one = absurd (omega (arith, fields.0, one))
no_ext_part t (inr fields) one = ap (λ (es : List Ext). length (flat_map ext_bytes es)) fields.2

-- the bytes of a table are the table, at the place behind what stands before them
pub IsConfigurationTable-written : (t : Table) (before after image : List ℕ) (at : ℕ) → IsTableValue t → IsWellFormedTable t → image ≡ before ++ (table_bytes t ++ after) → length before ≡ at → IsConfigurationTable t image at
IsConfigurationTable-written t before after image at v w spelled here =
    let entries : List ℕ = flat_map base_bytes t.base in
    let ext_part : List ℕ = flat_map ext_bytes t.ext in
    let base_len : ℕ = 44 + length entries in
    let checksum : ℕ = checksum_of (base_table_bytes t 0 ext_part) in
    let header : List ℕ = header_bytes t base_len (length ext_part) checksum (checksum_of ext_part) in
    let entries_long : length entries ≡ sum_by base_length t.base = length-base_part t.base v.base in
    let ext_long : length ext_part ≡ sum_by ext_length t.ext = length-ext_part t.ext v.ext w.lawful in
    let header_long : length header ≡ 44 = length-header t base_len (length ext_part) checksum (checksum_of ext_part) v.oem.0 v.product.0 v.old.0 in
    let base_table : image ≡ before ++ (header ++ entries ++ (ext_part ++ after)) = spelled ∙ ap (λ x. before ++ x) (append_assoc (header ++ entries) ext_part after) in
    let all : image ≡ before ++ (header ++ (entries ++ (ext_part ++ after))) = base_table ∙ ap (λ x. before ++ x) (append_assoc header entries (ext_part ++ after)) in
    let from_entries : image ≡ before ++ header ++ (entries ++ (ext_part ++ after)) = all ∙ sym (append_assoc before header (entries ++ (ext_part ++ after))) in
    let from_ext : image ≡ before ++ header ++ entries ++ (ext_part ++ after) = from_entries ∙ sym (append_assoc (before ++ header) entries (ext_part ++ after)) in
    let entries_at : length (before ++ header) ≡ at + 44 = length-append before header ∙ omega arith in
    let ext_at : length (before ++ header ++ entries) ≡ at + base_len = length-append (before ++ header) entries ∙ omega arith in
    let size : length image ≡ at + base_len + length ext_part + length after =
    ap length from_ext ∙ length-append (before ++ header ++ entries) (ext_part ++ after) ∙ omega (arith, length-append ext_part after, ext_at) in
    let head : IsSpelledHeaderAt t base_len (length ext_part) (checksum_of ext_part) image at =
    header-written t base_len (length ext_part) checksum (checksum_of ext_part) before (entries ++ (ext_part ++ after)) image at v w.revision (no_ext_part t w.revision) (omega (arith, w.base_fits)) (omega (arith, w.ext_fits)) (omega (arith, entries_below_bytes t.base, w.base_fits)) all (sym here) in
    let base_there : base_end image at ≡ at + base_len = ap (λ x. at + x) head.base_len_there in
    let ext_there : ext_end image at ≡ at + base_len + length ext_part = cc (base_there, head.ext_len_there) in
    let base_part : part image at (base_length_at image at) ≡ header ++ entries =
    ap (λ n. part image at n) head.base_len_there ∙ part-behind base_len image before (header ++ entries ++ (ext_part ++ after)) at 0 base_table (omega arith)
    ∙ take-append_whole base_len (header ++ entries) (ext_part ++ after) (length-append header entries ∙ omega arith) in
    let sealed_part : part image (base_end image at) (ext_length_at image at) ≡ ext_part =
    ap (λ n. part image (base_end image at) n) head.ext_len_there ∙ part-behind (length ext_part) image (before ++ header ++ entries) (ext_part ++ after) (base_end image at) 0 from_ext (omega arith)
    ∙ take-append_whole (length ext_part) ext_part after refl in
    let base_sum : SumsToZero (header ++ entries) = sealed (sum (base_table_bytes t 0 ext_part)) (sum (header ++ entries)) checksum (sum-base_table t checksum ext_part) refl in
    record {
      inside = record {
        base = record { header = omega (arith, head.base_len_there); inside = omega (arith, base_there) };
        inside = omega (arith, ext_there);
      };
      header = head.header;
      revision = known_revision t w.revision;
      checksum = subst (λ l. SumsToZero l) (sym base_part) base_sum;
      count = sym head.count_there;
      base = base_entries (before ++ header) (ext_part ++ after) image (at + 44) (base_end image at) from_entries entries_at (omega (arith, base_there));
      ext_checksum = λ new.
          let byte : slice_index image (at + 42) ≡ checksum_of ext_part = head.ext_checksum_there new in
          let ext_list : slice_index image (at + 42) ∷ part image (base_end image at) (ext_length_at image at) ≡ checksum_of ext_part ∷ ext_part = cc (byte, sealed_part) in
          subst (λ l. SumsToZero l) (sym ext_list) (sum-sealed ext_part);
      ext = ext_entries (before ++ header ++ entries) after image (base_end image at) (ext_end image at) from_ext (omega (arith, base_there)) (omega (arith, base_there, ext_there));
    }
  where
    base_entries : (front rest whole : List ℕ) (from to : ℕ) → whole ≡ front ++ (flat_map base_bytes t.base ++ rest) → length front ≡ from → length front + length (flat_map base_bytes t.base) ≡ to → AreBaseEntries t.base whole from to
    base_entries front rest whole from to e p q = subst (λ x. AreBaseEntries t.base whole from x) q (subst (λ x. AreBaseEntries t.base whole x (length front + length (flat_map base_bytes t.base))) p
        (subst (λ x. AreBaseEntries t.base x (length front) (length front + length (flat_map base_bytes t.base))) (sym e) (AreBaseEntries-written t.base front rest v.base)))

    ext_entries : (front rest whole : List ℕ) (from to : ℕ) → whole ≡ front ++ (flat_map ext_bytes t.ext ++ rest) → length front ≡ from → length front + length (flat_map ext_bytes t.ext) ≡ to → AreExtEntries t.ext whole from to
    ext_entries front rest whole from to e p q = subst (λ x. AreExtEntries t.ext whole from x) q (subst (λ x. AreExtEntries t.ext whole x (length front + length (flat_map ext_bytes t.ext))) p
        (subst (λ x. AreExtEntries t.ext x (length front) (length front + length (flat_map ext_bytes t.ext))) (sym e) (AreExtEntries-written t.ext front rest v.ext w.lawful)))
