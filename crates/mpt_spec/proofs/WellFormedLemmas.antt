-- Tables that an image of bytes describes are well formed.
use Rattle.std.proofs.Common.{◌≡◌, ℕ, zero, suc, ◌+◌, ◌-◌, ◌*◌, ◌/◌, ◌%◌, ◌^◌, ◌<◌, ◌≤◌, Bool, true, false, List, [], ◌∷◌, ◌++◌, length, map, replicate, sym, refl, ◌∙◌, inl, inr, arith}
use Rattle.std.specs.Prelude.{◌==◌, sum_by, slice_index, if◌then◌else◌, nat_le}
use Rattle.std.specs.List.{AllByRecursion, flat_map, range_with_len}
use Rattle.std.proofs.lemmas.List.Sums.{sum_by-cons}
use Rattle.mpt_base.specs.Bytes.{number_at, part}
use Rattle.mpt_spec.specs.Revision.{IsKnownRevision}
use Rattle.mpt_spec.proofs.RevisionLemmas.{by_revision-old, by_revision-new, by_revision-both}
use Rattle.mpt_spec.specs.declared.pointer.Area.{Area}
use Rattle.mpt_spec.specs.declared.entry.Base.{Base}
use Rattle.mpt_spec.specs.declared.entry.Ext.{Ext}
use Rattle.mpt_spec.specs.declared.entry.Ext.TheVariants as ext
use Rattle.mpt_spec.specs.declared.tables.Table.{Table}
use Rattle.mpt_spec.specs.declared.tables.Body.{Body}
use Rattle.mpt_spec.specs.declared.tables.Body.TheVariants as body
use Rattle.mpt_spec.specs.declared.tables.Tables.{Tables}
use Rattle.mpt_spec.specs.declared.pointer.Pointer.{Pointer}
use Rattle.mpt_spec.specs.Search.{word_at, cut_area, areas_of, places_in, search_places, IsFirstPointerAt}
use Rattle.mpt_spec.specs.Entries.{AreBaseEntries, base_length}
use Rattle.mpt_spec.specs.Extended.{AreExtEntries, IsExtEntryAt, ext_length}
use Rattle.mpt_spec.specs.Table.{base_length_at, ext_length_at, revision_at, base_end, ext_end, IsConfigurationTable, IsBodyOf, Describes}
use Rattle.mpt_spec.specs.Canonical.{IsLawfulExt, HasFieldsOfRevision, IsWellFormedTable, IsWellFormedBody, IsWellFormed}
use Rattle.mpt_base.specs.Bytes.{IsByteList}

-- a number of two bytes
number_at_2-low : (bytes : List ℕ) (at : ℕ) → IsByteList bytes → number_at 2 bytes at < 65536
number_at_2-low bytes at b = omega (arith, b at, b (suc at))

-- the entries between two places fill them
base_entries_fill : (es : List Base) (image : List ℕ) (from to : ℕ) → AreBaseEntries es image from to → from + sum_by base_length es ≡ to
base_entries_fill [] image from to h = omega arith
base_entries_fill (e ∷ es) image from to h = omega (arith, sum_by-cons base_length e es, base_entries_fill es image (from + base_length e) to h.1)

ext_entries_fill : (es : List Ext) (image : List ℕ) (from to : ℕ) → AreExtEntries es image from to → from + sum_by ext_length es ≡ to
ext_entries_fill [] image from to h = omega arith
ext_entries_fill (e ∷ es) image from to h = omega (arith, sum_by-cons ext_length e es, ext_entries_fill es image (from + ext_length e) to h.1)

-- an extended entry in bytes is lawful
ext_entry_lawful : (e : Ext) (image : List ℕ) (at : ℕ) → IsByteList image → IsExtEntryAt e image at → IsLawfulExt e
ext_entry_lawful (ext.Space e) image at b h = tt
ext_entry_lawful (ext.Hierarchy e) image at b h = tt
ext_entry_lawful (ext.Modifier e) image at b h = tt
ext_entry_lawful (ext.Opaque e) image at b h = (h.above, omega (arith, h.type_byte, b at), omega (arith, h.length_byte, b (at + 1)))

ext_entries_lawful : (es : List Ext) (image : List ℕ) (from to : ℕ) → IsByteList image → AreExtEntries es image from to → AllByRecursion IsLawfulExt es
ext_entries_lawful [] image from to b h = tt
ext_entries_lawful (e ∷ es) image from to b h = (ext_entry_lawful e image from b h.0, ext_entries_lawful es image (from + ext_length e) to b h.1)

-- entries that fill nothing are none
pub no_ext_entries : (es : List Ext) (image : List ℕ) (from to : ℕ) → AreExtEntries es image from to → to ≤ from → es ≡ []
no_ext_entries [] image from to h none = refl
no_ext_entries (e ∷ es) image from to h none = absurd (omega (arith, some e, none, ext_entries_fill es image (from + ext_length e) to h.1))
  where
    some : (e : Ext) → 1 ≤ ext_length e
    some (ext.Space e) = omega arith
    some (ext.Hierarchy e) = omega arith
    some (ext.Modifier e) = omega arith
    some (ext.Opaque e) = omega arith

-- a table in an image has the fields of its revision
fields_of_revision : (t : Table) (image : List ℕ) (at : ℕ) → IsConfigurationTable t image at → IsKnownRevision t.revision → HasFieldsOfRevision t
fields_of_revision t image at c (inl one) =
    let there : revision_at image at ≡ 1 = sym c.header.revision ∙ one in
    let none : ext_length_at image at ≡ 0 = by_revision-old (revision_at image at) 0 (number_at 2 image (at + 40)) there in
    inr (one, c.header.reserved ∙ by_revision-old (revision_at image at) 0 (slice_index image (at + 43)) there, no_ext_entries t.ext image (base_end image at) (ext_end image at) c.ext (omega (arith, none)))
fields_of_revision t image at c (inr four) =
    let there : revision_at image at ≡ 4 = sym c.header.revision ∙ four in
    inl (four, c.header.old ∙ by_revision-new (revision_at image at) (part image (at + 40) 4) (replicate 4 0) (λ e. omega (arith, e, there)))

pub IsConfigurationTable-well_formed : (t : Table) (image : List ℕ) (at : ℕ) → IsByteList image → IsConfigurationTable t image at → IsWellFormedTable t
IsConfigurationTable-well_formed t image at b c =
    let entries : at + 44 + sum_by base_length t.base ≡ at + base_length_at image at = base_entries_fill t.base image (at + 44) (base_end image at) c.base in
    let exts : base_end image at + sum_by ext_length t.ext ≡ base_end image at + ext_length_at image at = ext_entries_fill t.ext image (base_end image at) (ext_end image at) c.ext in
    let base_low : base_length_at image at < 65536 = number_at_2-low image (at + 4) b in
    let ext_low : ext_length_at image at < 65536 = by_revision-both (λ (n : ℕ). n < 65536) (revision_at image at) 0 (number_at 2 image (at + 40)) (omega arith) (number_at_2-low image (at + 40) b) in
    record {
      revision = fields_of_revision t image at c c.revision;
      lawful = ext_entries_lawful t.ext image (base_end image at) (ext_end image at) b c.ext;
      base_fits = omega arith;
      ext_fits = omega arith;
    }

IsBodyOf-well_formed : (body_is : Body) (p : Pointer) (image : List ℕ) → IsByteList image → IsBodyOf body_is p image → IsWellFormedBody body_is p
IsBodyOf-well_formed (body.Default n) p image b h = h
IsBodyOf-well_formed (body.Listed t) p image b h = (h.0, h.1, IsConfigurationTable-well_formed t image p.address b h.2)

-- a place of the search: a multiple of 16 below 4 GiB
record IsLowPlace (place : ℕ) : Type 0 where
  boundary : place % 16 ≡ 0
  low : place < 2 ^ 32

all_of_two : (P : ℕ → Type 0) (xs ys : List ℕ) → AllByRecursion P xs → AllByRecursion P ys → AllByRecursion P (xs ++ ys)
all_of_two P [] ys h g = g
all_of_two P (x ∷ xs) ys h g = (h.0, all_of_two P xs ys h.1 g)

multiples : (a n : ℕ) → (0 < n → 16 * (a + n) ≤ 2 ^ 32) → AllByRecursion IsLowPlace (map (λ k. 16 * k) (range_with_len a n))
multiples a zero h = tt
multiples a (suc n) h =
    let low : 16 * (a + suc n) ≤ 2 ^ 32 = h (omega arith) in
    (record { boundary = omega arith; low = omega arith }, multiples (a + 1) n (λ some. omega arith))

low_places : (area : Area) → area.to < 2 ^ 32 → AllByRecursion IsLowPlace (places_in area)
low_places area l = multiples ((area.from + 15) / 16) (area.to / 16 - (area.from + 15) / 16) (λ some. omega arith)

all_low_places : (areas : List Area) → AllByRecursion (λ area. area.to < 2 ^ 32) areas → AllByRecursion IsLowPlace (flat_map places_in areas)
all_low_places [] h = tt
all_low_places (area ∷ areas) h = all_of_two IsLowPlace (places_in area) (flat_map places_in areas) (low_places area h.0) (all_low_places areas h.1)

low_areas : (segment base_kib size : ℕ) → segment < 65536 → base_kib < 65536 → AllByRecursion (λ area. area.to < 2 ^ 32) (areas_of segment base_kib size)
low_areas segment base_kib size s k = by_words (segment == 0) (base_kib == 0)
  where
    by_words : (no_segment no_base : Bool) → AllByRecursion (λ area. area.to < 2 ^ 32)
        ((if no_segment then (if no_base then [] else (cut_area size ((base_kib - 1) * 1024) (base_kib * 1024) ∷ [])) else (cut_area size (16 * segment) (16 * segment + 1024) ∷ [])) ++ cut_area size 0xF0000 0x100000 ∷ [])
    by_words true true = omega arith
    by_words true false = omega arith
    by_words false no_base = omega arith

word_at-low : (image : List ℕ) (at : ℕ) → IsByteList image → word_at image at < 65536
word_at-low image at b = by_room (nat_le (at + 2) (length image))
  where
    by_room : (whole : Bool) → (if whole then number_at 2 image at else 0) < 65536
    by_room true = number_at_2-low image at b
    by_room false = omega arith

member : (P : ℕ → Type 0) (before after : List ℕ) (x : ℕ) → AllByRecursion P (before ++ x ∷ after) → P x
member P [] after x h = h.0
member P (y ∷ before) after x h = member P before after x h.1

first_is_low : (image : List ℕ) (at : ℕ) → IsByteList image → IsFirstPointerAt image at → IsLowPlace at
unfolding search_places
first_is_low image at b f =
    let all : AllByRecursion IsLowPlace (search_places image) =
    all_low_places (areas_of (word_at image 0x40E) (word_at image 0x413) (length image)) (low_areas (word_at image 0x40E) (word_at image 0x413) (length image) (word_at-low image 0x40E b) (word_at-low image 0x413 b)) in
    member IsLowPlace f.before f.after at (rw f.split at all)

-- tables that an image of bytes describes are well formed, and their floating pointer lies below 4 GiB
pub Describes-well_formed : (image : List ℕ) (tables : Tables) → IsByteList image → Describes image tables → IsWellFormed tables
Describes-well_formed image tables b d = record {
  revision = d.tables_there.revision;
  body = IsBodyOf-well_formed tables.body tables.pointer image b d.tables_there.body;
  paragraph = (first_is_low image tables.at b d.first).boundary;
}

pub Describes-below_4_gib : (image : List ℕ) (tables : Tables) → IsByteList image → Describes image tables → tables.at < 2 ^ 32
Describes-below_4_gib image tables b d = (first_is_low image tables.at b d.first).low
