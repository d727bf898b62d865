-- The MP configuration table (MultiProcessor Specification 1.4, section 4.2, figure 4-3), and what an image describes.
--     base_length_at, ext_length_at, count_at   the lengths and the entry count of the header at a place
--     base_end, ext_end                         where the base table and the extended part end
--     reserved_at, old_at                       what a table has from bytes 40 to 43 of the header, by its revision
--     HasBaseInside, HasExtInside               the parts lie in the image
--     IsHeaderAt t image at                     the header at the place has the fields of the table
--     IsConfigurationTable t image at           the table stands at the place
--     Describes image tables                    the image describes the tables
use Rattle.std.specs.Prelude.{◌≡◌, ◌≢◌, ℕ, ◌+◌, ◌≤◌, List, ◌∷◌, length, replicate, slice_index, codes}
use Rattle.mpt_base.specs.Bytes.{number_at, part, SumsToZero}
use Rattle.mpt_spec.specs.declared.pointer.Pointer.{Pointer}
use Rattle.mpt_spec.specs.declared.tables.Table.{Table}
use Rattle.mpt_spec.specs.declared.tables.Body.{Body}
use Rattle.mpt_spec.specs.declared.tables.Body.TheVariants as body
use Rattle.mpt_spec.specs.declared.tables.Tables.{Tables}
use Rattle.mpt_spec.specs.Revision.{IsKnownRevision, by_revision}
use Rattle.mpt_spec.specs.Pointer.{IsFloatingPointer}
use Rattle.mpt_spec.specs.Search.{IsFirstPointerAt}
use Rattle.mpt_spec.specs.Entries.{AreBaseEntries}
use Rattle.mpt_spec.specs.Extended.{AreExtEntries}

-- the base length (offset 4): the bytes of the base table, the header included
abbrev pub base_length_at : List ℕ → ℕ → ℕ
base_length_at image at = number_at 2 image (at + 4)

-- the entry count (offset 34): the number of base entries
abbrev pub count_at : List ℕ → ℕ → ℕ
count_at image at = number_at 2 image (at + 34)

-- the revision (offset 6)
abbrev pub revision_at : List ℕ → ℕ → ℕ
revision_at image at = slice_index image (at + 6)

-- the bytes of the extended part, which follows the base table directly: those that the extended length (offset 40) says, and
-- none at revision 1
abbrev pub ext_length_at : List ℕ → ℕ → ℕ
ext_length_at image at = by_revision (revision_at image at) 0 (number_at 2 image (at + 40))

-- the reserved byte (offset 43), 0 at revision 1
abbrev pub reserved_at : List ℕ → ℕ → ℕ
reserved_at image at = by_revision (revision_at image at) 0 (slice_index image (at + 43))

-- the bytes at offsets 40 to 43 at revision 1, which have no meaning here, and zero at any other
abbrev pub old_at : List ℕ → ℕ → List ℕ
old_at image at = by_revision (revision_at image at) (part image (at + 40) 4) (replicate 4 0)

-- where the base table ends
abbrev pub base_end : List ℕ → ℕ → ℕ
base_end image at = at + base_length_at image at

-- where the extended part ends
abbrev pub ext_end : List ℕ → ℕ → ℕ
ext_end image at = base_end image at + ext_length_at image at

-- the base table has a whole header and lies in the image
pub record HasBaseInside (image : List ℕ) (at : ℕ) : Type 0 where
  pub header : 44 ≤ base_length_at image at
  pub inside : base_end image at ≤ length image

-- both parts lie in the image
pub record HasExtInside (image : List ℕ) (at : ℕ) : Type 0 where
  pub base : HasBaseInside image at
  pub inside : ext_end image at ≤ length image

-- the bytes of the base table sum to zero
abbrev pub HasChecksum : List ℕ → ℕ → Type 0
HasChecksum image at = SumsToZero (part image at (base_length_at image at))

-- the extended checksum (offset 42) and the bytes of the extended part sum to zero
abbrev pub SumsWithExtChecksum : List ℕ → ℕ → Type 0
SumsWithExtChecksum image at = SumsToZero (slice_index image (at + 42) ∷ part image (base_end image at) (ext_length_at image at))

-- they do so but at revision 1, which has no extended checksum
abbrev pub HasExtChecksum : List ℕ → ℕ → Type 0
HasExtChecksum image at = revision_at image at ≢ 1 → SumsWithExtChecksum image at

-- the header at the place has the fields of the table
pub record IsHeaderAt (t : Table) (image : List ℕ) (at : ℕ) : Type 0 where
  pub signature : part image at 4 ≡ codes "PCMP"
  pub revision : t.revision ≡ revision_at image at
  pub oem : t.oem ≡ part image (at + 8) 8
  pub product : t.product ≡ part image (at + 16) 12
  pub oem_table : t.oem_table ≡ number_at 4 image (at + 28)
  pub oem_size : t.oem_size ≡ number_at 2 image (at + 32)
  pub local_address : t.local_address ≡ number_at 4 image (at + 36)
  pub reserved : t.reserved ≡ reserved_at image at
  pub old : t.old ≡ old_at image at

-- the table stands at the place: header, base entries and extended entries, with both checksums
pub record IsConfigurationTable (t : Table) (image : List ℕ) (at : ℕ) : Type 0 where
  pub inside : HasExtInside image at
  pub header : IsHeaderAt t image at
  pub revision : IsKnownRevision t.revision
  pub checksum : HasChecksum image at
  pub count : length t.base ≡ count_at image at
  pub base : AreBaseEntries t.base image (at + 44) (base_end image at)
  pub ext_checksum : HasExtChecksum image at
  pub ext : AreExtEntries t.ext image (base_end image at) (ext_end image at)

-- feature byte 1 of a floating pointer: the number of a default configuration, or 0
abbrev pub default_number : Pointer → ℕ
default_number p = slice_index p.features 0

-- what the floating pointer names in the image: a default configuration from 1 to 7, or the table at its address
abbrev pub IsBodyOf : Body → Pointer → List ℕ → Type 0
IsBodyOf (body.Default n) p image = (default_number p ≡ n) × (1 ≤ n) × (n ≤ 7)
IsBodyOf (body.Listed t) p image = (default_number p ≡ 0) × (p.address ≢ 0) × IsConfigurationTable t image p.address

-- the image has these tables, if their pointer is where the search finds it
pub record HasTables (image : List ℕ) (tables : Tables) : Type 0 where
  pub pointer : IsFloatingPointer tables.pointer (part image tables.at 16)
  pub revision : IsKnownRevision tables.pointer.revision
  pub body : IsBodyOf tables.body tables.pointer image

-- the image describes the tables: the first floating pointer of the search is theirs
pub record Describes (image : List ℕ) (tables : Tables) : Type 0 where
  pub first : IsFirstPointerAt image tables.at
  pub tables_there : HasTables image tables
