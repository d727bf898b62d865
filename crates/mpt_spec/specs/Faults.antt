-- The faults for which tables are refused: one sentence for each row. Numbers and order of the reasons are this project's own;
-- the fields are those of MultiProcessor Specification 1.4, sections 4.1 to 4.4. Of the pointer's rows `at` is the place of the
-- floating pointer, of the table's rows its address, and `k` is the offset in the image at which the fault stands.
use Rattle.std.specs.Prelude.{◌≡◌, ◌≢◌, ℕ, ◌+◌, ◌*◌, ◌≤◌, ◌<◌, ◌⊎◌, List, length, slice_index, codes}
use Rattle.mpt_base.specs.Bytes.{number_at, part}
use Rattle.mpt_base.specs.Reason.{reason_number}
use Rattle.mpt_base.specs.declared.fault.Reason.{Reason}
use Rattle.mpt_base.specs.declared.fault.Reason.TheVariants as why
use Rattle.mpt_spec.specs.declared.entry.Base.{Base}
use Rattle.mpt_spec.specs.Search.{IsFirstPointerAt}
use Rattle.mpt_spec.specs.Entries.{AreBaseEntries, IsUnknownEntryIn, IsCutEntryIn}
use Rattle.mpt_spec.specs.Extended.{IsBadExtTypeIn, IsBadExtLengthIn, IsCutExtEntryIn}
use Rattle.mpt_spec.specs.Revision.{IsKnownRevision}
use Rattle.mpt_spec.specs.Table.{base_length_at, count_at, revision_at, base_end, ext_end, HasBaseInside, HasExtInside, HasChecksum, SumsWithExtChecksum}

-- the address of the table (offset 4 of the floating pointer)
abbrev pub address_at : List ℕ → ℕ → ℕ
address_at image at = number_at 4 image (at + 4)

-- feature byte 1 (offset 11 of the floating pointer)
abbrev pub default_at : List ℕ → ℕ → ℕ
default_at image at = slice_index image (at + 11)

-- NoTable, at the address: no default configuration and no address
abbrev pub HasNoTableAt : List ℕ → ℕ → ℕ → Type 0
HasNoTableAt image at k = (k ≡ at + 4) × (default_at image at ≡ 0) × (address_at image at ≡ 0)

-- TableOutside, at the address: the header passes the image
abbrev pub HasTableOutsideAt : List ℕ → ℕ → ℕ → Type 0
HasTableOutsideAt image at k = (k ≡ at + 4) × (default_at image at ≡ 0) × (address_at image at ≢ 0) × (length image < address_at image at + 44)

-- BadRevision, at the revision byte of the floating pointer: it is neither 1 nor 4
abbrev pub HasBadPointerRevisionAt : List ℕ → ℕ → ℕ → Type 0
HasBadPointerRevisionAt image at k = (k ≡ at + 9) × (¬ IsKnownRevision (slice_index image (at + 9)))

-- BadDefault, at feature byte 1: it is above 7
abbrev pub HasBadDefaultAt : List ℕ → ℕ → ℕ → Type 0
HasBadDefaultAt image at k = (k ≡ at + 11) × (7 < default_at image at)

-- a fault of the floating pointer at this place
abbrev pub HasPointerFaultAt : List ℕ → ℕ → ℕ → Reason → Type 0
HasPointerFaultAt image at k why.NoTable = HasNoTableAt image at k
HasPointerFaultAt image at k why.TableOutside = HasTableOutsideAt image at k
HasPointerFaultAt image at k why.BadRevision = HasBadPointerRevisionAt image at k
HasPointerFaultAt image at k why.BadDefault = HasBadDefaultAt image at k
HasPointerFaultAt image at k _ = ⊥

-- BadSignature, at the table: it doesn't begin with `PCMP`
abbrev pub HasBadSignatureAt : List ℕ → ℕ → ℕ → Type 0
HasBadSignatureAt image at k = (k ≡ at) × (part image at 4 ≢ codes "PCMP")

-- ShortLength, at the base length: it is below the 44 bytes of the header
abbrev pub HasShortLengthAt : List ℕ → ℕ → ℕ → Type 0
HasShortLengthAt image at k = (k ≡ at + 4) × (base_length_at image at < 44)

-- LengthOutside, at the base length: the base table passes the image
abbrev pub HasLengthOutsideAt : List ℕ → ℕ → ℕ → Type 0
HasLengthOutsideAt image at k = (k ≡ at + 4) × (44 ≤ base_length_at image at) × (length image < base_end image at)

-- BadRevision, at the header's revision byte: it is neither 1 nor 4
abbrev pub HasBadHeaderRevisionAt : List ℕ → ℕ → ℕ → Type 0
HasBadHeaderRevisionAt image at k = (k ≡ at + 6) × (¬ IsKnownRevision (revision_at image at))

-- BadSum, at the checksum: the base table lies inside and doesn't sum to zero
abbrev pub HasBadChecksumAt : List ℕ → ℕ → ℕ → Type 0
HasBadChecksumAt image at k = (k ≡ at + 7) × HasBaseInside image at × (¬ HasChecksum image at)

-- BadCount, at the entry count: the base entries fill the base table, and their number isn't the count
abbrev pub HasBadCountAt : List ℕ → ℕ → ℕ → Type 0
HasBadCountAt image at k =
    (k ≡ at + 34) × HasBaseInside image at × (es : List Base) × AreBaseEntries es image (at + 44) (base_end image at) × (length es ≢ count_at image at)

-- ExtOutside, at the extended length: the base table lies inside, and the extended part, which isn't there at revision 1,
-- passes the image
abbrev pub HasExtOutsideAt : List ℕ → ℕ → ℕ → Type 0
HasExtOutsideAt image at k = (k ≡ at + 40) × HasBaseInside image at × (length image < ext_end image at)

-- BadExtSum, at the extended checksum: the revision isn't 1, both parts lie inside, and it doesn't sum to zero with the
-- extended part
abbrev pub HasBadExtChecksumAt : List ℕ → ℕ → ℕ → Type 0
HasBadExtChecksumAt image at k = (k ≡ at + 42) × HasExtInside image at × (revision_at image at ≢ 1) × (¬ SumsWithExtChecksum image at)

-- UnknownEntry, at the entry: earlier entries stand end to end, and its type is above 4
abbrev pub HasUnknownEntryAt : List ℕ → ℕ → ℕ → Type 0
HasUnknownEntryAt image at k = HasBaseInside image at × IsUnknownEntryIn image (at + 44) (base_end image at) k

-- CutEntry, at the entry: earlier entries stand end to end, its type is known, and it passes the base table
abbrev pub HasCutEntryAt : List ℕ → ℕ → ℕ → Type 0
HasCutEntryAt image at k = HasBaseInside image at × IsCutEntryIn image (at + 44) (base_end image at) k

-- BadExtType, at the extended entry: earlier ones stand end to end, and its type is below 128
abbrev pub HasBadExtTypeAt : List ℕ → ℕ → ℕ → Type 0
HasBadExtTypeAt image at k = HasExtInside image at × IsBadExtTypeIn image (base_end image at) (ext_end image at) k

-- BadExtLength, at the length byte of the extended entry: it is there and isn't that of the type
abbrev pub HasBadExtLengthAt : List ℕ → ℕ → ℕ → Type 0
HasBadExtLengthAt image at k = HasExtInside image at × IsBadExtLengthIn image (base_end image at) (ext_end image at) k

-- CutExtEntry, at the extended entry: one byte of it is left, or its right length passes the extended part
abbrev pub HasCutExtEntryAt : List ℕ → ℕ → ℕ → Type 0
HasCutExtEntryAt image at k = HasExtInside image at × IsCutExtEntryIn image (base_end image at) (ext_end image at) k

-- a fault of the table at this address
abbrev pub HasTableFaultAt : List ℕ → ℕ → ℕ → Reason → Type 0
HasTableFaultAt image at k why.BadSignature = HasBadSignatureAt image at k
HasTableFaultAt image at k why.ShortLength = HasShortLengthAt image at k
HasTableFaultAt image at k why.LengthOutside = HasLengthOutsideAt image at k
HasTableFaultAt image at k why.BadRevision = HasBadHeaderRevisionAt image at k
HasTableFaultAt image at k why.BadSum = HasBadChecksumAt image at k
HasTableFaultAt image at k why.BadCount = HasBadCountAt image at k
HasTableFaultAt image at k why.ExtOutside = HasExtOutsideAt image at k
HasTableFaultAt image at k why.BadExtSum = HasBadExtChecksumAt image at k
HasTableFaultAt image at k why.UnknownEntry = HasUnknownEntryAt image at k
HasTableFaultAt image at k why.CutEntry = HasCutEntryAt image at k
HasTableFaultAt image at k why.BadExtType = HasBadExtTypeAt image at k
HasTableFaultAt image at k why.BadExtLength = HasBadExtLengthAt image at k
HasTableFaultAt image at k why.CutExtEntry = HasCutExtEntryAt image at k
HasTableFaultAt image at k _ = ⊥

-- no fault of the floating pointer at this place stands
abbrev pub HasNoPointerFault : List ℕ → ℕ → Type 0
HasNoPointerFault image at = (k : ℕ) (why : Reason) → ¬ HasPointerFaultAt image at k why

-- a fault stands: one of the floating pointer at this place, or, where none does and feature byte 1 is 0, one of its table
abbrev pub HasFaultAt : List ℕ → ℕ → ℕ → Reason → Type 0
HasFaultAt image at k why =
    HasPointerFaultAt image at k why ⊎ (HasNoPointerFault image at × (default_at image at ≡ 0) × HasTableFaultAt image (address_at image at) k why)

-- the order of faults: by offset, then by number. A fault of the pointer and one of its table never stand together.
abbrev pub fault_order : ℕ → Reason → ℕ
fault_order k why = 32 * k + reason_number why

-- of these faults it stands, and no other is before it
pub record IsLeastFault (Stands : ℕ → Reason → Type 0) (k : ℕ) (why : Reason) : Type 0 where
  pub stands : Stands k why
  pub least : (j : ℕ) (other : Reason) → Stands j other → fault_order k why ≤ fault_order j other

-- the first fault of an image: the least of those of its first floating pointer and of that one's table
pub record IsFirstFault (image : List ℕ) (k : ℕ) (why : Reason) : Type 0 where
  pub at : ℕ
  pub first : IsFirstPointerAt image at
  pub fault : IsLeastFault (HasFaultAt image at) k why
