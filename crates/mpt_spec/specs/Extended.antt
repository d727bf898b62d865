-- The extended entries (MultiProcessor Specification 1.4, section 4.4, figures 4-9 to 4-11). Offsets are from the entry's first byte.
--     ext_length e                       the length of an entry in bytes
--     IsExtEntryAt e bytes at            the entry stands at the place
--     AreExtEntries es bytes from to     the entries stand end to end, with nothing left
--     HasExtEntriesBefore bytes from to k   entries stand end to end up to k, and k is before the end
--     IsLengthOfExtType type n           the length byte is that of the type
--     IsBadExtTypeIn, IsBadExtLengthIn, IsCutExtEntryIn bytes from to k   the faults of the entry behind them
--     IsExtFaultIn bytes from to k why   the fault of the entries between two places
use Rattle.std.specs.Prelude.{◌≡◌, ℕ, ◌+◌, ◌≤◌, ◌<◌, ◌⊎◌, List, [], ◌∷◌, length, slice_index}
use Rattle.mpt_base.specs.Bytes.{number_at, part}
use Rattle.mpt_base.specs.declared.fault.Reason.{Reason}
use Rattle.mpt_base.specs.declared.fault.Reason.TheVariants as why
use Rattle.mpt_spec.specs.declared.entry.Space.{Space}
use Rattle.mpt_spec.specs.declared.entry.Hierarchy.{Hierarchy}
use Rattle.mpt_spec.specs.declared.entry.Modifier.{Modifier}
use Rattle.mpt_spec.specs.declared.entry.Opaque.{Opaque}
use Rattle.mpt_spec.specs.declared.entry.Ext.{Ext}
use Rattle.mpt_spec.specs.declared.entry.Ext.TheVariants as ext

-- a system address space mapping entry (section 4.4.1): type 128, 20 bytes
pub record IsSpaceAt (e : Space) (bytes : List ℕ) (at : ℕ) : Type 0 where
  pub type_byte : slice_index bytes at ≡ 128
  pub length_byte : slice_index bytes (at + 1) ≡ 20
  pub bus : e.bus ≡ slice_index bytes (at + 2)
  pub kind : e.kind ≡ slice_index bytes (at + 3)
  pub base : e.base ≡ number_at 8 bytes (at + 4)
  pub range : e.length ≡ number_at 8 bytes (at + 12)

-- a bus hierarchy descriptor entry (section 4.4.2): type 129, 8 bytes
pub record IsHierarchyAt (e : Hierarchy) (bytes : List ℕ) (at : ℕ) : Type 0 where
  pub type_byte : slice_index bytes at ≡ 129
  pub length_byte : slice_index bytes (at + 1) ≡ 8
  pub bus : e.bus ≡ slice_index bytes (at + 2)
  pub info : e.info ≡ slice_index bytes (at + 3)
  pub parent : e.parent ≡ slice_index bytes (at + 4)
  pub reserved : e.reserved ≡ part bytes (at + 5) 3

-- a compatibility bus address space modifier entry (section 4.4.3): type 130, 8 bytes
pub record IsModifierAt (e : Modifier) (bytes : List ℕ) (at : ℕ) : Type 0 where
  pub type_byte : slice_index bytes at ≡ 130
  pub length_byte : slice_index bytes (at + 1) ≡ 8
  pub bus : e.bus ≡ slice_index bytes (at + 2)
  pub flags : e.flags ≡ slice_index bytes (at + 3)
  pub ranges : e.ranges ≡ number_at 4 bytes (at + 4)

-- an entry of a type above 130: its length byte counts all its bytes
pub record IsOpaqueAt (e : Opaque) (bytes : List ℕ) (at : ℕ) : Type 0 where
  pub type_byte : e.kind ≡ slice_index bytes at
  pub above : 131 ≤ e.kind
  pub length_byte : slice_index bytes (at + 1) ≡ 2 + length e.rest
  pub rest : e.rest ≡ part bytes (at + 2) (length e.rest)

-- the entry stands at the place
abbrev pub IsExtEntryAt : Ext → List ℕ → ℕ → Type 0
IsExtEntryAt (ext.Space e) bytes at = IsSpaceAt e bytes at
IsExtEntryAt (ext.Hierarchy e) bytes at = IsHierarchyAt e bytes at
IsExtEntryAt (ext.Modifier e) bytes at = IsModifierAt e bytes at
IsExtEntryAt (ext.Opaque e) bytes at = IsOpaqueAt e bytes at

-- the length of an entry in bytes
abbrev pub ext_length : Ext → ℕ
ext_length (ext.Space e) = 20
ext_length (ext.Hierarchy e) = 8
ext_length (ext.Modifier e) = 8
ext_length (ext.Opaque e) = 2 + length e.rest

-- the entries stand end to end from one place to another, with nothing left
abbrev pub AreExtEntries : List Ext → List ℕ → ℕ → ℕ → Type 0
AreExtEntries [] bytes from to = from ≡ to
AreExtEntries (e ∷ es) bytes from to = IsExtEntryAt e bytes from × AreExtEntries es bytes (from + ext_length e) to

-- entries stand end to end from one place up to before k, and k is before the end
pub record HasExtEntriesBefore (bytes : List ℕ) (from to k : ℕ) : Type 0 where
  pub entries : List Ext
  pub are_entries : AreExtEntries entries bytes from k
  pub more : k < to

-- the length byte is that of its type: 20 for an address space, 8 for a hierarchy or a modifier, at least 2 for any other
pub record IsLengthOfExtType (type_byte n : ℕ) : Type 0 where
  pub whole : 2 ≤ n
  pub space : type_byte ≡ 128 → n ≡ 20
  pub hierarchy : type_byte ≡ 129 → n ≡ 8
  pub modifier : type_byte ≡ 130 → n ≡ 8

-- behind the entries stands one whose type is below 128
abbrev pub IsBadExtTypeIn : List ℕ → ℕ → ℕ → ℕ → Type 0
IsBadExtTypeIn bytes from to k = HasExtEntriesBefore bytes from to k × (slice_index bytes k < 128)

-- k is the length byte of the entry behind the entries, and isn't that of its type
abbrev pub IsBadExtLengthIn : List ℕ → ℕ → ℕ → ℕ → Type 0
IsBadExtLengthIn bytes from to k =
    (entry : ℕ) × (k ≡ entry + 1) × HasExtEntriesBefore bytes from to entry × (128 ≤ slice_index bytes entry) × (entry + 2 ≤ to)
    × (¬ IsLengthOfExtType (slice_index bytes entry) (slice_index bytes (entry + 1)))

-- behind the entries one byte of an entry is left, or it has a right length and passes the end
abbrev pub IsCutExtEntryIn : List ℕ → ℕ → ℕ → ℕ → Type 0
IsCutExtEntryIn bytes from to k =
    HasExtEntriesBefore bytes from to k × (128 ≤ slice_index bytes k)
    × ((k + 1 ≡ to) ⊎ (IsLengthOfExtType (slice_index bytes k) (slice_index bytes (k + 1)) × (to < k + slice_index bytes (k + 1))))

-- why the bytes between two places aren't extended entries, and where
abbrev pub IsExtFaultIn : List ℕ → ℕ → ℕ → ℕ → Reason → Type 0
IsExtFaultIn bytes from to k why.BadExtType = IsBadExtTypeIn bytes from to k
IsExtFaultIn bytes from to k why.BadExtLength = IsBadExtLengthIn bytes from to k
IsExtFaultIn bytes from to k why.CutExtEntry = IsCutExtEntryIn bytes from to k
IsExtFaultIn bytes from to k _ = ⊥
