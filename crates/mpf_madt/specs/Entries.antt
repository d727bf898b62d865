-- The entries of a MADT (ACPI Specification, section 5.2.12). Offsets are from the entry's first byte.
--     entry_length e                     the length of an entry in bytes
--     IsMadtEntryAt e bytes at           the entry stands at the place
--     AreMadtEntries es bytes from to    the entries stand end to end, with nothing left
--     HasEntriesBefore bytes from to k   entries stand end to end up to k, and k is before the end
--     IsLengthOfType type_byte n         the length byte is that of the type
--     IsBadEntryLengthIn, IsCutEntryIn bytes from to k   the faults of the entry behind them
--     IsEntryFaultIn bytes from to k why the fault of the entries between two places
use Rattle.std.specs.Prelude.{◌≡◌, ◌≢◌, ℕ, ◌+◌, ◌≤◌, ◌<◌, ◌⊎◌, List, [], ◌∷◌, length, slice_index}
use Rattle.mpt_base.specs.Bytes.{number_at, part}
use Rattle.mpt_spec.specs.declared.entry.Opaque.{Opaque}
use Rattle.mpf_madt.specs.declared.madt.MadtEntry.{MadtEntry}
use Rattle.mpf_madt.specs.declared.madt.MadtEntry.TheVariants as entry
use Rattle.mpf_madt.specs.declared.refusal.MadtReason.{MadtReason}
use Rattle.mpf_madt.specs.declared.refusal.MadtReason.TheVariants as why

-- a processor's local APIC (section 5.2.12.2): type 0, 8 bytes
pub record IsLocalAt (uid apic flags : ℕ) (bytes : List ℕ) (at : ℕ) : Type 0 where
  pub type_byte : slice_index bytes at ≡ 0
  pub length_byte : slice_index bytes (at + 1) ≡ 8
  pub uid_there : uid ≡ slice_index bytes (at + 2)
  pub apic_there : apic ≡ slice_index bytes (at + 3)
  pub flags_there : flags ≡ number_at 4 bytes (at + 4)

-- an I/O APIC (section 5.2.12.3): type 1, 12 bytes
pub record IsIoAt (id reserved address base : ℕ) (bytes : List ℕ) (at : ℕ) : Type 0 where
  pub type_byte : slice_index bytes at ≡ 1
  pub length_byte : slice_index bytes (at + 1) ≡ 12
  pub id_there : id ≡ slice_index bytes (at + 2)
  pub reserved_there : reserved ≡ slice_index bytes (at + 3)
  pub address_there : address ≡ number_at 4 bytes (at + 4)
  pub base_there : base ≡ number_at 4 bytes (at + 8)

-- an interrupt source override (section 5.2.12.5): type 2, 10 bytes
pub record IsOverrideAt (bus source gsi flags : ℕ) (bytes : List ℕ) (at : ℕ) : Type 0 where
  pub type_byte : slice_index bytes at ≡ 2
  pub length_byte : slice_index bytes (at + 1) ≡ 10
  pub bus_there : bus ≡ slice_index bytes (at + 2)
  pub source_there : source ≡ slice_index bytes (at + 3)
  pub gsi_there : gsi ≡ number_at 4 bytes (at + 4)
  pub flags_there : flags ≡ number_at 2 bytes (at + 8)

-- an NMI of a local APIC (section 5.2.12.7): type 4, 6 bytes
pub record IsNmiAt (uid flags lint : ℕ) (bytes : List ℕ) (at : ℕ) : Type 0 where
  pub type_byte : slice_index bytes at ≡ 4
  pub length_byte : slice_index bytes (at + 1) ≡ 6
  pub uid_there : uid ≡ slice_index bytes (at + 2)
  pub flags_there : flags ≡ number_at 2 bytes (at + 3)
  pub lint_there : lint ≡ slice_index bytes (at + 5)

-- a type that is left opaque here
abbrev pub IsOtherType : ℕ → Type 0
IsOtherType n = (n ≢ 0) × (n ≢ 1) × (n ≢ 2) × (n ≢ 4)

-- an entry of another type: its length byte counts all its bytes
pub record IsOtherAt (e : Opaque) (bytes : List ℕ) (at : ℕ) : Type 0 where
  pub type_byte : e.kind ≡ slice_index bytes at
  pub other : IsOtherType e.kind
  pub length_byte : slice_index bytes (at + 1) ≡ 2 + length e.rest
  pub rest : e.rest ≡ part bytes (at + 2) (length e.rest)

-- the entry stands at the place
abbrev pub IsMadtEntryAt : MadtEntry → List ℕ → ℕ → Type 0
IsMadtEntryAt (entry.Local uid apic flags) bytes at = IsLocalAt uid apic flags bytes at
IsMadtEntryAt (entry.Io id reserved address base) bytes at = IsIoAt id reserved address base bytes at
IsMadtEntryAt (entry.Override bus source gsi flags) bytes at = IsOverrideAt bus source gsi flags bytes at
IsMadtEntryAt (entry.Nmi uid flags lint) bytes at = IsNmiAt uid flags lint bytes at
IsMadtEntryAt (entry.Other e) bytes at = IsOtherAt e bytes at

-- the length of an entry in bytes
abbrev pub entry_length : MadtEntry → ℕ
entry_length (entry.Local uid apic flags) = 8
entry_length (entry.Io id reserved address base) = 12
entry_length (entry.Override bus source gsi flags) = 10
entry_length (entry.Nmi uid flags lint) = 6
entry_length (entry.Other e) = 2 + length e.rest

-- the entries stand end to end from one place to another, with nothing left
abbrev pub AreMadtEntries : List MadtEntry → List ℕ → ℕ → ℕ → Type 0
AreMadtEntries [] bytes from to = from ≡ to
AreMadtEntries (e ∷ es) bytes from to = IsMadtEntryAt e bytes from × AreMadtEntries es bytes (from + entry_length e) to

-- entries stand end to end from one place up to before k, and k is before the end
pub record HasEntriesBefore (bytes : List ℕ) (from to k : ℕ) : Type 0 where
  pub entries : List MadtEntry
  pub are_entries : AreMadtEntries entries bytes from k
  pub more : k < to

-- the length byte is that of its type: 8, 12, 10 and 6 for types 0, 1, 2 and 4, at least 2 for any other
pub record IsLengthOfType (type_byte n : ℕ) : Type 0 where
  pub whole : 2 ≤ n
  pub local : type_byte ≡ 0 → n ≡ 8
  pub io : type_byte ≡ 1 → n ≡ 12
  pub override : type_byte ≡ 2 → n ≡ 10
  pub nmi : type_byte ≡ 4 → n ≡ 6

-- k is the length byte of the entry behind the entries, and isn't that of its type
abbrev pub IsBadEntryLengthIn : List ℕ → ℕ → ℕ → ℕ → Type 0
IsBadEntryLengthIn bytes from to k =
    (place : ℕ) × (k ≡ place + 1) × HasEntriesBefore bytes from to place × (place + 2 ≤ to) × (¬ IsLengthOfType (slice_index bytes place) (slice_index bytes (place + 1)))

-- behind the entries one byte of an entry is left, or it has a right length and passes the end
abbrev pub IsCutEntryIn : List ℕ → ℕ → ℕ → ℕ → Type 0
IsCutEntryIn bytes from to k =
    HasEntriesBefore bytes from to k × ((k + 1 ≡ to) ⊎ (IsLengthOfType (slice_index bytes k) (slice_index bytes (k + 1)) × (to < k + slice_index bytes (k + 1))))

-- why the bytes between two places aren't entries, and where
abbrev pub IsEntryFaultIn : List ℕ → ℕ → ℕ → ℕ → MadtReason → Type 0
IsEntryFaultIn bytes from to k why.BadEntryLength = IsBadEntryLengthIn bytes from to k
IsEntryFaultIn bytes from to k why.CutEntry = IsCutEntryIn bytes from to k
IsEntryFaultIn bytes from to k _ = ⊥
