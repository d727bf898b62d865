-- The base entries (MultiProcessor Specification 1.4, section 4.3, figures 4-4 to 4-8). Offsets are from the entry's first byte.
--     base_length e                      the length of an entry in bytes
--     IsBaseEntryAt e bytes at           the entry stands at the place
--     AreBaseEntries es bytes from to    the entries stand end to end, with nothing left
--     HasBaseEntriesBefore bytes from to k   entries stand end to end up to k, and k is before the end
--     IsUnknownEntryIn, IsCutEntryIn bytes from to k   behind them stands an entry of no known type, or one that passes the end
--     IsBaseFaultIn bytes from to k why  the fault of the entries between two places
use Rattle.std.specs.Prelude.{◌≡◌, ◌==◌, ℕ, ◌+◌, ◌≤◌, ◌<◌, List, [], ◌∷◌, slice_index, if◌then◌else◌}
use Rattle.mpt_base.specs.Bytes.{number_at, part}
use Rattle.mpt_base.specs.declared.fault.Reason.{Reason}
use Rattle.mpt_base.specs.declared.fault.Reason.TheVariants as why
use Rattle.mpt_spec.specs.declared.entry.Processor.{Processor}
use Rattle.mpt_spec.specs.declared.entry.Bus.{Bus}
use Rattle.mpt_spec.specs.declared.entry.IoApic.{IoApic}
use Rattle.mpt_spec.specs.declared.entry.IntEntry.{IntEntry}
use Rattle.mpt_spec.specs.declared.entry.Base.{Base}
use Rattle.mpt_spec.specs.declared.entry.Base.TheVariants as base

-- a processor entry (section 4.3.1): type 0, 20 bytes
pub record IsProcessorAt (e : Processor) (bytes : List ℕ) (at : ℕ) : Type 0 where
  pub type_byte : slice_index bytes at ≡ 0
  pub apic : e.apic ≡ slice_index bytes (at + 1)
  pub version : e.version ≡ slice_index bytes (at + 2)
  pub flags : e.flags ≡ slice_index bytes (at + 3)
  pub signature : e.signature ≡ number_at 4 bytes (at + 4)
  pub features : e.features ≡ number_at 4 bytes (at + 8)
  pub reserved : e.reserved ≡ part bytes (at + 12) 8

-- a bus entry (section 4.3.2): type 1, 8 bytes
pub record IsBusAt (e : Bus) (bytes : List ℕ) (at : ℕ) : Type 0 where
  pub type_byte : slice_index bytes at ≡ 1
  pub id : e.id ≡ slice_index bytes (at + 1)
  pub name : e.name ≡ part bytes (at + 2) 6

-- an I/O APIC entry (section 4.3.3): type 2, 8 bytes
pub record IsIoApicAt (e : IoApic) (bytes : List ℕ) (at : ℕ) : Type 0 where
  pub type_byte : slice_index bytes at ≡ 2
  pub id : e.id ≡ slice_index bytes (at + 1)
  pub version : e.version ≡ slice_index bytes (at + 2)
  pub flags : e.flags ≡ slice_index bytes (at + 3)
  pub address : e.address ≡ number_at 4 bytes (at + 4)

-- an I/O interrupt (section 4.3.4) or local interrupt (section 4.3.5) entry: type 3 or 4, 8 bytes
pub record IsInterruptAt (type_byte_is : ℕ) (e : IntEntry) (bytes : List ℕ) (at : ℕ) : Type 0 where
  pub type_byte : slice_index bytes at ≡ type_byte_is
  pub kind : e.kind ≡ slice_index bytes (at + 1)
  pub flags : e.flags ≡ number_at 2 bytes (at + 2)
  pub bus : e.bus ≡ slice_index bytes (at + 4)
  pub irq : e.irq ≡ slice_index bytes (at + 5)
  pub dest : e.dest ≡ slice_index bytes (at + 6)
  pub pin : e.pin ≡ slice_index bytes (at + 7)

-- the entry stands at the place
abbrev pub IsBaseEntryAt : Base → List ℕ → ℕ → Type 0
IsBaseEntryAt (base.Processor e) bytes at = IsProcessorAt e bytes at
IsBaseEntryAt (base.Bus e) bytes at = IsBusAt e bytes at
IsBaseEntryAt (base.IoApic e) bytes at = IsIoApicAt e bytes at
IsBaseEntryAt (base.IoInt e) bytes at = IsInterruptAt 3 e bytes at
IsBaseEntryAt (base.LocalInt e) bytes at = IsInterruptAt 4 e bytes at

-- the length of an entry in bytes
abbrev pub base_length : Base → ℕ
base_length (base.Processor e) = 20
base_length (base.Bus e) = 8
base_length (base.IoApic e) = 8
base_length (base.IoInt e) = 8
base_length (base.LocalInt e) = 8

-- the entries stand end to end from one place to another, with nothing left
abbrev pub AreBaseEntries : List Base → List ℕ → ℕ → ℕ → Type 0
AreBaseEntries [] bytes from to = from ≡ to
AreBaseEntries (e ∷ es) bytes from to = IsBaseEntryAt e bytes from × AreBaseEntries es bytes (from + base_length e) to

-- entries stand end to end from one place up to before k, and k is before the end
pub record HasBaseEntriesBefore (bytes : List ℕ) (from to k : ℕ) : Type 0 where
  pub entries : List Base
  pub are_entries : AreBaseEntries entries bytes from k
  pub more : k < to

-- the length of an entry by its type: a processor has 20 bytes, all others 8
abbrev pub length_of_type : ℕ → ℕ
length_of_type n = if n == 0 then 20 else 8

-- behind the entries stands one whose type is above 4
abbrev pub IsUnknownEntryIn : List ℕ → ℕ → ℕ → ℕ → Type 0
IsUnknownEntryIn bytes from to k = HasBaseEntriesBefore bytes from to k × (4 < slice_index bytes k)

-- behind the entries stands one whose type is known and which passes the end
abbrev pub IsCutEntryIn : List ℕ → ℕ → ℕ → ℕ → Type 0
IsCutEntryIn bytes from to k = HasBaseEntriesBefore bytes from to k × (slice_index bytes k ≤ 4) × (to < k + length_of_type (slice_index bytes k))

-- why the bytes between two places aren't base entries, and where
abbrev pub IsBaseFaultIn : List ℕ → ℕ → ℕ → ℕ → Reason → Type 0
IsBaseFaultIn bytes from to k why.UnknownEntry = IsUnknownEntryIn bytes from to k
IsBaseFaultIn bytes from to k why.CutEntry = IsCutEntryIn bytes from to k
IsBaseFaultIn bytes from to k _ = ⊥
