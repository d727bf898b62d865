-- Tables that have bytes, and the values of the types (ACPI Specification, section 5.2.12; the greatest size is this project's own).
-- In a definition a field is any number, so a law over every table has as its premise that its numbers fit their fields.
--     madt_size m        the bytes of the table
--     IsLawfulMadt m     opaque entries are lawful, and the table has at most 1,048,576 bytes
--     IsMadtValue m      the fields fit
use Rattle.std.specs.Prelude.{◌≡◌, ℕ, ◌+◌, ◌^◌, ◌<◌, ◌≤◌, length, sum_by, ⊤}
use Rattle.std.specs.List.{AllByRecursion}
use Rattle.mpt_base.specs.Bytes.{IsByteList}
use Rattle.mpf_madt.specs.declared.madt.Madt.{Madt}
use Rattle.mpf_madt.specs.declared.madt.MadtEntry.{MadtEntry}
use Rattle.mpf_madt.specs.declared.madt.MadtEntry.TheVariants as entry
use Rattle.mpf_madt.specs.Entries.{entry_length, IsOtherType}

-- the bytes of the table
abbrev pub madt_size : Madt → ℕ
madt_size m = 44 + sum_by entry_length m.entries

-- an entry has one spelling: the type and the length of an opaque one are lawful
abbrev pub IsLawfulEntry : MadtEntry → Type 0
IsLawfulEntry (entry.Other e) = IsOtherType e.kind × (length e.rest ≤ 253)
IsLawfulEntry _ = ⊤

-- opaque entries are lawful, and the table has at most 1,048,576 bytes
pub record IsLawfulMadt (m : Madt) : Type 0 where
  pub lawful : AllByRecursion IsLawfulEntry m.entries
  pub fits : madt_size m ≤ 1048576

-- the fields of an entry fit
abbrev pub IsEntryValue : MadtEntry → Type 0
IsEntryValue (entry.Local uid apic flags) = (uid < 256) × (apic < 256) × (flags < 2 ^ 32)
IsEntryValue (entry.Io id reserved address base) = (id < 256) × (reserved < 256) × (address < 2 ^ 32) × (base < 2 ^ 32)
IsEntryValue (entry.Override bus source gsi flags) = (bus < 256) × (source < 256) × (gsi < 2 ^ 32) × (flags < 2 ^ 16)
IsEntryValue (entry.Nmi uid flags lint) = (uid < 256) × (flags < 2 ^ 16) × (lint < 256)
IsEntryValue (entry.Other e) = (e.kind < 256) × IsByteList e.rest

-- the fields of a table fit
pub record IsMadtValue (m : Madt) : Type 0 where
  pub revision : m.revision < 256
  pub oem : (length m.oem ≡ 6) × IsByteList m.oem
  pub table : (length m.table ≡ 8) × IsByteList m.table
  pub oem_revision : m.oem_revision < 2 ^ 32
  pub creator : (length m.creator ≡ 4) × IsByteList m.creator
  pub creator_revision : m.creator_revision < 2 ^ 32
  pub local_address : m.local_address < 2 ^ 32
  pub flags : m.flags < 2 ^ 32
  pub entries : AllByRecursion IsEntryValue m.entries
