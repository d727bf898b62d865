-- The Multiple APIC Description Table (ACPI Specification, sections 5.2.6 and 5.2.12).
--     IsHeaderOf m bytes    the bytes begin with the fields of the table
--     IsMadt m bytes        the bytes are the table
use Rattle.std.specs.Prelude.{◌≡◌, ℕ, ◌≤◌, List, length, slice_index, codes}
use Rattle.mpt_base.specs.Bytes.{number_at, part, SumsToZero}
use Rattle.mpf_madt.specs.declared.madt.Madt.{Madt}
use Rattle.mpf_madt.specs.Entries.{AreMadtEntries}

-- the signature and the fields before the entries, but for length and checksum
pub record IsHeaderOf (m : Madt) (bytes : List ℕ) : Type 0 where
  pub signature : part bytes 0 4 ≡ codes "APIC"
  pub revision : m.revision ≡ slice_index bytes 8
  pub oem : m.oem ≡ part bytes 10 6
  pub table : m.table ≡ part bytes 16 8
  pub oem_revision : m.oem_revision ≡ number_at 4 bytes 24
  pub creator : m.creator ≡ part bytes 28 4
  pub creator_revision : m.creator_revision ≡ number_at 4 bytes 32
  pub local_address : m.local_address ≡ number_at 4 bytes 36
  pub flags : m.flags ≡ number_at 4 bytes 40

-- the bytes are the table: the header, whose length (offset 4) is the number of bytes, and the entries from offset 44 to the end;
-- they sum to zero
pub record IsMadt (m : Madt) (bytes : List ℕ) : Type 0 where
  pub whole : 44 ≤ length bytes
  pub size : number_at 4 bytes 4 ≡ length bytes
  pub checksum : SumsToZero bytes
  pub header : IsHeaderOf m bytes
  pub entries : AreMadtEntries m.entries bytes 44 (length bytes)
