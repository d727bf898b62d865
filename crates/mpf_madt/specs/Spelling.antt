-- The bytes of a MADT: the one spelling of each entry and of the table (ACPI Specification, sections 5.2.6 and 5.2.12).
--     entry_bytes e     the bytes of an entry
--     madt_bytes m      the bytes of a table: header and entries, with the checksum
use Rattle.std.specs.Prelude.{ℕ, ◌+◌, List, [], ◌∷◌, ◌++◌, length, codes}
use Rattle.std.specs.Int.{to_le_bytes, w16, w32}
use Rattle.std.specs.List.{flat_map}
use Rattle.mpt_base.specs.Writing.{checksum_of}
use Rattle.mpf_madt.specs.declared.madt.Madt.{Madt}
use Rattle.mpf_madt.specs.declared.madt.MadtEntry.{MadtEntry}
use Rattle.mpf_madt.specs.declared.madt.MadtEntry.TheVariants as entry

-- an entry
abbrev pub entry_bytes : MadtEntry → List ℕ
entry_bytes (entry.Local uid apic flags) = 0 ∷ 8 ∷ uid ∷ apic ∷ to_le_bytes w32 flags
entry_bytes (entry.Io id reserved address base) = 1 ∷ 12 ∷ id ∷ reserved ∷ (to_le_bytes w32 address ++ to_le_bytes w32 base)
entry_bytes (entry.Override bus source gsi flags) = 2 ∷ 10 ∷ bus ∷ source ∷ (to_le_bytes w32 gsi ++ to_le_bytes w16 flags)
entry_bytes (entry.Nmi uid flags lint) = 4 ∷ 6 ∷ uid ∷ (to_le_bytes w16 flags ++ lint ∷ [])
entry_bytes (entry.Other e) = e.kind ∷ (2 + length e.rest) ∷ e.rest

-- the ten bytes before the OEM id, with this length and this checksum
abbrev pub front_bytes : Madt → ℕ → ℕ → List ℕ
front_bytes m size checksum = codes "APIC" ++ (to_le_bytes w32 size ++ (m.revision ∷ checksum ∷ []))

-- the three numbers behind the creator id
abbrev pub back_bytes : Madt → List ℕ
back_bytes m = to_le_bytes w32 m.creator_revision ++ (to_le_bytes w32 m.local_address ++ to_le_bytes w32 m.flags)

-- the header with this length and this checksum
abbrev pub header_bytes : Madt → ℕ → ℕ → List ℕ
header_bytes m size checksum = front_bytes m size checksum ++ (m.oem ++ (m.table ++ (to_le_bytes w32 m.oem_revision ++ (m.creator ++ back_bytes m))))

-- the table with this checksum
abbrev pub madt_with : Madt → ℕ → List ℕ
madt_with m checksum =
    let entries = flat_map entry_bytes m.entries in
    header_bytes m (44 + length entries) checksum ++ entries

-- the table
abbrev pub madt_bytes : Madt → List ℕ
madt_bytes m = madt_with m (checksum_of (madt_with m 0))
