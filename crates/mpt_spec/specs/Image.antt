-- The bytes of tables: the one spelling of each entry, of the table and of the floating pointer (MultiProcessor Specification
-- 1.4, sections 4.1 to 4.4), and the image of 1 MiB that this project writes for them.
--     base_bytes e, ext_bytes e    the bytes of an entry
--     table_bytes t                the bytes of a table: header, base entries, extended entries, with both checksums
--     body_bytes b                 the bytes of a body: those of a table, none for a default configuration
--     pointer_bytes p              the bytes of a floating pointer
--     image_of tables              the image that is written for the tables
use Rattle.std.specs.Prelude.{ℕ, ◌+◌, ◌/◌, List, [], ◌∷◌, ◌++◌, length, replicate, codes}
use Rattle.std.specs.Int.{to_le_bytes, w16, w32, w64}
use Rattle.std.specs.List.{flat_map}
use Rattle.mpt_base.specs.Writing.{overlay, checksum_of}
use Rattle.mpt_spec.specs.Revision.{by_revision}
use Rattle.mpt_spec.specs.declared.pointer.Pointer.{Pointer}
use Rattle.mpt_spec.specs.declared.entry.IntEntry.{IntEntry}
use Rattle.mpt_spec.specs.declared.entry.Base.{Base}
use Rattle.mpt_spec.specs.declared.entry.Base.TheVariants as base
use Rattle.mpt_spec.specs.declared.entry.Ext.{Ext}
use Rattle.mpt_spec.specs.declared.entry.Ext.TheVariants as ext
use Rattle.mpt_spec.specs.declared.tables.Table.{Table}
use Rattle.mpt_spec.specs.declared.tables.Body.{Body}
use Rattle.mpt_spec.specs.declared.tables.Body.TheVariants as body
use Rattle.mpt_spec.specs.declared.tables.Tables.{Tables}

-- an interrupt entry of this type
abbrev pub interrupt_bytes : ℕ → IntEntry → List ℕ
interrupt_bytes n e = n ∷ e.kind ∷ to_le_bytes w16 e.flags ++ e.bus ∷ e.irq ∷ e.dest ∷ e.pin ∷ []

-- a base entry (figures 4-4 to 4-8)
abbrev pub base_bytes : Base → List ℕ
base_bytes (base.Processor e) = 0 ∷ e.apic ∷ e.version ∷ e.flags ∷ to_le_bytes w32 e.signature ++ to_le_bytes w32 e.features ++ e.reserved
base_bytes (base.Bus e) = 1 ∷ e.id ∷ e.name
base_bytes (base.IoApic e) = 2 ∷ e.id ∷ e.version ∷ e.flags ∷ to_le_bytes w32 e.address
base_bytes (base.IoInt e) = interrupt_bytes 3 e
base_bytes (base.LocalInt e) = interrupt_bytes 4 e

-- an extended entry (figures 4-9 to 4-11)
abbrev pub ext_bytes : Ext → List ℕ
ext_bytes (ext.Space e) = 128 ∷ 20 ∷ e.bus ∷ e.kind ∷ to_le_bytes w64 e.base ++ to_le_bytes w64 e.length
ext_bytes (ext.Hierarchy e) = 129 ∷ 8 ∷ e.bus ∷ e.info ∷ e.parent ∷ e.reserved
ext_bytes (ext.Modifier e) = 130 ∷ 8 ∷ e.bus ∷ e.flags ∷ to_le_bytes w32 e.ranges
ext_bytes (ext.Opaque e) = e.kind ∷ (2 + length e.rest) ∷ e.rest

-- bytes 40 to 43 of the header with this extended length and this extended checksum, or as they are kept at revision 1
abbrev pub header_end : Table → ℕ → ℕ → List ℕ
header_end t ext_len ext_checksum = by_revision t.revision t.old (to_le_bytes w16 ext_len ++ ext_checksum ∷ t.reserved ∷ [])

-- the header (figure 4-3) with these two lengths and these two checksums
abbrev pub header_bytes : Table → ℕ → ℕ → ℕ → ℕ → List ℕ
header_bytes t base_len ext_len checksum ext_checksum =
    codes "PCMP" ++ to_le_bytes w16 base_len ++ t.revision ∷ checksum ∷ t.oem ++ t.product ++ to_le_bytes w32 t.oem_table ++ to_le_bytes w16 t.oem_size
    ++ to_le_bytes w16 (length t.base) ++ to_le_bytes w32 t.local_address ++ header_end t ext_len ext_checksum

-- the base table with this checksum, before this extended part
abbrev pub base_table_bytes : Table → ℕ → List ℕ → List ℕ
base_table_bytes t checksum ext_part =
    let entries = flat_map base_bytes t.base in
    header_bytes t (44 + length entries) (length ext_part) checksum (checksum_of ext_part) ++ entries

-- a table: the base table and the extended part, with both checksums
abbrev pub table_bytes : Table → List ℕ
table_bytes t =
    let ext_part = flat_map ext_bytes t.ext in
    base_table_bytes t (checksum_of (base_table_bytes t 0 ext_part)) ext_part ++ ext_part

-- the bytes of a body: those of a table, or none for a default configuration
abbrev pub body_bytes : Body → List ℕ
body_bytes (body.Default n) = []
body_bytes (body.Listed t) = table_bytes t

-- a floating pointer (figure 4-2) with this checksum
abbrev pub pointer_with : Pointer → ℕ → List ℕ
pointer_with p checksum = codes "_MP_" ++ to_le_bytes w32 p.address ++ 1 ∷ p.revision ∷ checksum ∷ p.features

-- a floating pointer
abbrev pub pointer_bytes : Pointer → List ℕ
pointer_bytes p = pointer_with p (checksum_of (pointer_with p 0))

-- the image of 1 MiB that is written for the tables: all zero but the EBDA segment at 40Eh, which names their place, the
-- floating pointer there, and the bytes of the body at its address
unfoldable pub image_of : Tables → List ℕ
image_of tables =
    overlay (overlay (overlay (replicate 0x100000 0) 0x40E (to_le_bytes w16 (tables.at / 16))) tables.at (pointer_bytes tables.pointer)) tables.pointer.address (body_bytes tables.body)
