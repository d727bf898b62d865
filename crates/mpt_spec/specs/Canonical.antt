-- Well formed, canonical and fitting tables, and the canonical form. What is reserved is set to zero (MultiProcessor
-- Specification 1.4, sections 4.1 to 4.4); that and the order of types are this project's own idea of canonical.
--     base_size t, ext_size t      the bytes of the base table and of the extended part
--     IsWellFormed tables          their fields go with one another, as in every image
--     canonical_of tables          base entries in the order of their types, reserved bits zero
--     raised_of tables             the tables at revision 4
--     IsCanonical tables           reserved bits are zero, and no base entry has a type below that of the entry before it
--     FitsInImage tables           they have a place in an image of 1 MiB
use Rattle.std.specs.Prelude.{◌≡◌, ◌≢◌, ◌==◌, ℕ, ◌+◌, ◌*◌, ◌/◌, ◌%◌, ◌≤◌, ◌<◌, ◌⊎◌, List, [], ◌∷◌, length, map, filter, sum_by, slice_index, replicate, ⊤}
use Rattle.std.specs.List.{AllByRecursion, flat_map}
use Rattle.mpt_spec.specs.declared.pointer.Pointer.{Pointer}
use Rattle.mpt_spec.specs.declared.entry.Base.{Base}
use Rattle.mpt_spec.specs.declared.entry.Base.TheVariants as base
use Rattle.mpt_spec.specs.declared.entry.Ext.{Ext}
use Rattle.mpt_spec.specs.declared.entry.Ext.TheVariants as ext
use Rattle.mpt_spec.specs.declared.tables.Table.{Table}
use Rattle.mpt_spec.specs.declared.tables.Body.{Body}
use Rattle.mpt_spec.specs.declared.tables.Body.TheVariants as body
use Rattle.mpt_spec.specs.declared.tables.Tables.{Tables}
use Rattle.mpt_spec.specs.Revision.{IsKnownRevision, by_revision}
use Rattle.mpt_spec.specs.Entries.{base_length}
use Rattle.mpt_spec.specs.Extended.{ext_length}
use Rattle.mpt_spec.specs.Table.{default_number}

-- the bytes of the base table, the header included
abbrev pub base_size : Table → ℕ
base_size t = 44 + sum_by base_length t.base

-- the bytes of the extended part
abbrev pub ext_size : Table → ℕ
ext_size t = sum_by ext_length t.ext

-- the bytes of the block: the base table and the extended part, none for a default configuration
abbrev pub block_size : Body → ℕ
block_size (body.Default n) = 0
block_size (body.Listed t) = base_size t + ext_size t

-- an extended entry has one spelling: the type and the length of an opaque one are lawful
abbrev pub IsLawfulExt : Ext → Type 0
IsLawfulExt (ext.Opaque e) = (131 ≤ e.kind) × (e.kind ≤ 255) × (length e.rest ≤ 253)
IsLawfulExt _ = ⊤

-- a table of revision 4 has no bytes 40 to 43 of revision 1; one of revision 1 has no reserved byte and no extended entries
abbrev pub HasFieldsOfRevision : Table → Type 0
HasFieldsOfRevision t = ((t.revision ≡ 4) × (t.old ≡ replicate 4 0)) ⊎ ((t.revision ≡ 1) × (t.reserved ≡ 0) × (t.ext ≡ []))

-- the table has the fields of its revision, lawful entries and lengths that 16 bits can say
pub record IsWellFormedTable (t : Table) : Type 0 where
  pub revision : HasFieldsOfRevision t
  pub lawful : AllByRecursion IsLawfulExt t.ext
  pub base_fits : base_size t ≤ 65535
  pub ext_fits : ext_size t ≤ 65535

-- feature byte 1 says the number of a default configuration, or 0 with the address of a well formed table
abbrev pub IsWellFormedBody : Body → Pointer → Type 0
IsWellFormedBody (body.Default n) p = (default_number p ≡ n) × (1 ≤ n) × (n ≤ 7)
IsWellFormedBody (body.Listed t) p = (default_number p ≡ 0) × (p.address ≢ 0) × IsWellFormedTable t

-- the tables have a known revision, a body as the floating pointer says, and their place on a boundary of 16 bytes. The tables
-- of every image are so. Not all such tables have an image: the table's address may be the place of the floating pointer.
pub record IsWellFormed (tables : Tables) : Type 0 where
  pub revision : IsKnownRevision tables.pointer.revision
  pub body : IsWellFormedBody tables.body tables.pointer
  pub paragraph : tables.at % 16 ≡ 0

-- the floating pointer without its reserved bits: bits 0 to 5 of feature byte 2, and feature bytes 3 to 5
abbrev pub canonical_pointer : Pointer → Pointer
canonical_pointer p = record p { features = slice_index p.features 0 ∷ 64 * (slice_index p.features 1 / 64) ∷ 0 ∷ 0 ∷ 0 ∷ [] }

-- a base entry without its reserved bits
abbrev pub canonical_base : Base → Base
canonical_base (base.Processor e) = base.Processor (record e { flags = e.flags % 4; reserved = replicate 8 0 })
canonical_base (base.Bus e) = base.Bus e
canonical_base (base.IoApic e) = base.IoApic (record e { flags = e.flags % 2 })
canonical_base (base.IoInt e) = base.IoInt (record e { flags = e.flags % 16 })
canonical_base (base.LocalInt e) = base.LocalInt (record e { flags = e.flags % 16 })

-- an extended entry without its reserved bits
abbrev pub canonical_ext : Ext → Ext
canonical_ext (ext.Space e) = ext.Space e
canonical_ext (ext.Hierarchy e) = ext.Hierarchy (record e { info = e.info % 2; reserved = replicate 3 0 })
canonical_ext (ext.Modifier e) = ext.Modifier (record e { flags = e.flags % 2 })
canonical_ext (ext.Opaque e) = ext.Opaque e

-- the type byte of a base entry
abbrev pub base_type : Base → ℕ
base_type (base.Processor e) = 0
base_type (base.Bus e) = 1
base_type (base.IoApic e) = 2
base_type (base.IoInt e) = 3
base_type (base.LocalInt e) = 4

-- the entries of type 0 in their order, then those of types 1, 2, 3 and 4
abbrev pub in_type_order : List Base → List Base
in_type_order es = flat_map (λ n. filter (λ e. base_type e == n) es) (0 ∷ 1 ∷ 2 ∷ 3 ∷ 4 ∷ [])

-- a table without reserved bits, byte 43 of the header or at revision 1 its bytes 40 to 43 among them, its base entries in the
-- order of their types
abbrev pub canonical_table : Table → Table
canonical_table t = record t {
  reserved = by_revision t.revision t.reserved 0;
  old = by_revision t.revision (replicate 4 0) t.old;
  base = in_type_order (map canonical_base t.base);
  ext = map canonical_ext t.ext;
}

-- a body without reserved bits, its base entries in the order of their types
abbrev pub canonical_body : Body → Body
canonical_body (body.Default n) = body.Default n
canonical_body (body.Listed t) = body.Listed (canonical_table t)

-- the canonical form of the tables
abbrev pub canonical_of : Tables → Tables
canonical_of tables = record tables { pointer = canonical_pointer tables.pointer; body = canonical_body tables.body }

-- a body at revision 4; what one of revision 1 has in bytes 40 to 43 is given up
abbrev pub raised_body : Body → Body
raised_body (body.Default n) = body.Default n
raised_body (body.Listed t) = body.Listed (record t { revision = 4; old = by_revision t.revision (replicate 4 0) t.old })

-- the tables with both revisions 4
abbrev pub raised_of : Tables → Tables
raised_of tables = record tables { pointer = record tables.pointer { revision = 4 }; body = raised_body tables.body }

-- a floating pointer has no reserved bit: bits 0 to 5 of feature byte 2, and feature bytes 3 to 5
abbrev pub HasClearPointerBits : Pointer → Type 0
HasClearPointerBits p = (slice_index p.features 1 % 64 ≡ 0) × (slice_index p.features 2 ≡ 0) × (slice_index p.features 3 ≡ 0) × (slice_index p.features 4 ≡ 0)

-- a base entry has no reserved bit
abbrev pub HasClearBits : Base → Type 0
HasClearBits (base.Processor e) = (e.flags < 4) × (e.reserved ≡ replicate 8 0)
HasClearBits (base.Bus e) = ⊤
HasClearBits (base.IoApic e) = e.flags < 2
HasClearBits (base.IoInt e) = e.flags < 16
HasClearBits (base.LocalInt e) = e.flags < 16

-- an extended entry has no reserved bit
abbrev pub HasClearExtBits : Ext → Type 0
HasClearExtBits (ext.Hierarchy e) = (e.info < 2) × (e.reserved ≡ replicate 3 0)
HasClearExtBits (ext.Modifier e) = e.flags < 2
HasClearExtBits _ = ⊤

-- no base entry has a type below that of the entry before it
abbrev pub IsInTypeOrder : List Base → Type 0
IsInTypeOrder [] = ⊤
IsInTypeOrder (e ∷ []) = ⊤
IsInTypeOrder (e ∷ f ∷ es) = (base_type e ≤ base_type f) × IsInTypeOrder (f ∷ es)

-- the header has no reserved bit: byte 43, or at revision 1 bytes 40 to 43
abbrev pub HasClearHeader : Table → Type 0
HasClearHeader t = (t.revision ≡ 1 → t.old ≡ replicate 4 0) × (t.revision ≢ 1 → t.reserved ≡ 0)

-- a body has no reserved bit, and its base entries are in the order of their types
abbrev pub IsCanonicalBody : Body → Type 0
IsCanonicalBody (body.Default n) = ⊤
IsCanonicalBody (body.Listed t) = HasClearHeader t × AllByRecursion HasClearBits t.base × IsInTypeOrder t.base × AllByRecursion HasClearExtBits t.ext

-- reserved bits are zero, and base entries are in the order of their types
pub record IsCanonical (tables : Tables) : Type 0 where
  pub pointer : HasClearPointerBits tables.pointer
  pub body : IsCanonicalBody tables.body

-- a block lies above the words of the search and below 1 MiB, and doesn't meet the floating pointer
pub record HasPlaceFor (size address at : ℕ) : Type 0 where
  pub low : 0x500 ≤ address
  pub high : address + size ≤ 0x100000
  pub apart : (address + size ≤ at) ⊎ (at + 16 ≤ address)

-- where a body has a block, there is a place for it
abbrev pub HasBlockPlace : Body → ℕ → ℕ → Type 0
HasBlockPlace (body.Default n) address at = ⊤
HasBlockPlace (body.Listed t) address at = HasPlaceFor (base_size t + ext_size t) address at

-- the tables have a place in an image of 1 MiB
pub record FitsInImage (tables : Tables) : Type 0 where
  pub well_formed : IsWellFormed tables
  pub low : 0x500 ≤ tables.at
  pub high : tables.at ≤ 0xFFFF0
  pub block : HasBlockPlace tables.body tables.pointer.address tables.at
