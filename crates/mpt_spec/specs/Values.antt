-- The values of the types: in a definition a field is any number, so a law over every entry has as its premise that its
-- numbers fit their fields, a byte below 256 and so on (MultiProcessor Specification 1.4, figures 4-2 to 4-11).
--     IsBaseValue e, IsExtValue e, IsPointerValue p, IsTableValue t, IsTablesValue tables   the fields fit
use Rattle.std.specs.Prelude.{◌≡◌, ◌^◌, ◌<◌, length}
use Rattle.std.specs.List.{AllByRecursion}
use Rattle.mpt_base.specs.Bytes.{IsByteList}
use Rattle.mpt_spec.specs.declared.pointer.Pointer.{Pointer}
use Rattle.mpt_spec.specs.declared.entry.Processor.{Processor}
use Rattle.mpt_spec.specs.declared.entry.Bus.{Bus}
use Rattle.mpt_spec.specs.declared.entry.IoApic.{IoApic}
use Rattle.mpt_spec.specs.declared.entry.IntEntry.{IntEntry}
use Rattle.mpt_spec.specs.declared.entry.Base.{Base}
use Rattle.mpt_spec.specs.declared.entry.Base.TheVariants as base
use Rattle.mpt_spec.specs.declared.entry.Space.{Space}
use Rattle.mpt_spec.specs.declared.entry.Hierarchy.{Hierarchy}
use Rattle.mpt_spec.specs.declared.entry.Modifier.{Modifier}
use Rattle.mpt_spec.specs.declared.entry.Opaque.{Opaque}
use Rattle.mpt_spec.specs.declared.entry.Ext.{Ext}
use Rattle.mpt_spec.specs.declared.entry.Ext.TheVariants as ext
use Rattle.mpt_spec.specs.declared.tables.Table.{Table}
use Rattle.mpt_spec.specs.declared.tables.Body.{Body}
use Rattle.mpt_spec.specs.declared.tables.Body.TheVariants as body
use Rattle.mpt_spec.specs.declared.tables.Tables.{Tables}

-- a processor entry
pub record IsProcessorValue (e : Processor) : Type 0 where
  pub apic : e.apic < 256
  pub version : e.version < 256
  pub flags : e.flags < 256
  pub signature : e.signature < 2 ^ 32
  pub features : e.features < 2 ^ 32
  pub reserved : (length e.reserved ≡ 8) × IsByteList e.reserved

-- a bus entry
pub record IsBusValue (e : Bus) : Type 0 where
  pub id : e.id < 256
  pub name : (length e.name ≡ 6) × IsByteList e.name

-- an I/O APIC entry
pub record IsIoApicValue (e : IoApic) : Type 0 where
  pub id : e.id < 256
  pub version : e.version < 256
  pub flags : e.flags < 256
  pub address : e.address < 2 ^ 32

-- an interrupt entry
pub record IsInterruptValue (e : IntEntry) : Type 0 where
  pub kind : e.kind < 256
  pub flags : e.flags < 2 ^ 16
  pub bus : e.bus < 256
  pub irq : e.irq < 256
  pub dest : e.dest < 256
  pub pin : e.pin < 256

-- a base entry
abbrev pub IsBaseValue : Base → Type 0
IsBaseValue (base.Processor e) = IsProcessorValue e
IsBaseValue (base.Bus e) = IsBusValue e
IsBaseValue (base.IoApic e) = IsIoApicValue e
IsBaseValue (base.IoInt e) = IsInterruptValue e
IsBaseValue (base.LocalInt e) = IsInterruptValue e

-- a system address space mapping entry
pub record IsSpaceValue (e : Space) : Type 0 where
  pub bus : e.bus < 256
  pub kind : e.kind < 256
  pub base : e.base < 2 ^ 64
  pub range : e.length < 2 ^ 64

-- a bus hierarchy descriptor entry
pub record IsHierarchyValue (e : Hierarchy) : Type 0 where
  pub bus : e.bus < 256
  pub info : e.info < 256
  pub parent : e.parent < 256
  pub reserved : (length e.reserved ≡ 3) × IsByteList e.reserved

-- a compatibility bus address space modifier entry
pub record IsModifierValue (e : Modifier) : Type 0 where
  pub bus : e.bus < 256
  pub flags : e.flags < 256
  pub ranges : e.ranges < 2 ^ 32

-- an opaque entry
pub record IsOpaqueValue (e : Opaque) : Type 0 where
  pub kind : e.kind < 256
  pub rest : IsByteList e.rest

-- an extended entry
abbrev pub IsExtValue : Ext → Type 0
IsExtValue (ext.Space e) = IsSpaceValue e
IsExtValue (ext.Hierarchy e) = IsHierarchyValue e
IsExtValue (ext.Modifier e) = IsModifierValue e
IsExtValue (ext.Opaque e) = IsOpaqueValue e

-- a floating pointer
pub record IsPointerValue (p : Pointer) : Type 0 where
  pub address : p.address < 2 ^ 32
  pub revision : p.revision < 256
  pub features : (length p.features ≡ 5) × IsByteList p.features

-- a configuration table
pub record IsTableValue (t : Table) : Type 0 where
  pub revision : t.revision < 256
  pub oem : (length t.oem ≡ 8) × IsByteList t.oem
  pub product : (length t.product ≡ 12) × IsByteList t.product
  pub oem_table : t.oem_table < 2 ^ 32
  pub oem_size : t.oem_size < 2 ^ 16
  pub local_address : t.local_address < 2 ^ 32
  pub reserved : t.reserved < 256
  pub old : (length t.old ≡ 4) × IsByteList t.old
  pub base : AllByRecursion IsBaseValue t.base
  pub ext : AllByRecursion IsExtValue t.ext

-- a body
abbrev pub IsBodyValue : Body → Type 0
IsBodyValue (body.Default n) = n < 256
IsBodyValue (body.Listed t) = IsTableValue t

-- tables
pub record IsTablesValue (tables : Tables) : Type 0 where
  pub at : tables.at < 2 ^ 64
  pub pointer : IsPointerValue tables.pointer
  pub body : IsBodyValue tables.body
