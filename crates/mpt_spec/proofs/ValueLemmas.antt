-- What stands in an image of bytes has fields that fit.
use Rattle.std.proofs.Common.{◌≡◌, ℕ, suc, ◌+◌, ◌^◌, ◌<◌, ◌≤◌, List, [], ◌∷◌, length, replicate, sym, refl, ap, ◌∙◌, subst, arith}
use Rattle.std.specs.Prelude.{slice_index}
use Rattle.std.specs.List.{AllByRecursion}
use Rattle.mpt_base.specs.Bytes.{part, number_at}
use Rattle.mpt_spec.specs.declared.pointer.Pointer.{Pointer}
use Rattle.mpt_spec.specs.declared.entry.IntEntry.{IntEntry}
use Rattle.mpt_spec.specs.declared.entry.Base.{Base}
use Rattle.mpt_spec.specs.declared.entry.Base.TheVariants as base
use Rattle.mpt_spec.specs.declared.entry.Ext.{Ext}
use Rattle.mpt_spec.specs.declared.entry.Ext.TheVariants as ext
use Rattle.mpt_spec.specs.declared.tables.Table.{Table}
use Rattle.mpt_spec.specs.declared.tables.Body.{Body}
use Rattle.mpt_spec.specs.declared.tables.Body.TheVariants as body
use Rattle.mpt_spec.specs.declared.tables.Tables.{Tables}
use Rattle.mpt_spec.specs.Pointer.{IsFloatingPointer}
use Rattle.mpt_spec.specs.Entries.{IsInterruptAt, IsBaseEntryAt, AreBaseEntries, base_length}
use Rattle.mpt_spec.specs.Extended.{IsExtEntryAt, AreExtEntries, ext_length}
use Rattle.mpt_spec.specs.Table.{revision_at, base_end, ext_end, IsConfigurationTable, IsBodyOf, Describes}
use Rattle.mpt_base.specs.Bytes.{IsByteList}
use Rattle.mpt_spec.specs.Values.{IsInterruptValue, IsBaseValue, IsExtValue, IsPointerValue, IsTableValue, IsBodyValue, IsTablesValue}
use Rattle.mpt_spec.proofs.EntryLemmas.{AreBaseEntries-le, AreExtEntries-le}
use Rattle.mpt_spec.proofs.RevisionLemmas.{by_revision-both}
use Rattle.mpt_spec.proofs.ByteLemmas.{zeros}
use Rattle.mpt_spec.proofs.SpellingLemmas.{length-part, IsByteList-part}
use Rattle.mpt_spec.proofs.WellFormedLemmas.{Describes-below_4_gib}

module _ (image : List ℕ) (b : IsByteList image) where
  byte_value : (x at : ℕ) → x ≡ slice_index image at → x < 256
  byte_value x at e = omega (arith, e, b at)

  value_2 : (x at : ℕ) → x ≡ number_at 2 image at → x < 2 ^ 16
  value_2 x at e = omega (arith, e, b at, b (suc at))

  value_4 : (x at : ℕ) → x ≡ number_at 4 image at → x < 2 ^ 32
  value_4 x at e = omega (arith, e, b at, b (suc at), b (suc (suc at)), b (suc (suc (suc at))))

  value_8 : (x at : ℕ) → x ≡ number_at 8 image at → x < 2 ^ 64
  value_8 x at e =
      omega (
        arith,
        e,
        b at,
        b (suc at),
        b (suc (suc at)),
        b (suc (suc (suc at))),
        b (suc (suc (suc (suc at)))),
        b (suc (suc (suc (suc (suc at))))),
        b (suc (suc (suc (suc (suc (suc at)))))),
        b (suc (suc (suc (suc (suc (suc (suc at))))))),
      )

  part_value : (xs : List ℕ) (at n : ℕ) → xs ≡ part image at n → at + n ≤ length image → (length xs ≡ n) × IsByteList xs
  part_value xs at n e h = (ap length e ∙ length-part image at n h, subst (λ x. IsByteList x) (sym e) (IsByteList-part image at n b))

  interrupt_value : (n : ℕ) (e : IntEntry) (at : ℕ) → IsInterruptAt n e image at → IsInterruptValue e
  interrupt_value n e at h = record {
    kind = byte_value e.kind (at + 1) h.kind;
    flags = value_2 e.flags (at + 2) h.flags;
    bus = byte_value e.bus (at + 4) h.bus;
    irq = byte_value e.irq (at + 5) h.irq;
    dest = byte_value e.dest (at + 6) h.dest;
    pin = byte_value e.pin (at + 7) h.pin;
  }

  base_value : (e : Base) (at : ℕ) → at + base_length e ≤ length image → IsBaseEntryAt e image at → IsBaseValue e
  base_value (base.Processor e) at i h = record {
    apic = byte_value e.apic (at + 1) h.apic;
    version = byte_value e.version (at + 2) h.version;
    flags = byte_value e.flags (at + 3) h.flags;
    signature = value_4 e.signature (at + 4) h.signature;
    features = value_4 e.features (at + 8) h.features;
    reserved = part_value e.reserved (at + 12) 8 h.reserved (omega arith);
  }
  base_value (base.Bus e) at i h = record { id = byte_value e.id (at + 1) h.id; name = part_value e.name (at + 2) 6 h.name (omega arith) }
  base_value (base.IoApic e) at i h = record {
    id = byte_value e.id (at + 1) h.id;
    version = byte_value e.version (at + 2) h.version;
    flags = byte_value e.flags (at + 3) h.flags;
    address = value_4 e.address (at + 4) h.address;
  }
  base_value (base.IoInt e) at i h = interrupt_value 3 e at h
  base_value (base.LocalInt e) at i h = interrupt_value 4 e at h

  ext_value : (e : Ext) (at : ℕ) → at + ext_length e ≤ length image → IsExtEntryAt e image at → IsExtValue e
  ext_value (ext.Space e) at i h = record {
    bus = byte_value e.bus (at + 2) h.bus;
    kind = byte_value e.kind (at + 3) h.kind;
    base = value_8 e.base (at + 4) h.base;
    range = value_8 e.length (at + 12) h.range;
  }
  ext_value (ext.Hierarchy e) at i h = record {
    bus = byte_value e.bus (at + 2) h.bus;
    info = byte_value e.info (at + 3) h.info;
    parent = byte_value e.parent (at + 4) h.parent;
    reserved = part_value e.reserved (at + 5) 3 h.reserved (omega arith);
  }
  ext_value (ext.Modifier e) at i h = record {
    bus = byte_value e.bus (at + 2) h.bus;
    flags = byte_value e.flags (at + 3) h.flags;
    ranges = value_4 e.ranges (at + 4) h.ranges;
  }
  ext_value (ext.Opaque e) at i h = record { kind = byte_value e.kind at h.type_byte; rest = (part_value e.rest (at + 2) (length e.rest) h.rest (omega arith)).1 }

  base_values : (es : List Base) (from to : ℕ) → to ≤ length image → AreBaseEntries es image from to → AllByRecursion IsBaseValue es
  base_values [] from to i h = tt
  base_values (e ∷ es) from to i h =
      let last : from + base_length e ≤ to = AreBaseEntries-le es image (from + base_length e) to h.1 in
      (base_value e from (omega arith) h.0, base_values es (from + base_length e) to i h.1)

  ext_values : (es : List Ext) (from to : ℕ) → to ≤ length image → AreExtEntries es image from to → AllByRecursion IsExtValue es
  ext_values [] from to i h = tt
  ext_values (e ∷ es) from to i h =
      let last : from + ext_length e ≤ to = AreExtEntries-le es image (from + ext_length e) to h.1 in
      (ext_value e from (omega arith) h.0, ext_values es (from + ext_length e) to i h.1)

  table_value : (t : Table) (at : ℕ) → IsConfigurationTable t image at → IsTableValue t
  table_value t at c =
      let header : at + 44 ≤ length image = omega (arith, c.inside.base.header, c.inside.base.inside) in
      record {
        revision = byte_value t.revision (at + 6) c.header.revision;
        oem = part_value t.oem (at + 8) 8 c.header.oem (omega arith);
        product = part_value t.product (at + 16) 12 c.header.product (omega arith);
        oem_table = value_4 t.oem_table (at + 28) c.header.oem_table;
        oem_size = value_2 t.oem_size (at + 32) c.header.oem_size;
        local_address = value_4 t.local_address (at + 36) c.header.local_address;
        reserved = subst (λ (n : ℕ). n < 256) (sym c.header.reserved) (by_revision-both (λ (n : ℕ). n < 256) (revision_at image at) 0 (slice_index image (at + 43)) (omega arith) (b (at + 43)));
        old = subst (λ (xs : List ℕ). (length xs ≡ 4) × IsByteList xs) (sym c.header.old)
            (by_revision-both (λ (xs : List ℕ). (length xs ≡ 4) × IsByteList xs) (revision_at image at) (part image (at + 40) 4) (replicate 4 0) (part_value (part image (at + 40) 4) (at + 40) 4 refl (omega arith)) (zeros 4));
        base = base_values t.base (at + 44) (base_end image at) c.inside.base.inside c.base;
        ext = ext_values t.ext (base_end image at) (ext_end image at) c.inside.inside c.ext;
      }

  body_value : (is : Body) (p : Pointer) → IsBodyOf is p image → IsBodyValue is
  body_value (body.Default n) p h = omega (arith, h.2)
  body_value (body.Listed t) p h = table_value t p.address h.2

-- a table that stands in an image of bytes has fields that fit
pub IsConfigurationTable-value : (t : Table) (image : List ℕ) (at : ℕ) → IsByteList image → IsConfigurationTable t image at → IsTableValue t
IsConfigurationTable-value t image at b c = table_value image b t at c

pub IsFloatingPointer-value : (p : Pointer) (bytes : List ℕ) → IsByteList bytes → IsFloatingPointer p bytes → IsPointerValue p
IsFloatingPointer-value p bytes b h = record {
  address = value_4 bytes b p.address 4 h.address;
  revision = byte_value bytes b p.revision 9 h.revision;
  features = part_value bytes b p.features 11 5 h.features (omega (arith, h.size));
}

-- tables that an image of bytes describes have fields that fit
pub Describes-value : (image : List ℕ) (tables : Tables) → IsByteList image → Describes image tables → IsTablesValue tables
Describes-value image tables b d = record {
  at = omega (arith, Describes-below_4_gib image tables b d);
  pointer = IsFloatingPointer-value tables.pointer (part image tables.at 16) (IsByteList-part image tables.at 16 b) d.tables_there.pointer;
  body = body_value image b tables.body tables.pointer d.tables_there.body;
}
