-- The bytes that are written for an entry or a floating pointer are that entry or that pointer, wherever they stand.
use Rattle.std.proofs.Common.{◌≡◌, ℕ, ◌+◌, List, [], ◌∷◌, ◌++◌, length, sum, sym, refl, ◌∙◌, subst, arith}
use Rattle.std.specs.Prelude.{slice_index, codes}
use Rattle.std.specs.Int.{to_le_bytes, w32}
use Rattle.mpt_base.specs.Bytes.{part, number_at}
use Rattle.mpt_spec.specs.declared.pointer.Pointer.{Pointer}
use Rattle.mpt_spec.specs.declared.entry.Processor.{Processor}
use Rattle.mpt_spec.specs.declared.entry.Bus.{Bus}
use Rattle.mpt_spec.specs.declared.entry.IoApic.{IoApic}
use Rattle.mpt_spec.specs.declared.entry.IntEntry.{IntEntry}
use Rattle.mpt_spec.specs.declared.entry.Base.{Base}
use Rattle.mpt_spec.specs.declared.entry.Base.TheVariants as base
use Rattle.mpt_spec.specs.declared.entry.Space.{Space}
use Rattle.mpt_spec.specs.declared.entry.Hierarchy.{Hierarchy}
use Rattle.mpt_spec.specs.declared.entry.Modifier.{Modifier}
use Rattle.mpt_spec.specs.declared.entry.Opaque.{Opaque}
use Rattle.mpt_spec.specs.declared.entry.Ext.{Ext}
use Rattle.mpt_spec.specs.declared.entry.Ext.TheVariants as ext
use Rattle.mpt_spec.specs.Pointer.{IsFloatingPointer}
use Rattle.mpt_spec.specs.Entries.{IsProcessorAt, IsBusAt, IsIoApicAt, IsInterruptAt, IsBaseEntryAt}
use Rattle.mpt_spec.specs.Extended.{IsSpaceAt, IsHierarchyAt, IsModifierAt, IsOpaqueAt, IsExtEntryAt}
use Rattle.mpt_spec.specs.Canonical.{IsLawfulExt}
use Rattle.mpt_base.specs.Writing.{checksum_of}
use Rattle.mpt_spec.specs.Image.{base_bytes, ext_bytes, interrupt_bytes, pointer_with, pointer_bytes}
use Rattle.mpt_spec.specs.Values.{IsProcessorValue, IsBusValue, IsIoApicValue, IsInterruptValue, IsBaseValue, IsSpaceValue, IsHierarchyValue, IsModifierValue, IsExtValue, IsPointerValue}
use Rattle.mpt_spec.proofs.ByteLemmas.{slice_index-append, number_at-append, part-append, take-append_whole, take_whole, sum-cell, sealed, number_at-to_le_bytes_2, number_at-to_le_bytes_4, number_at-to_le_bytes_8}

module _ (before after : List ℕ) where
  -- the first byte behind some bytes, and the byte, the number and the part at a place behind them
  first : (bytes : List ℕ) → slice_index (before ++ bytes) (length before) ≡ slice_index bytes 0
  first bytes =
      let place : length before + 0 ≡ length before = omega arith in
      rw place at (slice_index-append before bytes 0)

  byte : (bytes : List ℕ) (i : ℕ) → slice_index bytes i ≡ slice_index (before ++ bytes) (length before + i)
  byte bytes i = sym (slice_index-append before bytes i)

  number : (n : ℕ) (bytes : List ℕ) (i x : ℕ) → number_at n bytes i ≡ x → x ≡ number_at n (before ++ bytes) (length before + i)
  number n bytes i x e = sym (number_at-append n before bytes i ∙ e)

  field : (bytes : List ℕ) (i n : ℕ) (xs : List ℕ) → part bytes i n ≡ xs → xs ≡ part (before ++ bytes) (length before + i) n
  field bytes i n xs e = sym (part-append before bytes i n ∙ e)

  processor-written : (e : Processor) → IsProcessorValue e → IsProcessorAt e (before ++ (base_bytes (base.Processor e) ++ after)) (length before)
  processor-written e v =
      let bytes : List ℕ = base_bytes (base.Processor e) ++ after in
      record {
        type_byte = first bytes;
        apic = byte bytes 1;
        version = byte bytes 2;
        flags = byte bytes 3;
        signature = number 4 bytes 4 e.signature (number_at-to_le_bytes_4 e.signature v.signature);
        features = number 4 bytes 8 e.features (number_at-to_le_bytes_4 e.features v.features);
        reserved = field bytes 12 8 e.reserved (take-append_whole 8 e.reserved after v.reserved.0);
      }

  bus-written : (e : Bus) → IsBusValue e → IsBusAt e (before ++ (base_bytes (base.Bus e) ++ after)) (length before)
  bus-written e v =
      let bytes : List ℕ = base_bytes (base.Bus e) ++ after in
      record { type_byte = first bytes; id = byte bytes 1; name = field bytes 2 6 e.name (take-append_whole 6 e.name after v.name.0) }

  io_apic-written : (e : IoApic) → IsIoApicValue e → IsIoApicAt e (before ++ (base_bytes (base.IoApic e) ++ after)) (length before)
  io_apic-written e v =
      let bytes : List ℕ = base_bytes (base.IoApic e) ++ after in
      record {
        type_byte = first bytes;
        id = byte bytes 1;
        version = byte bytes 2;
        flags = byte bytes 3;
        address = number 4 bytes 4 e.address (number_at-to_le_bytes_4 e.address v.address);
      }

  interrupt-written : (type_byte_is : ℕ) (e : IntEntry) → IsInterruptValue e → IsInterruptAt type_byte_is e (before ++ (interrupt_bytes type_byte_is e ++ after)) (length before)
  interrupt-written type_byte_is e v =
      let bytes : List ℕ = interrupt_bytes type_byte_is e ++ after in
      record {
        type_byte = first bytes;
        kind = byte bytes 1;
        flags = number 2 bytes 2 e.flags (number_at-to_le_bytes_2 e.flags v.flags);
        bus = byte bytes 4;
        irq = byte bytes 5;
        dest = byte bytes 6;
        pin = byte bytes 7;
      }

  base-written : (e : Base) → IsBaseValue e → IsBaseEntryAt e (before ++ (base_bytes e ++ after)) (length before)
  base-written (base.Processor e) v = processor-written e v
  base-written (base.Bus e) v = bus-written e v
  base-written (base.IoApic e) v = io_apic-written e v
  base-written (base.IoInt e) v = interrupt-written 3 e v
  base-written (base.LocalInt e) v = interrupt-written 4 e v

  space-written : (e : Space) → IsSpaceValue e → IsSpaceAt e (before ++ (ext_bytes (ext.Space e) ++ after)) (length before)
  space-written e v =
      let bytes : List ℕ = ext_bytes (ext.Space e) ++ after in
      record {
        type_byte = first bytes;
        length_byte = sym (byte bytes 1);
        bus = byte bytes 2;
        kind = byte bytes 3;
        base = number 8 bytes 4 e.base (number_at-to_le_bytes_8 e.base v.base);
        range = number 8 bytes 12 e.length (number_at-to_le_bytes_8 e.length v.range);
      }

  hierarchy-written : (e : Hierarchy) → IsHierarchyValue e → IsHierarchyAt e (before ++ (ext_bytes (ext.Hierarchy e) ++ after)) (length before)
  hierarchy-written e v =
      let bytes : List ℕ = ext_bytes (ext.Hierarchy e) ++ after in
      record {
        type_byte = first bytes;
        length_byte = sym (byte bytes 1);
        bus = byte bytes 2;
        info = byte bytes 3;
        parent = byte bytes 4;
        reserved = field bytes 5 3 e.reserved (take-append_whole 3 e.reserved after v.reserved.0);
      }

  modifier-written : (e : Modifier) → IsModifierValue e → IsModifierAt e (before ++ (ext_bytes (ext.Modifier e) ++ after)) (length before)
  modifier-written e v =
      let bytes : List ℕ = ext_bytes (ext.Modifier e) ++ after in
      record {
        type_byte = first bytes;
        length_byte = sym (byte bytes 1);
        bus = byte bytes 2;
        flags = byte bytes 3;
        ranges = number 4 bytes 4 e.ranges (number_at-to_le_bytes_4 e.ranges v.ranges);
      }

  opaque-written : (e : Opaque) → IsLawfulExt (ext.Opaque e) → IsOpaqueAt e (before ++ (ext_bytes (ext.Opaque e) ++ after)) (length before)
  opaque-written e lawful =
      let bytes : List ℕ = ext_bytes (ext.Opaque e) ++ after in
      record {
        type_byte = sym (first bytes);
        above = lawful.0;
        length_byte = sym (byte bytes 1);
        rest = field bytes 2 (length e.rest) e.rest (take-append_whole (length e.rest) e.rest after refl);
      }

  ext-written : (e : Ext) → IsExtValue e → IsLawfulExt e → IsExtEntryAt e (before ++ (ext_bytes e ++ after)) (length before)
  ext-written (ext.Space e) v lawful = space-written e v
  ext-written (ext.Hierarchy e) v lawful = hierarchy-written e v
  ext-written (ext.Modifier e) v lawful = modifier-written e v
  ext-written (ext.Opaque e) v lawful = opaque-written e lawful

-- the bytes of an entry are the entry, at the place behind what stands before them
pub IsBaseEntryAt-written : (e : Base) (before after : List ℕ) (at : ℕ) → IsBaseValue e → length before ≡ at → IsBaseEntryAt e (before ++ (base_bytes e ++ after)) at
IsBaseEntryAt-written e before after at v here = subst (λ x. IsBaseEntryAt e (before ++ (base_bytes e ++ after)) x) here (base-written before after e v)

pub IsExtEntryAt-written : (e : Ext) (before after : List ℕ) (at : ℕ) → IsExtValue e → IsLawfulExt e → length before ≡ at → IsExtEntryAt e (before ++ (ext_bytes e ++ after)) at
IsExtEntryAt-written e before after at v lawful here = subst (λ x. IsExtEntryAt e (before ++ (ext_bytes e ++ after)) x) here (ext-written before after e v lawful)

-- the bytes of a floating pointer are the floating pointer
pub IsFloatingPointer-written : (p : Pointer) → IsPointerValue p → IsFloatingPointer p (pointer_bytes p)
IsFloatingPointer-written p v = record {
  size = omega (arith, v.features.0);
  signature = refl;
  address = sym (number_at-to_le_bytes_4 p.address v.address);
  paragraphs = refl;
  revision = refl;
  features = sym (take_whole 5 p.features v.features.0);
  checksum = sealed (sum (pointer_with p 0)) (sum (pointer_bytes p)) (checksum_of (pointer_with p 0)) (sum-cell (codes "_MP_" ++ to_le_bytes w32 p.address ++ 1 ∷ p.revision ∷ []) p.features (checksum_of (pointer_with p 0))) refl;
}
