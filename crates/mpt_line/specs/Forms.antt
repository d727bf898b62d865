-- The reading of a line of each form from the left: its value and what follows its line feed. Only private functions cite it.
use Rattle.std.specs.Prelude.{ℕ, ◌==◌, ◌&&◌, ◌||◌, not, nat_le, Bool, List, Option, slice_index, codes}
use Rattle.mpt_spec.specs.declared.entry.Processor.{Processor}
use Rattle.mpt_spec.specs.declared.entry.Bus.{Bus}
use Rattle.mpt_spec.specs.declared.entry.IoApic.{IoApic}
use Rattle.mpt_spec.specs.declared.entry.IntEntry.{IntEntry}
use Rattle.mpt_spec.specs.declared.entry.Base.{Base}
use Rattle.mpt_spec.specs.declared.entry.Base.TheVariants as base
use Rattle.mpt_spec.specs.declared.entry.Space.{Space}
use Rattle.mpt_spec.specs.declared.entry.Hierarchy.{Hierarchy}
use Rattle.mpt_spec.specs.declared.entry.Modifier.{Modifier}
use Rattle.mpt_spec.specs.declared.entry.Opaque.{Opaque}
use Rattle.mpt_spec.specs.declared.entry.Ext.{Ext}
use Rattle.mpt_spec.specs.declared.entry.Ext.TheVariants as ext
use Rattle.mpt_line.specs.declared.heads.PointerLine.{PointerLine}
use Rattle.mpt_line.specs.declared.heads.HeaderLine.{HeaderLine}
use Rattle.mpt_line.specs.declared.heads.HeaderEnd.{HeaderEnd}
use Rattle.mpt_line.specs.declared.heads.HeaderEnd.TheVariants as end
use Rattle.mpt_line.specs.Reading.{rest_in, field_in, bytes_field_in, quoted_field_in, after, both, ended, seen_as, checked, either}

unfoldable pub processor_in : List ℕ → Option (Processor × List ℕ)
processor_in = seen_as (λ v. record { apic = v.0; version = v.1.0; flags = v.1.1.0; signature = v.1.1.1.0; features = v.1.1.1.1.0; reserved = v.1.1.1.1.1 })
    (both (field_in (codes "processor id ") 2) (both (field_in (codes " version ") 2) (both (field_in (codes " flags ") 2)
    (both (field_in (codes " signature ") 8) (both (field_in (codes " features ") 8) (ended (bytes_field_in (codes " reserved ") 8)))))))

unfoldable pub bus_in : List ℕ → Option (Bus × List ℕ)
bus_in = seen_as (λ v. record { id = v.0; name = v.1 }) (both (field_in (codes "bus id ") 2) (ended (quoted_field_in (codes " name ") 6)))

unfoldable pub io_apic_in : List ℕ → Option (IoApic × List ℕ)
io_apic_in = seen_as (λ v. record { id = v.0; version = v.1.0; flags = v.1.1.0; address = v.1.1.1 })
    (both (field_in (codes "ioapic id ") 2) (both (field_in (codes " version ") 2) (both (field_in (codes " flags ") 2) (ended (field_in (codes " address ") 8)))))

unfoldable pub interrupt_in : List ℕ → List ℕ → Option (IntEntry × List ℕ)
interrupt_in word = seen_as (λ v. record { kind = v.0; flags = v.1.0; bus = v.1.1.0; irq = v.1.1.1.0; dest = v.1.1.1.1.0; pin = v.1.1.1.1.1 })
    (after word (both (field_in (codes " kind ") 2) (both (field_in (codes " flags ") 4) (both (field_in (codes " bus ") 2)
    (both (field_in (codes " irq ") 2) (both (field_in (codes " dest ") 2) (ended (field_in (codes " pin ") 2))))))))

-- a base entry
unfoldable pub base_in : List ℕ → Option (Base × List ℕ)
base_in = either (seen_as base.Processor processor_in) (either (seen_as base.Bus bus_in) (either (seen_as base.IoApic io_apic_in)
    (either (seen_as base.IoInt (interrupt_in (codes "ioint"))) (seen_as base.LocalInt (interrupt_in (codes "localint"))))))

unfoldable pub space_in : List ℕ → Option (Space × List ℕ)
space_in = seen_as (λ v. record { bus = v.0; kind = v.1.0; base = v.1.1.0; length = v.1.1.1 })
    (both (field_in (codes "space bus ") 2) (both (field_in (codes " kind ") 2) (both (field_in (codes " base ") 16) (ended (field_in (codes " length ") 16)))))

unfoldable pub hierarchy_in : List ℕ → Option (Hierarchy × List ℕ)
hierarchy_in = seen_as (λ v. record { bus = v.0; info = v.1.0; parent = v.1.1.0; reserved = v.1.1.1 })
    (both (field_in (codes "hierarchy bus ") 2) (both (field_in (codes " info ") 2) (both (field_in (codes " parent ") 2) (ended (bytes_field_in (codes " reserved ") 3)))))

unfoldable pub modifier_in : List ℕ → Option (Modifier × List ℕ)
modifier_in = seen_as (λ v. record { bus = v.0; flags = v.1.0; ranges = v.1.1 })
    (both (field_in (codes "modifier bus ") 2) (both (field_in (codes " flags ") 2) (ended (field_in (codes " ranges ") 8))))

abbrev pub is_right_opaque : Opaque → Bool
is_right_opaque e = nat_le 131 e.kind

unfoldable pub opaque_in : List ℕ → Option (Opaque × List ℕ)
opaque_in = checked is_right_opaque (seen_as (λ v. record { kind = v.0; rest = v.1 }) (both (field_in (codes "opaque kind ") 2) (after (codes " rest ") (ended rest_in))))

-- an extended entry
unfoldable pub ext_in : List ℕ → Option (Ext × List ℕ)
ext_in = either (seen_as ext.Space space_in) (either (seen_as ext.Hierarchy hierarchy_in) (either (seen_as ext.Modifier modifier_in) (seen_as ext.Opaque opaque_in)))

-- where the floating pointer is, and what it says, if it is right
abbrev pub is_right_pointer : PointerLine → Bool
is_right_pointer v = ((v.pointer.revision == 1) || (v.pointer.revision == 4)) && nat_le (slice_index v.pointer.features 0) 7 && not ((slice_index v.pointer.features 0 == 0) && (v.pointer.address == 0))

unfoldable pub pointer_in : List ℕ → Option (PointerLine × List ℕ)
pointer_in = checked is_right_pointer (seen_as (λ v. record { at = v.0; pointer = record { address = v.1.0; revision = v.1.1.0; features = v.1.1.1 } })
    (both (field_in (codes "pointer at ") 8) (both (field_in (codes " table ") 8) (both (field_in (codes " revision ") 2) (ended (bytes_field_in (codes " features ") 5))))))

-- the last field of the header
unfoldable pub end_in : List ℕ → Option (HeaderEnd × List ℕ)
end_in = either (seen_as end.Old (bytes_field_in (codes " old ") 4)) (seen_as end.Reserved (field_in (codes " reserved ") 2))

-- the last field of the header is that of its revision
abbrev pub is_end_of : HeaderEnd → ℕ → Bool
is_end_of (end.Reserved byte) revision = revision == 4
is_end_of (end.Old bytes) revision = revision == 1

-- the header, if its last field is that of its revision
abbrev pub is_right_header : HeaderLine → Bool
is_right_header h = is_end_of h.end h.revision

unfoldable pub header_in : List ℕ → Option (HeaderLine × List ℕ)
header_in = checked is_right_header (seen_as (λ v. record { revision = v.0; oem = v.1.0; product = v.1.1.0; oem_table = v.1.1.1.0; oem_size = v.1.1.1.1.0; local_address = v.1.1.1.1.1.0; end = v.1.1.1.1.1.1 })
    (both (field_in (codes "header revision ") 2) (both (quoted_field_in (codes " oem ") 8) (both (quoted_field_in (codes " product ") 12)
    (both (field_in (codes " oemtable ") 8) (both (field_in (codes " oemsize ") 4) (both (field_in (codes " local ") 8) (ended end_in))))))))
