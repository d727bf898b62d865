-- Each sentence of an audit rule over one entry, or two, is decided.
use Rattle.std.proofs.Common.{ℕ, ◌+◌, ◌/◌, ◌%◌, ◌^◌, List, replicate, inl}
use Rattle.std.specs.Prelude.{codes}
use Rattle.mpt_laws.proofs.EntryJudgment.{Decided, decided-eq, decided-list}
use Rattle.mpt_laws.proofs.Decisions.{never, both, all_three, all_four, not, at_most, below, contained}
use Rattle.mpt_spec.specs.declared.entry.IntEntry.{IntEntry}
use Rattle.mpt_spec.specs.declared.entry.Space.{Space}
use Rattle.mpt_spec.specs.declared.entry.Base.{Base}
use Rattle.mpt_spec.specs.declared.entry.Base.TheVariants as base
use Rattle.mpt_spec.specs.declared.entry.Ext.{Ext}
use Rattle.mpt_spec.specs.declared.entry.Ext.TheVariants as ext
use Rattle.mpt_spec.specs.Canonical.{base_type, HasClearBits, HasClearExtBits}
use Rattle.mpt_rules.specs.Entries.{IsBootProcessor, HasBootFlag, IsDisabledBoot, IsProcessorOf, IsIoApicOf, IsBusOf, IsEnabledIoApic, SharesProcessorId, SharesIoApicId, SharesIdWithProcessor, known_buses, IsKnownName, IsUnknownBusName, IsPciBus, HasTypeAbove, HasPinOutOfRange, IsSource, HasSameSource, HasSameSense, IsOnPinWithOtherSense, DiffersInSense, HasReservedExtValue, PassesTop, IsSoundRange, HasAddressesOf, MeetsRange, IsHierarchyOf}

-- ---- base entries

pub boot_processor : (e : Base) → Decided (IsBootProcessor e)
boot_processor (base.Processor e) = decided-eq (e.flags % 4) 3
boot_processor _ = never

pub boot_flag : (e : Base) → Decided (HasBootFlag e)
boot_flag (base.Processor e) = decided-eq (e.flags / 2 % 2) 1
boot_flag _ = never

pub disabled_boot : (e : Base) → Decided (IsDisabledBoot e)
disabled_boot (base.Processor e) = decided-eq (e.flags % 4) 2
disabled_boot _ = never

pub processor_of : (id : ℕ) (e : Base) → Decided (IsProcessorOf id e)
processor_of id (base.Processor e) = decided-eq e.apic id
processor_of id _ = never

pub io_apic_of : (id : ℕ) (e : Base) → Decided (IsIoApicOf id e)
io_apic_of id (base.IoApic e) = decided-eq e.id id
io_apic_of id _ = never

pub bus_of : (id : ℕ) (e : Base) → Decided (IsBusOf id e)
bus_of id (base.Bus e) = decided-eq e.id id
bus_of id _ = never

pub enabled_io_apic : (e : Base) → Decided (IsEnabledIoApic e)
enabled_io_apic (base.IoApic e) = decided-eq (e.flags % 2) 1
enabled_io_apic _ = never

pub shares_processor_id : (e f : Base) → Decided (SharesProcessorId e f)
shares_processor_id (base.Processor a) f = processor_of a.apic f
shares_processor_id _ f = never

pub shares_io_apic_id : (e f : Base) → Decided (SharesIoApicId e f)
shares_io_apic_id (base.IoApic a) f = io_apic_of a.id f
shares_io_apic_id _ f = never

pub shares_id_with_processor : (e f : Base) → Decided (SharesIdWithProcessor e f)
shares_id_with_processor (base.IoApic a) f = processor_of a.id f
shares_id_with_processor _ f = never

known_name : (name : List ℕ) → Decided (IsKnownName name)
known_name name = contained decided-list known_buses name

pub unknown_bus_name : (e : Base) → Decided (IsUnknownBusName e)
unknown_bus_name (base.Bus b) = not (known_name b.name)
unknown_bus_name _ = never

pub pci_bus : (e : Base) → Decided (IsPciBus e)
pci_bus (base.Bus b) = decided-list b.name (codes "PCI   ")
pci_bus _ = never

pub type_above : (e f : Base) → Decided (HasTypeAbove e f)
type_above e f = below (base_type e) (base_type f)

pub pin_out_of_range : (e : Base) → Decided (HasPinOutOfRange e)
pin_out_of_range (base.IoInt a) = below 23 a.pin
pin_out_of_range (base.LocalInt a) = below 1 a.pin
pin_out_of_range _ = never

source : (key : ℕ × ℕ × ℕ) (e : Base) → Decided (IsSource key e)
source key (base.IoInt b) = all_three (decided-eq b.kind key.0) (decided-eq b.bus key.1) (decided-eq b.irq key.2)
source key _ = never

pub same_source : (e f : Base) → Decided (HasSameSource e f)
same_source (base.IoInt a) f = source (a.kind, a.bus, a.irq) f
same_source _ f = never

same_sense : (a b : IntEntry) → Decided (HasSameSense a b)
same_sense a b = both (decided-eq a.kind b.kind) (decided-eq (a.flags % 16) (b.flags % 16))

on_pin_with_other_sense : (a : IntEntry) (e : Base) → Decided (IsOnPinWithOtherSense a e)
on_pin_with_other_sense a (base.IoInt b) = all_three (decided-eq b.dest a.dest) (decided-eq b.pin a.pin) (not (same_sense a b))
on_pin_with_other_sense a _ = never

pub differs_in_sense : (e f : Base) → Decided (DiffersInSense e f)
differs_in_sense (base.IoInt a) f = both (not (decided-eq a.dest 255)) (on_pin_with_other_sense a f)
differs_in_sense _ f = never

pub clear_bits : (e : Base) → Decided (HasClearBits e)
clear_bits (base.Processor e) = both (below e.flags 4) (decided-list e.reserved (replicate 8 0))
clear_bits (base.Bus e) = inl tt
clear_bits (base.IoApic e) = below e.flags 2
clear_bits (base.IoInt e) = below e.flags 16
clear_bits (base.LocalInt e) = below e.flags 16

-- ---- extended entries

pub clear_ext_bits : (e : Ext) → Decided (HasClearExtBits e)
clear_ext_bits (ext.Hierarchy e) = both (below e.info 2) (decided-list e.reserved (replicate 3 0))
clear_ext_bits (ext.Modifier e) = below e.flags 2
clear_ext_bits _ = inl tt

pub reserved_ext_value : (e : Ext) → Decided (HasReservedExtValue e)
reserved_ext_value (ext.Space e) = below 2 e.kind
reserved_ext_value (ext.Modifier e) = below 1 e.ranges
reserved_ext_value _ = never

pub passes_top : (e : Ext) → Decided (PassesTop e)
passes_top (ext.Space e) = both (below 0 e.length) (below (2 ^ 64) (e.base + e.length))
passes_top _ = never

sound_range : (a : Space) → Decided (IsSoundRange a)
sound_range a = both (below 0 a.length) (at_most (a.base + a.length) (2 ^ 64))

addresses_of : (a : Space) (e : Ext) → Decided (HasAddressesOf a e)
addresses_of a (ext.Space b) = all_four (sound_range b) (decided-eq b.kind a.kind) (below b.base (a.base + a.length)) (below a.base (b.base + b.length))
addresses_of a _ = never

pub meets_range : (e f : Ext) → Decided (MeetsRange e f)
meets_range (ext.Space a) f = both (sound_range a) (addresses_of a f)
meets_range _ f = never

pub hierarchy_of : (bus : ℕ) (e : Ext) → Decided (IsHierarchyOf bus e)
hierarchy_of bus (ext.Hierarchy e) = decided-eq e.bus bus
hierarchy_of bus _ = never
