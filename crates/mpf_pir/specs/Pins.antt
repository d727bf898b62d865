-- The interrupt pins of PCI devices that a platform's entries speak of (MultiProcessor Specification 1.4, section 4.3.4 and
-- appendix D.3). PCI bus numbers are taken as bus ids.
--     pin_of e, wire_of e     the pin and the wire of an entry
--     pci_ints p              the INT entries whose bus is PCI
--     wire_at p q             the wire of a pin, none where no entry speaks of it
use Rattle.std.specs.Prelude.{ℕ, ◌==◌, ◌&&◌, ◌/◌, ◌%◌, Bool, true, false, List, Option, Some, filter, find, option_map}
use Rattle.mpt_spec.specs.declared.entry.Bus.{Bus}
use Rattle.mpt_spec.specs.declared.entry.IntEntry.{IntEntry}
use Rattle.mpt_route.specs.declared.bus.BusKind.{BusKind}
use Rattle.mpt_route.specs.declared.bus.BusKind.TheVariants as bus
use Rattle.mpt_route.specs.declared.platform.Platform.{Platform}
use Rattle.mpt_route.specs.Routes.{bus_kind_in}
use Rattle.mpf_pir.specs.declared.pins.Pin.{Pin}
use Rattle.mpf_pir.specs.declared.pins.Wire.{Wire}

-- the pin of an entry whose bus is PCI: the device in bits 2 to 6 of the IRQ, the pin in bits 0 to 1
abbrev pub pin_of : IntEntry → Pin
pin_of e = record { bus = e.bus; device = e.irq / 4 % 32; pin = e.irq % 4 }

-- the wire of an entry: its destination and its INTIN
abbrev pub wire_of : IntEntry → Wire
wire_of e = record { dest = e.dest; pin = e.pin }

-- two pins are one; they are of one device; two wires are one
abbrev pub is_pin : Pin → Pin → Bool
is_pin q r = (q.bus == r.bus) && (q.device == r.device) && (q.pin == r.pin)

abbrev pub is_device : Pin → Pin → Bool
is_device q r = (q.bus == r.bus) && (q.device == r.device)

abbrev pub is_wire : Wire → Wire → Bool
is_wire w v = (w.dest == v.dest) && (w.pin == v.pin)

-- a known bus is PCI
abbrev pub is_pci : Option BusKind → Bool
is_pci (Some bus.Pci) = true
is_pci _ = false

-- a bus id is that of a PCI bus, by the first entry with it
abbrev pub is_pci_in : List Bus → ℕ → Bool
is_pci_in buses id = is_pci (bus_kind_in buses id)

-- the entry is INT and its bus is PCI
abbrev pub is_on_pci : Platform → IntEntry → Bool
is_on_pci p e = (e.kind == 0) && is_pci_in p.buses e.bus

-- these entries, in table order: their pins are those of the platform
abbrev pub pci_ints : Platform → List IntEntry
pci_ints p = filter (is_on_pci p) p.ints

-- the wire of a pin, by its first entry
abbrev pub wire_at : Platform → Pin → Option Wire
wire_at p q = option_map wire_of (find (λ e. is_pin (pin_of e) q) (pci_ints p))
