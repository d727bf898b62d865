-- The PCI IRQ routing table that says what a platform's entries say. It is this project's own: pins whose entries have one wire
-- get one link.
--     firsts same xs          of members that are the same the first alone
--     pin_entries p           the first entry of each pin; device_entries p of each device, wire_entries p of each wire of these
--     pir_of p                the table
--     IsMakeFault p f         why there is none in bytes
use Rattle.std.specs.Prelude.{◌≡◌, ℕ, ◌+◌, ◌*◌, ◌/◌, ◌%◌, ◌≤◌, ◌<◌, Bool, not, List, [], ◌∷◌, length, map, filter, position, Option, Some, None, option_map, unwrap_or}
use Rattle.mpt_spec.specs.declared.entry.IntEntry.{IntEntry}
use Rattle.mpt_route.specs.declared.platform.Platform.{Platform}
use Rattle.mpf_pir.specs.declared.pins.Pin.{Pin}
use Rattle.mpf_pir.specs.declared.pins.Wire.{Wire}
use Rattle.mpf_pir.specs.declared.making.MakeFault.{MakeFault}
use Rattle.mpf_pir.specs.declared.making.MakeFault.TheVariants as fault
use Rattle.mpf_pir.specs.declared.table.Slot.{Slot}
use Rattle.mpf_pir.specs.declared.table.Pir.{Pir}
use Rattle.mpf_pir.specs.Pins.{pin_of, wire_of, is_pin, is_device, is_wire, pci_ints, wire_at}

-- of members that are the same the first alone, in the order of first appearance
abbrev pub firsts : {E : Type 0} → (E → E → Bool) → List E → List E
firsts same [] = []
firsts same (x ∷ xs) = x ∷ filter (λ y. not (same x y)) (firsts same xs)

-- the first entry of each pin
abbrev pub pin_entries : Platform → List IntEntry
pin_entries p = firsts (λ e f. is_pin (pin_of e) (pin_of f)) (pci_ints p)

-- the first entry of each device
abbrev pub device_entries : Platform → List IntEntry
device_entries p = firsts (λ e f. is_device (pin_of e) (pin_of f)) (pci_ints p)

-- of the first entries of the pins the first of each wire
abbrev pub wire_entries : Platform → List IntEntry
wire_entries p = firsts (λ e f. is_wire (wire_of e) (wire_of f)) (pin_entries p)

-- the link of a wire: 1 plus its place among these, and 0 where there is no wire
abbrev pub link_among : List IntEntry → Option Wire → ℕ
link_among wires None = 0
link_among wires (Some w) = unwrap_or (option_map (λ place. 1 + place) (position (λ e. is_wire (wire_of e) w) wires)) 0

-- the link of a pin
abbrev pub link_of : Platform → Pin → ℕ
link_of p q = link_among (wire_entries p) (wire_at p q)

-- the slot of an entry's device
abbrev pub slot_of : Platform → IntEntry → Slot
slot_of p e =
    let device = e.irq / 4 % 32 in
    let link : ℕ → ℕ = λ n. link_of p (record { bus = e.bus; device = device; pin = n }) in
    record { bus = e.bus; device = 8 * device; links = link 0 ∷ link 1 ∷ link 2 ∷ link 3 ∷ []; irqs = 0 ∷ 0 ∷ 0 ∷ 0 ∷ []; number = 0; reserved = 0 }

-- the table: a slot for each device, all other fields 0
abbrev pub pir_of : Platform → Pir
pir_of p = record {
  router_bus = 0;
  router_function = 0;
  exclusive = 0;
  compatible = 0;
  miniport = 0;
  reserved = 0 ∷ 0 ∷ 0 ∷ 0 ∷ 0 ∷ 0 ∷ 0 ∷ 0 ∷ 0 ∷ 0 ∷ 0 ∷ [];
  slots = map (slot_of p) (device_entries p);
}

-- more than 4,093 slots, whose size no field could name; else more than 255 wires, for which there are no links
abbrev pub IsMakeFault : Platform → MakeFault → Type 0
IsMakeFault p (fault.ManySlots n) = (n ≡ length (device_entries p)) × (4093 < n)
IsMakeFault p (fault.ManyLinks n) = (length (device_entries p) ≤ 4093) × (n ≡ length (wire_entries p)) × (255 < n)
IsMakeFault p fault.NoMemory = ⊥
