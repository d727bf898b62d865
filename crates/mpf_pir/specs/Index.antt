-- What private functions cite: pins, devices and wires by number, and the first entry of each.
use Rattle.std.specs.Prelude.{◌≡◌, ℕ, ◌==◌, ◌&&◌, ◌+◌, ◌*◌, ◌/◌, ◌%◌, ◌≤◌, ◌<◌, Bool, List, [], ◌∷◌, length, Option, position, find, option_map}
use Rattle.std.specs.List.{AllByRecursion}
use Rattle.mpt_spec.specs.declared.entry.IntEntry.{IntEntry}
use Rattle.mpt_route.specs.Index.{IsTableOf}
use Rattle.mpt_route.specs.declared.bus.BusKind.{BusKind}
use Rattle.mpf_pir.specs.declared.pins.By.{By}
use Rattle.mpf_pir.specs.declared.pins.By.TheVariants as by
use Rattle.mpt_route.specs.declared.platform.Platform.{Platform}
use Rattle.mpf_pir.specs.declared.pins.Wire.{Wire}
use Rattle.mpf_pir.specs.declared.table.Slot.{Slot}
use Rattle.mpf_pir.specs.declared.making.Wiring.{Wiring}
use Rattle.mpf_pir.specs.Pins.{wire_of, is_pci}
use Rattle.mpf_pir.specs.Made.{firsts, pin_entries, wire_entries, device_entries, link_among}

-- the entry is INT, and its bus, of this kind, is PCI
abbrev pub is_int_on : Option BusKind → IntEntry → Bool
is_int_on b e = (e.kind == 0) && is_pci b

-- the number of an entry's pin, device or wire, and how many there are
abbrev pub number_by : By → IntEntry → ℕ
number_by by.Pin e = 128 * e.bus + e.irq % 128
number_by by.Device e = 32 * e.bus + e.irq / 4 % 32
number_by by.Wire e = 256 * e.dest + e.pin

abbrev pub count_by : By → ℕ
count_by by.Pin = 32768
count_by by.Device = 8192
count_by by.Wire = 65536

-- two entries have the same number
abbrev pub is_same_by : By → IntEntry → IntEntry → Bool
is_same_by by e f = number_by by e == number_by by f

-- the place of each number's entry among these
abbrev pub IsPlaceTable : By → List IntEntry → List (Option ℕ) → Type 0
IsPlaceTable by found places = IsTableOf (count_by by) places (λ n. position (λ e. number_by by e == n) found)

-- the first entry of each number, and the place of each number's entry among them
pub record AreFirsts (by : By) (es found : List IntEntry) (places : List (Option ℕ)) : Type 0 where
  pub firsts_are : found ≡ firsts (is_same_by by) es
  pub table : IsPlaceTable by found places

-- the wire of the first of these entries whose pin has a number
abbrev pub wire_by : List IntEntry → ℕ → Option Wire
wire_by es n = option_map wire_of (find (λ e. number_by by.Pin e == n) es)

-- the entry's INTIN is a byte
abbrev pub HasBytePin : IntEntry → Type 0
HasBytePin e = e.pin < 256

-- what a table is made from: the first entries of the pins, of their wires and of the devices
pub record IsWiringOf (p : Platform) (w : Wiring) : Type 0 where
  pub pins : w.pins.entries.items ≡ pin_entries p
  pub pin_table : IsPlaceTable by.Pin w.pins.entries.items w.pins.places.items
  pub wires : w.wires.entries.items ≡ wire_entries p
  pub wire_table : IsPlaceTable by.Wire w.wires.entries.items w.wires.places.items
  pub bytes : AllByRecursion HasBytePin w.wires.entries.items
  pub devices : w.devices.items ≡ device_entries p
  pub few_devices : length w.devices.items ≤ length p.ints
  pub few_wires : length w.wires.entries.items ≤ length p.ints

-- the slot of an entry's device, with the wires of pins by their number
abbrev pub slot_with : List IntEntry → List IntEntry → IntEntry → Slot
slot_with pins wires e =
    let link : ℕ → ℕ = λ n. link_among wires (wire_by pins (4 * number_by by.Device e + n)) in
    record { bus = e.bus; device = 8 * (e.irq / 4 % 32); links = link 0 ∷ link 1 ∷ link 2 ∷ link 3 ∷ []; irqs = 0 ∷ 0 ∷ 0 ∷ 0 ∷ []; number = 0; reserved = 0 }
