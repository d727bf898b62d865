-- Where a PCI IRQ routing table and a platform differ: a pin of the one alone, or two pins with one link and two wires.
--     link_at t q               the link with which the table connects a pin, none where it doesn't
--     IsOdd p t q why           the pin is odd for this reason
--     IsDifference p t d        the difference is one
--     AreDifferencesOf p t ds   these are the differences, each once, in order
use Rattle.std.specs.Prelude.{◌≡◌, ◌≢◌, ◌==◌, ◌&&◌, ℕ, zero, suc, ◌/◌, ◌%◌, ◌<◌, ◌⊎◌, Bool, List, [], ◌∷◌, Option, Some, None, find, option_map, slice_index, ⊤}
use Rattle.std.specs.List.{Contains}
use Rattle.mpt_route.specs.declared.platform.Platform.{Platform}
use Rattle.mpf_pir.specs.declared.pins.Pin.{Pin}
use Rattle.mpf_pir.specs.declared.pins.Wire.{Wire}
use Rattle.mpf_pir.specs.declared.table.Slot.{Slot}
use Rattle.mpf_pir.specs.declared.table.Pir.{Pir}
use Rattle.mpf_pir.specs.declared.comparing.Odd.{Odd}
use Rattle.mpf_pir.specs.declared.comparing.Odd.TheVariants as odd
use Rattle.mpf_pir.specs.declared.comparing.Difference.{Difference}
use Rattle.mpf_pir.specs.Pins.{wire_at}

-- a pin has a bus, a device and a pin in range
pub record IsPin (q : Pin) : Type 0 where
  pub bus : q.bus < 256
  pub device : q.device < 32
  pub pin : q.pin < 4

-- by bus, then device, then pin
abbrev pub Precedes : Pin → Pin → Type 0
Precedes q r = (q.bus < r.bus) ⊎ ((q.bus ≡ r.bus) × ((q.device < r.device) ⊎ ((q.device ≡ r.device) × (q.pin < r.pin))))

-- the slot is that of the pin's bus and device; the device is in bits 7 to 3 of its byte
abbrev pub is_slot_of : Pin → Slot → Bool
is_slot_of q s = (s.bus == q.bus) && (s.device / 8 % 32 == q.device)

-- a link, unless it is 0
abbrev pub connected : Option ℕ → Option ℕ
connected None = None
connected (Some zero) = None
connected (Some (suc n)) = Some (suc n)

-- the link of a pin, by the first slot of its bus and device
abbrev pub link_at : Pir → Pin → Option ℕ
link_at t q = connected (option_map (λ s. slice_index s.links q.pin) (find (is_slot_of q) t.slots))

-- an earlier pin of both has this link and another wire
pub record HasOtherWireBefore (p : Platform) (t : Pir) (q : Pin) (link : ℕ) (wire : Wire) : Type 0 where
  pub other : Pin
  pub is_pin : IsPin other
  pub before : Precedes other q
  pub link_same : link_at t other ≡ Some link
  pub its_wire : Wire
  pub has_wire : wire_at p other ≡ Some its_wire
  pub differs : its_wire ≢ wire

-- the pin is odd: of the table alone; of the platform alone; or of both, with the link of an earlier pin that has another wire
abbrev pub IsOdd : Platform → Pir → Pin → Odd → Type 0
IsOdd p t q odd.OnlyPir = (link : ℕ) × (link_at t q ≡ Some link) × (wire_at p q ≡ None)
IsOdd p t q odd.OnlyMp = (wire : Wire) × (wire_at p q ≡ Some wire) × (link_at t q ≡ None)
IsOdd p t q odd.Link = (link : ℕ) × (wire : Wire) × (link_at t q ≡ Some link) × (wire_at p q ≡ Some wire) × HasOtherWireBefore p t q link wire

-- the pin of a difference
abbrev pub pin_in : Difference → Pin
pin_in d = record { bus = d.bus; device = d.device; pin = d.pin }

-- a pin is odd for the difference's reason
pub record IsDifference (p : Platform) (t : Pir) (d : Difference) : Type 0 where
  pub on_pin : IsPin (pin_in d)
  pub odd : IsOdd p t (pin_in d) d.why

abbrev pub IsAscending : List Difference → Type 0
IsAscending [] = ⊤
IsAscending (d ∷ []) = ⊤
IsAscending (d ∷ e ∷ ds) = Precedes (pin_in d) (pin_in e) × IsAscending (e ∷ ds)

-- all differences, each once, in the order of their pins
pub record AreDifferencesOf (p : Platform) (t : Pir) (ds : List Difference) : Type 0 where
  pub sound : (d : Difference) → Contains ds d → IsDifference p t d
  pub complete : (d : Difference) → IsDifference p t d → Contains ds d
  pub ascending : IsAscending ds
