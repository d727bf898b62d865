-- What private functions cite: how far a comparison has come, pin by pin.
use Rattle.std.specs.Prelude.{◌≡◌, ◌≢◌, ◌==◌, ℕ, ◌+◌, ◌*◌, ◌/◌, ◌%◌, ◌<◌, Bool, true, false, not, if◌then◌else◌, List, Option, Some, None, find, option_map, slice_index_or, slice_set}
use Rattle.std.specs.List.{Contains}
use Rattle.mpt_route.specs.declared.platform.Platform.{Platform}
use Rattle.mpf_pir.specs.declared.pins.Pin.{Pin}
use Rattle.mpf_pir.specs.declared.pins.Wire.{Wire}
use Rattle.mpf_pir.specs.declared.table.Slot.{Slot}
use Rattle.mpf_pir.specs.declared.table.Pir.{Pir}
use Rattle.mpf_pir.specs.declared.comparing.Odd.{Odd}
use Rattle.mpf_pir.specs.declared.comparing.Odd.TheVariants as odd
use Rattle.mpf_pir.specs.declared.comparing.Difference.{Difference}
use Rattle.mpf_pir.specs.declared.comparing.Seen.{Seen}
use Rattle.mpf_pir.specs.declared.comparing.Seen.TheVariants as seen
use Rattle.mpf_pir.specs.Pins.{is_wire, wire_at}
use Rattle.mpf_pir.specs.Differences.{link_at, pin_in, IsDifference, IsAscending}

-- the number of a slot's bus and device, and the links of the first with a number
abbrev pub slot_number : Slot → ℕ
slot_number s = 32 * s.bus + s.device / 8 % 32

abbrev pub links_of : List Slot → ℕ → Option (List ℕ)
links_of slots n = option_map (λ s. s.links) (find (λ s. slot_number s == n) slots)

-- the pin with a number, in the order of bus, device and pin, and its number
abbrev pub pin_at : ℕ → Pin
pin_at n = record { bus = n / 128; device = n / 4 % 32; pin = n % 4 }

abbrev pub pin_number : Pin → ℕ
pin_number q = 128 * q.bus + 4 * q.device + q.pin

abbrev pub difference_at : ℕ → Odd → Difference
difference_at n why = record { bus = n / 128; device = n / 4 % 32; pin = n % 4; why = why }

-- what was seen of a link
abbrev pub seen_at : List Seen → ℕ → Seen
seen_at by_link link = slice_index_or by_link link seen.Nothing

-- whether another wire was seen, and what is seen with a further one
abbrev pub is_other : Seen → Wire → Bool
is_other seen.Nothing w = false
is_other (seen.One v) w = not (is_wire v w)
is_other seen.Several w = true

abbrev pub with_wire : Seen → Wire → Seen
with_wire seen.Nothing w = seen.One w
with_wire (seen.One v) w = if is_wire v w then seen.One v else seen.Several
with_wire seen.Several w = seen.Several

-- why a pin with this link and this wire is odd, and what is seen with it
abbrev pub odd_of : Option ℕ → Option Wire → List Seen → Option Odd
odd_of None None by_link = None
odd_of None (Some w) by_link = Some odd.OnlyMp
odd_of (Some l) None by_link = Some odd.OnlyPir
odd_of (Some l) (Some w) by_link = if is_other (seen_at by_link l) w then Some odd.Link else None

abbrev pub seen_after : Option ℕ → Option Wire → List Seen → List Seen
seen_after (Some l) (Some w) by_link = slice_set by_link l (with_wire (seen_at by_link l) w)
seen_after _ _ by_link = by_link

-- the pin with number k is one of both, with this link and this wire
pub record HasBoth (p : Platform) (t : Pir) (k link : ℕ) (wire : Wire) : Type 0 where
  pub links : link_at t (pin_at k) ≡ Some link
  pub wires : wire_at p (pin_at k) ≡ Some wire

-- what was seen of a link at the pins below number n
abbrev pub IsSeen : Platform → Pir → ℕ → ℕ → Seen → Type 0
IsSeen p t n link seen.Nothing = (k : ℕ) (w : Wire) → k < n → ¬ HasBoth p t k link w
IsSeen p t n link (seen.One v) = ((k : ℕ) × (k < n) × HasBoth p t k link v) × ((k : ℕ) (w : Wire) → k < n → HasBoth p t k link w → w ≡ v)
IsSeen p t n link seen.Several =
    (j : ℕ) × (k : ℕ) × (v : Wire) × (w : Wire) × (j < n) × (k < n) × HasBoth p t j link v × HasBoth p t k link w × (v ≢ w)

-- the differences at the pins below number n
pub record AreDifferencesBelow (p : Platform) (t : Pir) (n : ℕ) (ds : List Difference) : Type 0 where
  pub sound : (d : Difference) → Contains ds d → IsDifference p t d
  pub below : (d : Difference) → Contains ds d → pin_number (pin_in d) < n
  pub complete : (d : Difference) → IsDifference p t d → pin_number (pin_in d) < n → Contains ds d
  pub ascending : IsAscending ds
