-- The PCI IRQ routing table of a platform has bytes.
use Rattle.std.proofs.Common.{◌≡◌, ℕ, zero, suc, ◌+◌, ◌*◌, ◌/◌, ◌%◌, ◌^◌, ◌<◌, ◌≤◌, Bool, true, false, cond, List, [], ◌∷◌, ◌++◌, length, map, set, sum, get_or, refl, sym, ap, ◌∙◌, subst, arith, length-append}
use Rattle.std.specs.Prelude.{Option, Some, None, slice_index, position, option_map, unwrap_or, codes, filter, not}
use Rattle.std.specs.Int.{to_le_bytes, w16, w32}
use Rattle.std.specs.List.{AllByRecursion}
use Rattle.std.proofs.lemmas.List.{get_or-append_right}
use Rattle.std.proofs.lemmas.List.Sums.{sum_by-set}
use Rattle.std.proofs.lemmas.List.Quantifiers.{position-Some}
use Rattle.std.proofs.Math.ListN.{get_or-append}
use Rattle.mpt_base.specs.Bytes.{IsByteList, SumsToZero}
use Rattle.mpt_base.specs.Writing.{checksum_of}
use Rattle.mpt_spec.specs.declared.entry.IntEntry.{IntEntry}
use Rattle.mpt_spec.specs.declared.tables.Tables.{Tables}
use Rattle.mpt_spec.specs.Values.{IsTablesValue}
use Rattle.mpt_spec.proofs.ByteLemmas.{sealed as sealed-sum}
use Rattle.mpt_route.specs.declared.platform.Platform.{Platform}
use Rattle.mpt_route.specs.Platform.{platform_of}
use Rattle.mpf_pir.specs.declared.pins.Pin.{Pin}
use Rattle.mpf_pir.specs.declared.pins.Wire.{Wire}
use Rattle.mpf_pir.specs.declared.table.Slot.{Slot}
use Rattle.mpf_pir.specs.declared.table.Pir.{Pir}
use Rattle.mpf_pir.specs.Layout.{IsSlotAt, AreSlots, IsPir}
use Rattle.mpf_pir.specs.Pins.{pin_of, wire_of, is_device, is_wire, is_on_pci, pci_ints, wire_at}
use Rattle.mpf_pir.specs.Made.{firsts, device_entries, wire_entries, link_among, link_of, slot_of, pir_of}
use Rattle.mpf_pir.specs.Spelling.{IsOpenPir, header_bytes}
use Rattle.mpf_pir.proofs.LayoutLemmas.{AreSlots-size, AreSlots-agree, IsSlotAt-agree, before-agree, behind-agree, header-written}
use Rattle.mpf_pir.proofs.WiringLemmas.{all_firsts}
use Rattle.mpf_pir.proofs.WrittenLemmas.{opened, sealed}
use Rattle.mpf_laws.specs.Laws.{HasPirBytes, HasPlaceInPir}
use Rattle.mpf_laws.proofs.ByteLists.{no_bytes, bytes-cons, bytes-append, bytes-test, bytes-2, bytes-4, bytes-set, all-filter}
use Rattle.mpf_laws.proofs.PlatformValues.{IsLowInt, IsLowPlatform, platform_of-low}

-- a slot whose only numbers are a bus, a device and four links
abbrev linked_slot : (bus device a b c d : ℕ) → Slot
linked_slot bus device a b c d = record { bus = bus; device = device; links = a ∷ b ∷ c ∷ d ∷ []; irqs = 0 ∷ 0 ∷ 0 ∷ 0 ∷ []; number = 0; reserved = 0 }

abbrev linked_bytes : (bus device a b c d : ℕ) → List ℕ
linked_bytes bus device a b c d = bus ∷ device ∷ a ∷ 0 ∷ 0 ∷ b ∷ 0 ∷ 0 ∷ c ∷ 0 ∷ 0 ∷ d ∷ 0 ∷ 0 ∷ 0 ∷ 0 ∷ []

linked-there : (bus device a b c d : ℕ) → IsSlotAt (linked_slot bus device a b c d) (linked_bytes bus device a b c d) 0
linked-there bus device a b c d = record { bus = refl; device = refl; links = refl; irqs = refl; number = refl; reserved = refl }

linked-bytes : (bus device a b c d : ℕ) → bus < 256 → device < 256 → a < 256 → b < 256 → c < 256 → d < 256 → IsByteList (linked_bytes bus device a b c d)
linked-bytes bus device a b c d h0 h1 h2 h3 h4 h5 =
    bytes-append (bus ∷ device ∷ a ∷ []) (0 ∷ 0 ∷ b ∷ 0 ∷ 0 ∷ c ∷ 0 ∷ 0 ∷ d ∷ 0 ∷ 0 ∷ 0 ∷ 0 ∷ []) (bytes-cons bus (device ∷ a ∷ []) h0 (bytes-cons device (a ∷ []) h1 (bytes-cons a [] h2 no_bytes)))
    (bytes-append (0 ∷ 0 ∷ []) (b ∷ 0 ∷ 0 ∷ c ∷ 0 ∷ 0 ∷ d ∷ 0 ∷ 0 ∷ 0 ∷ 0 ∷ []) (bytes-test (0 ∷ 0 ∷ []) refl) (bytes-cons b (0 ∷ 0 ∷ c ∷ 0 ∷ 0 ∷ d ∷ 0 ∷ 0 ∷ 0 ∷ 0 ∷ []) h3
    (bytes-append (0 ∷ 0 ∷ []) (c ∷ 0 ∷ 0 ∷ d ∷ 0 ∷ 0 ∷ 0 ∷ 0 ∷ []) (bytes-test (0 ∷ 0 ∷ []) refl) (bytes-cons c (0 ∷ 0 ∷ d ∷ 0 ∷ 0 ∷ 0 ∷ 0 ∷ []) h4
    (bytes-append (0 ∷ 0 ∷ []) (d ∷ 0 ∷ 0 ∷ 0 ∷ 0 ∷ []) (bytes-test (0 ∷ 0 ∷ []) refl) (bytes-cons d (0 ∷ 0 ∷ 0 ∷ 0 ∷ []) h5 (bytes-test (0 ∷ 0 ∷ 0 ∷ 0 ∷ []) refl)))))))

-- a link is a byte
link_low : (wires : List IntEntry) (w : Option Wire) → length wires ≤ 255 → link_among wires w < 256
link_low wires None few = omega arith
link_low wires (Some w) few = go (position (λ (e : IntEntry). is_wire (wire_of e) w) wires) refl
  where
    go : (o : Option ℕ) → position (λ (e : IntEntry). is_wire (wire_of e) w) wires ≡ o → unwrap_or (option_map (λ place. 1 + place) o) 0 < 256
    go None e = omega arith
    go (Some i) e =
        let within : i < length wires = (position-Some (λ (x : IntEntry). is_wire (wire_of x) w) wires i (record { kind = 0; flags = 0; bus = 0; irq = 0; dest = 0; pin = 0 }) e).0 in
        omega (arith, within, few)

-- slots that are spelled
record AreSpelled (ss : List Slot) : Type 0 where
  body : List ℕ
  size : length body ≡ 16 * length ss
  in_bytes : IsByteList body
  there : AreSlots ss body 0 (length body)

-- one more in front
spelled_cons : (s : Slot) (bytes : List ℕ) (ss : List Slot) → length bytes ≡ 16 → IsByteList bytes → IsSlotAt s bytes 0 → AreSpelled ss → AreSpelled (s ∷ ss)
spelled_cons s bytes ss long in_bytes is r =
    let whole : length (bytes ++ r.body) ≡ 16 + length r.body = omega (arith, length-append bytes r.body) in
    let first : IsSlotAt s (bytes ++ r.body) 0 = IsSlotAt-agree bytes (bytes ++ r.body) 0 0 (length bytes) 0 s (before-agree bytes r.body) (omega arith) refl is in
    let rest : AreSlots ss (bytes ++ r.body) 16 (length (bytes ++ r.body)) =
    AreSlots-agree r.body (bytes ++ r.body) 16 0 (length r.body) 16 (length (bytes ++ r.body)) ss (behind-agree bytes r.body 16 0 (length r.body) (sym long)) (omega arith) whole r.there in
    record { body = bytes ++ r.body; size = omega (arith, whole, r.size); in_bytes = bytes-append bytes r.body in_bytes r.in_bytes; there = (first, rest) }

-- the slots of a platform
slots_spelled : (p : Platform) → length (wire_entries p) ≤ 255 → (es : List IntEntry) → AllByRecursion IsLowInt es → AreSpelled (map (slot_of p) es)
slots_spelled p few [] h = record { body = []; size = omega arith; in_bytes = no_bytes; there = refl }
slots_spelled p few (e ∷ es) h =
    let device : ℕ = 8 * (e.irq / 4 % 32) in
    let link : ℕ → ℕ = λ n. link_of p (record { bus = e.bus; device = e.irq / 4 % 32; pin = n }) in
    let low : (n : ℕ) → link_of p (record { bus = e.bus; device = e.irq / 4 % 32; pin = n }) < 256 = λ n. link_low (wire_entries p) (wire_at p (record { bus = e.bus; device = e.irq / 4 % 32; pin = n })) few in
    spelled_cons (slot_of p e) (linked_bytes e.bus device (link 0) (link 1) (link 2) (link 3)) (map (slot_of p) es) refl
    (linked-bytes e.bus device (link 0) (link 1) (link 2) (link 3) h.0.bus (omega arith) (low 0) (low 1) (low 2) (low 3))
    (linked-there e.bus device (link 0) (link 1) (link 2) (link 3)) (slots_spelled p few es h.1)

-- the header's bytes are bytes
header-bytes : (p : Platform) (total : ℕ) → IsByteList (header_bytes (pir_of p) total)
header-bytes p total =
    bytes-append (codes "$PIR" ++ 0 ∷ 1 ∷ to_le_bytes w16 total ++ 0 ∷ 0 ∷ to_le_bytes w16 0 ++ to_le_bytes w32 0 ++ to_le_bytes w32 0) (0 ∷ 0 ∷ 0 ∷ 0 ∷ 0 ∷ 0 ∷ 0 ∷ 0 ∷ 0 ∷ 0 ∷ 0 ∷ [])
    (bytes-append (codes "$PIR" ++ 0 ∷ 1 ∷ to_le_bytes w16 total ++ 0 ∷ 0 ∷ to_le_bytes w16 0 ++ to_le_bytes w32 0) (to_le_bytes w32 0)
    (bytes-append (codes "$PIR" ++ 0 ∷ 1 ∷ to_le_bytes w16 total ++ 0 ∷ 0 ∷ to_le_bytes w16 0) (to_le_bytes w32 0)
    (bytes-append (codes "$PIR" ++ 0 ∷ 1 ∷ to_le_bytes w16 total) (0 ∷ 0 ∷ to_le_bytes w16 0)
    (bytes-append (codes "$PIR") (0 ∷ 1 ∷ to_le_bytes w16 total)
    (bytes-test (codes "$PIR") refl)
    (bytes-append (0 ∷ 1 ∷ []) (to_le_bytes w16 total) (bytes-test (0 ∷ 1 ∷ []) refl) (bytes-2 total)))
    (bytes-append (0 ∷ 0 ∷ []) (to_le_bytes w16 0) (bytes-test (0 ∷ 0 ∷ []) refl) (bytes-2 0))) (bytes-4 0)) (bytes-4 0)) (bytes-test (0 ∷ 0 ∷ 0 ∷ 0 ∷ 0 ∷ 0 ∷ 0 ∷ 0 ∷ 0 ∷ 0 ∷ 0 ∷ []) refl)

-- a checksum in the place of the zero
with_checksum : (t : Pir) (bytes : List ℕ) → IsByteList bytes → 31 < length bytes → slice_index bytes 31 ≡ 0 → IsOpenPir t bytes → HasPirBytes t
with_checksum t bytes in_bytes inside empty open_table =
    let c : ℕ = checksum_of bytes in
    let low : c < 256 = omega arith in
    let more : sum (set bytes 31 c) ≡ sum bytes + c = omega (arith, sum_by-set (λ (x : ℕ). x) bytes 31 c 0 inside, empty) in
    let zero_sum : SumsToZero (set bytes 31 c) = sealed-sum (sum bytes) (sum (set bytes 31 c)) c more refl in
    (set bytes 31 c, bytes-set bytes 31 c inside low in_bytes, sealed t bytes c open_table zero_sum)

-- the table of a platform
pir_of-bytes_low : (p : Platform) → IsLowPlatform p → HasPlaceInPir p → HasPirBytes (pir_of p)
pir_of-bytes_low p low place =
    let ints : AllByRecursion IsLowInt (pci_ints p) = all-filter IsLowInt (is_on_pci p) p.ints low.ints in
    let devices : AllByRecursion IsLowInt (device_entries p) = all_firsts IsLowInt (λ e f. is_device (pin_of e) (pin_of f)) (pci_ints p) ints in
    let slots : AreSpelled (map (slot_of p) (device_entries p)) = slots_spelled p place.links (device_entries p) devices in
    let many : length (map (slot_of p) (device_entries p)) ≡ length (device_entries p) = length-map (slot_of p) (device_entries p) in
    let total : ℕ = 32 + 16 * length (map (slot_of p) (device_entries p)) in
    let few : length (map (slot_of p) (device_entries p)) ≤ 4093 = omega (arith, many, place.slots) in
    let header : List ℕ = header_bytes (pir_of p) total in
    let long : length header ≡ 31 = refl in
    let front : List ℕ = header ++ 0 ∷ [] in
    let bytes : List ℕ = front ++ slots.body in
    let front_long : length front ≡ 32 = refl in
    let is_open : IsOpenPir (pir_of p) bytes = opened (pir_of p) total slots.body few refl (record { exclusive = omega arith; compatible = omega arith; miniport = omega arith; reserved = refl }) slots.size slots.there in
    let in_front : IsByteList front = bytes-append header (0 ∷ []) (header-bytes p total) (bytes-cons 0 [] (omega arith) no_bytes) in
    with_checksum (pir_of p) bytes (bytes-append front slots.body in_front slots.in_bytes) (omega (arith, length-append front slots.body)) (get_or-append front slots.body 0 31 (omega arith) ∙ refl) is_open
  where
    length-map : {X Y : Type 0} (f : X → Y) (xs : List X) → length (map f xs) ≡ length xs
    length-map f [] = refl
    length-map f (x ∷ xs) = ap suc (length-map f xs)

-- the table of tables whose devices and wires have place in one has bytes
pub pir_of-bytes : (t : Tables) → IsTablesValue t → HasPlaceInPir (platform_of t) → HasPirBytes (pir_of (platform_of t))
pir_of-bytes t v place = pir_of-bytes_low (platform_of t) (platform_of-low t v) place
