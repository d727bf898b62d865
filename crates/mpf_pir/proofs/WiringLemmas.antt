-- Pins, devices and wires by number, and what a table is made from.
use Rattle.std.proofs.Common.{◌≡◌, ℕ, ◌+◌, ◌*◌, ◌/◌, ◌%◌, ◌<◌, ◌⊎◌, Bool, true, false, cond, ◌&&◌, List, [], ◌∷◌, ◌++◌, length, map, get_or, sym, refl, ap, ◌∙◌, inl, inr, arith, not}
use Rattle.std.specs.Prelude.{Some, None, ◌==◌, find, position, option_map, filter, nat_lt}
use Rattle.std.specs.List.{AllByRecursion, position_or_len}
use Rattle.std.proofs.lemmas.Bool.Decides.{Decides-eqb, Decides-and, Decides-like, same_from_decides}
use Rattle.mpt_spec.specs.declared.entry.IntEntry.{IntEntry}
use Rattle.mpt_route.specs.declared.platform.Platform.{Platform}
use Rattle.mpf_pir.specs.declared.pins.By.TheVariants as by
use Rattle.mpf_pir.specs.declared.pins.Pin.{Pin}
use Rattle.mpf_pir.specs.declared.pins.Wire.{Wire}
use Rattle.mpf_pir.specs.Pins.{pin_of, wire_of, is_pin, is_device, is_wire, pci_ints, wire_at}
use Rattle.mpf_pir.specs.Made.{firsts, pin_entries, wire_entries, device_entries, link_among, slot_of}
use Rattle.mpf_pir.specs.Index.{number_by, is_same_by, wire_by, HasBytePin, slot_with}
use Rattle.mpf_pir.proofs.FirstLemmas.{find_place, find_by}

-- the numbers of pins, of devices and of wires
pin_apart : (b i c d q : ℕ) → d < 32 → q < 4 → 128 * b + i % 128 ≡ 128 * c + 4 * d + q → ((b ≡ c) × (i / 4 % 32 ≡ d)) × (i % 4 ≡ q)
pin_apart b i c d q h k e = ((omega arith, omega arith), omega arith)

pin_alike : (b i c d q n : ℕ) → n ≡ 128 * c + 4 * d + q → ((b ≡ c) × (i / 4 % 32 ≡ d)) × (i % 4 ≡ q) → 128 * b + i % 128 ≡ n
pin_alike b i c d q n e ((x, y), z) = omega arith

pub pin_test : (e : IntEntry) (q : Pin) (n : ℕ) → q.device < 32 → q.pin < 4 → n ≡ 128 * q.bus + 4 * q.device + q.pin → (number_by by.Pin e == n) ≡ is_pin (pin_of e) q
pin_test e q n h k is =
    same_from_decides {P = ((e.bus ≡ q.bus) × (e.irq / 4 % 32 ≡ q.device)) × (e.irq % 4 ≡ q.pin)} (number_by by.Pin e == n) (is_pin (pin_of e) q)
    (Decides-like (number_by by.Pin e == n) (λ t. pin_apart e.bus e.irq q.bus q.device q.pin h k (t ∙ is)) (pin_alike e.bus e.irq q.bus q.device q.pin n is) (Decides-eqb (number_by by.Pin e) n))
    (Decides-and ((e.bus == q.bus) && (e.irq / 4 % 32 == q.device)) (e.irq % 4 == q.pin) (Decides-and (e.bus == q.bus) (e.irq / 4 % 32 == q.device) (Decides-eqb e.bus q.bus) (Decides-eqb (e.irq / 4 % 32) q.device)) (Decides-eqb (e.irq % 4) q.pin))

own_number : (b i : ℕ) → 128 * b + i % 128 ≡ 128 * b + 4 * (i / 4 % 32) + i % 4
own_number b i = omega arith

pub pin_same : (e f : IntEntry) → is_same_by by.Pin e f ≡ is_pin (pin_of e) (pin_of f)
pin_same e f = pin_test e (pin_of f) (number_by by.Pin f) (omega arith) (omega arith) (own_number f.bus f.irq)

device_apart : (b i c d : ℕ) → d < 32 → 32 * b + i / 4 % 32 ≡ 32 * c + d → (b ≡ c) × (i / 4 % 32 ≡ d)
device_apart b i c d h e = (omega arith, omega arith)

device_alike : (b i c d : ℕ) → (b ≡ c) × (i / 4 % 32 ≡ d) → 32 * b + i / 4 % 32 ≡ 32 * c + d
device_alike b i c d (x, y) = omega arith

pub device_same : (e f : IntEntry) → is_same_by by.Device e f ≡ is_device (pin_of e) (pin_of f)
device_same e f =
    let d : ℕ = f.irq / 4 % 32 in
    same_from_decides {P = (e.bus ≡ f.bus) × (e.irq / 4 % 32 ≡ d)} (is_same_by by.Device e f) (is_device (pin_of e) (pin_of f))
    (Decides-like (is_same_by by.Device e f) (device_apart e.bus e.irq f.bus d (omega arith)) (device_alike e.bus e.irq f.bus d) (Decides-eqb (number_by by.Device e) (number_by by.Device f)))
    (Decides-and (e.bus == f.bus) (e.irq / 4 % 32 == d) (Decides-eqb e.bus f.bus) (Decides-eqb (e.irq / 4 % 32) d))

wire_apart : (d p c q : ℕ) → p < 256 → q < 256 → 256 * d + p ≡ 256 * c + q → (d ≡ c) × (p ≡ q)
wire_apart d p c q h k e = (omega arith, omega arith)

wire_alike : (d p c q : ℕ) → (d ≡ c) × (p ≡ q) → 256 * d + p ≡ 256 * c + q
wire_alike d p c q (x, y) = omega arith

pub wire_test : (e : IntEntry) (w : Wire) → HasBytePin e → w.pin < 256 → (number_by by.Wire e == 256 * w.dest + w.pin) ≡ is_wire (wire_of e) w
wire_test e w h k =
    same_from_decides {P = (e.dest ≡ w.dest) × (e.pin ≡ w.pin)} (number_by by.Wire e == 256 * w.dest + w.pin) (is_wire (wire_of e) w)
    (Decides-like (number_by by.Wire e == 256 * w.dest + w.pin) (wire_apart e.dest e.pin w.dest w.pin h k) (wire_alike e.dest e.pin w.dest w.pin) (Decides-eqb (number_by by.Wire e) (256 * w.dest + w.pin)))
    (Decides-and (e.dest == w.dest) (e.pin == w.pin) (Decides-eqb e.dest w.dest) (Decides-eqb e.pin w.pin))

-- what holds of all members of a list
module _ {E : Type 0} (P : E → Type 0) where
  pub all_push : (xs : List E) (x : E) → AllByRecursion P xs → P x → AllByRecursion P (xs ++ x ∷ [])
  all_push [] x h p = (p, tt)
  all_push (y ∷ xs) x h p = (h.0, all_push xs x h.1 p)

  all_filter : (t : E → Bool) (xs : List E) → AllByRecursion P xs → AllByRecursion P (filter t xs)
  all_filter t [] h = tt
  all_filter t (x ∷ xs) h = go (t x) (all_filter t xs h.1)
    where
      go : (b : Bool) → AllByRecursion P (filter t xs) → AllByRecursion P (cond b (x ∷ filter t xs) (filter t xs))
      go true r = (h.0, r)
      go false r = r

  pub all_firsts : (same : E → E → Bool) (xs : List E) → AllByRecursion P xs → AllByRecursion P (firsts same xs)
  all_firsts same [] h = tt
  all_firsts same (x ∷ xs) h = (h.0, all_filter (λ y. not (same x y)) (firsts same xs) (all_firsts same xs h.1))

  -- tests that agree there
  filter_alike : (t u : E → Bool) → ((x : E) → P x → t x ≡ u x) → (xs : List E) → AllByRecursion P xs → filter t xs ≡ filter u xs
  filter_alike t u e [] h = refl
  filter_alike t u e (x ∷ xs) h =
      let first : t x ≡ u x = e x h.0 in
      let rest : filter t xs ≡ filter u xs = filter_alike t u e xs h.1 in
      λ i. cond (first i) (x ∷ rest i) (rest i)

  pub firsts_alike : (s r : E → E → Bool) → ((x y : E) → P x → P y → s x y ≡ r x y) → (xs : List E) → AllByRecursion P xs → firsts s xs ≡ firsts r xs
  firsts_alike s r e [] h = refl
  firsts_alike s r e (x ∷ xs) h =
      ap (λ ys. x ∷ filter (λ y. not (s x y)) ys) (firsts_alike s r e xs h.1)
      ∙ ap (λ ys. x ∷ ys) (filter_alike (λ y. not (s x y)) (λ y. not (r x y)) (λ y p. ap not (e x y h.0 p)) (firsts r xs) (all_firsts r xs h.1))

  place_alike : (t u : E → Bool) → ((x : E) → P x → t x ≡ u x) → (xs : List E) → AllByRecursion P xs → position_or_len t xs ≡ position_or_len u xs
  place_alike t u e [] h = refl
  place_alike t u e (x ∷ xs) h =
      let first : t x ≡ u x = e x h.0 in
      let rest : position_or_len t xs ≡ position_or_len u xs = place_alike t u e xs h.1 in
      λ i. cond (not (first i)) (1 + rest i) 0

  pub position_alike : (t u : E → Bool) → ((x : E) → P x → t x ≡ u x) → (xs : List E) → AllByRecursion P xs → position t xs ≡ position u xs
  position_alike t u e xs h = let at : position_or_len t xs ≡ position_or_len u xs = place_alike t u e xs h in λ i. cond (nat_lt (at i) (length xs)) (Some (at i)) None

-- the first entries by number are those of the pins, of the devices and of the wires
pub pins_are : (p : Platform) → firsts (is_same_by by.Pin) (pci_ints p) ≡ pin_entries p
pins_are p = λ i. firsts (λ e f. pin_same e f i) (pci_ints p)

pub devices_are : (p : Platform) → firsts (is_same_by by.Device) (pci_ints p) ≡ device_entries p
devices_are p = λ i. firsts (λ e f. device_same e f i) (pci_ints p)

pub wires_are : (p : Platform) → AllByRecursion HasBytePin (pin_entries p) → firsts (is_same_by by.Wire) (pin_entries p) ≡ wire_entries p
wires_are p h = firsts_alike HasBytePin (is_same_by by.Wire) (λ e f. is_wire (wire_of e) (wire_of f)) (λ e f x y. wire_test e (wire_of f) x y) (pin_entries p) h

-- a pin's wire by its number
pub wire_by-at : (p : Platform) (q : Pin) (n : ℕ) → q.device < 32 → q.pin < 4 → n ≡ 128 * q.bus + 4 * q.device + q.pin → wire_by (pin_entries p) n ≡ wire_at p q
wire_by-at p q n h k e =
    ap (λ es. wire_by es n) (sym (pins_are p))
    ∙ ap (option_map wire_of) (find_by (number_by by.Pin) (pci_ints p) n ∙ (λ i. find (λ f. pin_test f q n h k e i) (pci_ints p)))

-- the place of the entry by number is that of the search
pub wire_by-some : (es : List IntEntry) (n place : ℕ) (d : IntEntry) → position (λ e. number_by by.Pin e == n) es ≡ Some place → wire_by es n ≡ Some (wire_of (get_or es place d))
wire_by-some es n place d e = go (find_place (λ f. number_by by.Pin f == n) d es)
  where
    go : ((i : ℕ) × (position (λ f. number_by by.Pin f == n) es ≡ Some i) × (find (λ f. number_by by.Pin f == n) es ≡ Some (get_or es i d)) × (i < length es)) ⊎ ((position (λ f. number_by by.Pin f == n) es ≡ None) × (find (λ f. number_by by.Pin f == n) es ≡ None))
        → wire_by es n ≡ Some (wire_of (get_or es place d))
    go (inl r) = let all : Some r.0 ≡ Some place = sym r.1 ∙ e in let same : r.0 ≡ place = cc in ap (option_map wire_of) r.2 ∙ ap (λ i. Some (wire_of (get_or es i d))) same
    go (inr r) = absurd (let wrong : Some place ≡ None = sym e ∙ r.0 in cc)

pub wire_by-none : (es : List IntEntry) (n : ℕ) (d : IntEntry) → position (λ e. number_by by.Pin e == n) es ≡ None → wire_by es n ≡ None
wire_by-none es n d e = go (find_place (λ f. number_by by.Pin f == n) d es)
  where
    go : ((i : ℕ) × (position (λ f. number_by by.Pin f == n) es ≡ Some i) × (find (λ f. number_by by.Pin f == n) es ≡ Some (get_or es i d)) × (i < length es)) ⊎ ((position (λ f. number_by by.Pin f == n) es ≡ None) × (find (λ f. number_by by.Pin f == n) es ≡ None))
        → wire_by es n ≡ None
    go (inl r) = absurd (let wrong : Some r.0 ≡ None = sym r.1 ∙ e in cc)
    go (inr r) = ap (option_map wire_of) r.1

-- a slot made by numbers
slot_number : (b i n : ℕ) → 4 * (32 * b + i / 4 % 32) + n ≡ 128 * b + 4 * (i / 4 % 32) + n
slot_number b i n = omega arith

pub slot_with-of : (p : Platform) (e : IntEntry) → slot_with (pin_entries p) (wire_entries p) e ≡ slot_of p e
slot_with-of p e =
    let link : (n : ℕ) → n < 4 → link_among (wire_entries p) (wire_by (pin_entries p) (4 * number_by by.Device e + n)) ≡ link_among (wire_entries p) (wire_at p (record { bus = e.bus; device = e.irq / 4 % 32; pin = n })) =
    λ n h. ap (link_among (wire_entries p)) (wire_by-at p (record { bus = e.bus; device = e.irq / 4 % 32; pin = n }) (4 * number_by by.Device e + n) (omega arith) h (slot_number e.bus e.irq n)) in
    λ i. record {
      bus = e.bus;
      device = 8 * (e.irq / 4 % 32);
      links = link 0 (omega arith) i ∷ link 1 (omega arith) i ∷ link 2 (omega arith) i ∷ link 3 (omega arith) i ∷ [];
      irqs = 0 ∷ 0 ∷ 0 ∷ 0 ∷ [];
      number = 0;
      reserved = 0;
    }

pub slots_with-of : (p : Platform) (pins wires devices : List IntEntry) → pins ≡ pin_entries p → wires ≡ wire_entries p → devices ≡ device_entries p → map (slot_with pins wires) devices ≡ map (slot_of p) (device_entries p)
slots_with-of p pins wires devices a b c = (λ i. map (slot_with (a i) (b i)) (c i)) ∙ (λ i. map (λ e. slot_with-of p e i) (device_entries p))
