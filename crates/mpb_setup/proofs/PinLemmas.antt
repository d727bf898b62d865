-- Routed answers: each is on a pin of an I/O APIC that is there, no two on one, so they are at most 96; what their rows write.
use Rattle.std.proofs.Common.{◌≡◌, ◌==◌, ℕ, zero, suc, ◌+◌, ◌*◌, ◌<◌, ◌≤◌, Bool, false, cond, List, [], ◌∷◌, ◌++◌, length, take, filter, map, count_by, Some, slice_get, refl, arith}
use Rattle.std.specs.List.{AllByRecursion, flat_map, IsDistinct}
use Rattle.std.proofs.lemmas.Bool.{ne_eqb}
use Rattle.std.proofs.lemmas.List.Sums.{sum_by-append}
use Rattle.std.proofs.lemmas.List.Quantifiers.{position-Some}
use Rattle.mpt_spec.specs.declared.entry.IntEntry.{IntEntry}
use Rattle.mpt_spec.specs.declared.entry.IoApic.{IoApic}
use Rattle.mpt_route.specs.declared.platform.Platform.{Platform}
use Rattle.mpt_route.specs.declared.route.Route.{Route}
use Rattle.mpt_route.specs.declared.route.Answer.{Answer}
use Rattle.mpt_route.specs.declared.route.Answer.TheVariants as answer
use Rattle.mpt_route.specs.Routes.{routes_of, io_place_in, is_enabled}
use Rattle.mpt_route.proofs.ReasonLemmas.{are_routes}
use Rattle.mpt_route.proofs.PinLemmas.{takes_pins_once}
use Rattle.mpt_route_laws.proofs.RowLemmas.{is_row_of, entry_at}
use Rattle.mpt_route_laws.proofs.RowLemmas as rows
use Rattle.mpb_spec.specs.declared.agent.Op.{Op}
use Rattle.mpb_spec.specs.Room.{is_write, is_eoi}
use Rattle.mpb_setup.specs.Boot.{row_ops}
use Rattle.mpb_setup.specs.Board.{io_ids}
use Rattle.mpb_setup.specs.Steps.{HasPin}
use Rattle.mpb_setup.proofs.ListLemmas.{distinct-few, all-weaker}

-- a routed answer is on a pin of one of n I/O APICs
abbrev pub HasPlace : ℕ → Answer → Type 0
HasPlace n (answer.Routed r) = (r.io < n) × (r.pin < 24)
HasPlace n (answer.Unrouted e why) = Unit {0}

all_by : (P : Answer → Type 0) (xs : List Answer) → ((i : ℕ) (a : Answer) → slice_get xs i ≡ Some a → P a) → AllByRecursion P xs
all_by P [] h = tt
all_by P (x ∷ xs) h = (h 0 x refl, all_by P xs (λ i a e. h (suc i) a e))

take_short : (n : ℕ) (xs : List IoApic) → length (take n xs) ≤ length xs
take_short zero xs = omega arith
take_short (suc n) [] = omega arith
take_short (suc n) (x ∷ xs) = omega (arith, take_short n xs)

mapped : (xs : List IoApic) → length (map (λ io. io.id) xs) ≡ length xs
mapped [] = refl
mapped (x ∷ xs) = omega (arith, mapped xs)

take_four : (n : ℕ) (xs : List IoApic) → length (take n xs) ≤ n
take_four zero xs = omega arith
take_four (suc n) [] = omega arith
take_four (suc n) (x ∷ xs) = omega (arith, take_four n xs)

-- of one of the I/O APICs that are there, and of one of four
place_there : (ios : List IoApic) (id k : ℕ) → io_place_in ios id ≡ Some k → (k < length (map (λ io. io.id) (filter is_enabled ios))) × (k < 4)
place_there ios id k h =
    let there = (position-Some (λ (io : IoApic). io.id == id) (take 4 (filter is_enabled ios)) k (record { id = 0; version = 0; flags = 0; address = 0 }) h).0 in
    (omega (arith, there, take_short 4 (filter is_enabled ios), mapped (filter is_enabled ios)), omega (arith, there, take_four 4 (filter is_enabled ios)))

pub on_places : (p : Platform) (elcr : ℕ) → AllByRecursion (λ a. HasPlace (length (io_ids p)) a × HasPlace 4 a) (routes_of p elcr)
on_places p elcr = all_by (λ a. HasPlace (length (io_ids p)) a × HasPlace 4 a) (routes_of p elcr) each
  where
    each : (i : ℕ) (a : Answer) → slice_get (routes_of p elcr) i ≡ Some a → HasPlace (length (io_ids p)) a × HasPlace 4 a
    each i (answer.Unrouted n w) h = (tt, tt)
    each i (answer.Routed r) h =
        let e : (e : IntEntry) × (slice_get p.ints i ≡ Some e) = entry_at p.ints (routes_of p elcr) i (answer.Routed r) (are_routes p elcr).count h in
        let row = is_row_of p elcr i e.0 r e.1 h in
        let at = place_there p.ios e.0.dest r.io row.io in
        let pin : r.pin < 24 = (rows.on_pin p elcr i e.0 r e.1 h).1 in
        ((at.0, pin), (at.1, pin))

pin_only : (n : ℕ) (a : Answer) → HasPlace n a → HasPin a
pin_only n (answer.Routed r) h = h.1
pin_only n (answer.Unrouted e w) h = tt

pub have_pins : (p : Platform) (elcr : ℕ) → AllByRecursion HasPin (routes_of p elcr)
have_pins p elcr = all-weaker (λ a. HasPlace (length (io_ids p)) a × HasPlace 4 a) HasPin (routes_of p elcr) (λ a h. pin_only 4 a h.1) (on_places p elcr)

-- the pins of the routed answers, each a number below 96
abbrev pub pins : List Answer → List ℕ
pins [] = []
pins (answer.Routed r ∷ xs) = (24 * r.io + r.pin) ∷ pins xs
pins (answer.Unrouted n w ∷ xs) = pins xs

pins_below : (xs : List Answer) → AllByRecursion (HasPlace 4) xs → AllByRecursion (λ k. k < 96) (pins xs)
pins_below [] h = tt
pins_below (answer.Routed r ∷ xs) h = (omega (arith, h.0.0, h.0.1), pins_below xs h.1)
pins_below (answer.Unrouted n w ∷ xs) h = pins_below xs h.1

other_pin : (a b c d : ℕ) → b < 24 → d < 24 → 24 * a + b ≡ 24 * c + d → (a ≡ c) × (b ≡ d)
other_pin a b c d l m e = (omega (arith, l, m, e), omega (arith, l, m, e))

pins_apart : (r : Route) (xs : List Answer) → r.pin < 24 → AllByRecursion (HasPlace 4) xs → ((j : ℕ) (s : Route) → slice_get xs j ≡ Some (answer.Routed s) → r.io ≡ s.io → r.pin ≡ s.pin → ⊥) → AllByRecursion (λ k. (24 * r.io + r.pin == k) ≡ false) (pins xs)
pins_apart r [] l h once = tt
pins_apart r (answer.Routed s ∷ xs) l h once = (
  ne_eqb (24 * r.io + r.pin) (24 * s.io + s.pin) (λ e. let q = other_pin r.io r.pin s.io s.pin l h.0.1 e in once 0 s refl q.0 q.1),
  pins_apart r xs l h.1 (λ j t e. once (suc j) t e),
)
pins_apart r (answer.Unrouted n w ∷ xs) l h once = pins_apart r xs l h.1 (λ j t e. once (suc j) t e)

pins_distinct : (xs : List Answer) → AllByRecursion (HasPlace 4) xs → ((i j : ℕ) (r s : Route) → i < j → slice_get xs i ≡ Some (answer.Routed r) → slice_get xs j ≡ Some (answer.Routed s) → r.io ≡ s.io → r.pin ≡ s.pin → ⊥) → IsDistinct ◌==◌ (pins xs)
unfolding IsDistinct
pins_distinct [] h once = tt
pins_distinct (answer.Routed r ∷ xs) h once =
    (pins_apart r xs h.0.1 h.1 (λ j s e. once 0 (suc j) r s (omega arith) refl e), pins_distinct xs h.1 (λ i j r s l e f. once (suc i) (suc j) r s (omega (arith, l)) e f))
pins_distinct (answer.Unrouted n w ∷ xs) h once = pins_distinct xs h.1 (λ i j r s l e f. once (suc i) (suc j) r s (omega (arith, l)) e f)

pub few_pins : (p : Platform) (elcr : ℕ) → length (pins (routes_of p elcr)) ≤ 96
few_pins p elcr =
    let four = all-weaker (λ a. HasPlace (length (io_ids p)) a × HasPlace 4 a) (HasPlace 4) (routes_of p elcr) (λ a h. h.1) (on_places p elcr) in
    distinct-few 96 (pins (routes_of p elcr)) (pins_below (routes_of p elcr) four) (pins_distinct (routes_of p elcr) four (takes_pins_once p elcr))

-- four ops a row, of which two write
pub rows_length : (xs : List Answer) → length (flat_map row_ops xs) ≡ 4 * length (pins xs)
rows_length [] = refl
rows_length (answer.Routed r ∷ xs) = omega (arith, rows_length xs)
rows_length (answer.Unrouted n w ∷ xs) = rows_length xs

counted : (f : Op → Bool) (xs ys : List Op) → count_by f (xs ++ ys) ≡ count_by f xs + count_by f ys
counted f xs ys = sum_by-append (λ o. cond {A = ℕ} (f o) 1 0) xs ys

pub rows_writes : (xs : List Answer) → count_by is_write (flat_map row_ops xs) ≡ 2 * length (pins xs)
rows_writes [] = refl
rows_writes (answer.Routed r ∷ xs) = let two : count_by is_write (row_ops (answer.Routed r)) ≡ 2 = refl in omega (arith, two, counted is_write (row_ops (answer.Routed r)) (flat_map row_ops xs), rows_writes xs)
rows_writes (answer.Unrouted n w ∷ xs) = rows_writes xs

pub rows_ends : (xs : List Answer) → count_by is_eoi (flat_map row_ops xs) ≡ 0
rows_ends [] = refl
rows_ends (answer.Routed r ∷ xs) = let none : count_by is_eoi (row_ops (answer.Routed r)) ≡ 0 = refl in omega (arith, none, counted is_eoi (row_ops (answer.Routed r)) (flat_map row_ops xs), rows_ends xs)
rows_ends (answer.Unrouted n w ∷ xs) = rows_ends xs
