-- A reason's test is its sentence, and the answer to an entry tells the first reason that holds.
use Rattle.std.proofs.Common.{◌≡◌, ◌≢◌, ℕ, zero, suc, ◌+◌, ◌/◌, ◌%◌, ◌<◌, Bool, true, false, cond, not, ◌&&◌, List, [], ◌∷◌, length, take, sym, refl, ap, subst, ◌∙◌, arith, inl, inr}
use Rattle.std.specs.Prelude.{Option, Some, None, ◌==◌, ◌⊎◌, nat_lt, slice_get, find, filter, position, is_none, option_map}
use Rattle.std.specs.List.{AllByRecursion, position_or_len}
use Rattle.std.specs.Option.{option_or}
use Rattle.std.proofs.lemmas.Bool.Decides.{nat_tests}
use Rattle.mpt_spec.specs.declared.entry.IntEntry.{IntEntry}
use Rattle.mpt_spec.specs.declared.entry.Bus.{Bus}
use Rattle.mpt_spec.specs.declared.entry.IoApic.{IoApic}
use Rattle.mpt_spec.specs.declared.interrupt.Polarity.{Polarity}
use Rattle.mpt_spec.specs.declared.interrupt.Polarity.TheVariants as polarity
use Rattle.mpt_spec.specs.declared.interrupt.Trigger.{Trigger}
use Rattle.mpt_spec.specs.declared.interrupt.Trigger.TheVariants as trigger
use Rattle.mpt_spec.specs.Interrupts.{kind_of, polarity_of, trigger_of, polarity_of_bits, trigger_of_bits}
use Rattle.mpt_route.specs.declared.bus.BusKind.{BusKind}
use Rattle.mpt_route.specs.declared.bus.BusKind.TheVariants as bus
use Rattle.mpt_route.specs.declared.platform.Platform.{Platform}
use Rattle.mpt_route.specs.declared.route.Route.{Route}
use Rattle.mpt_route.specs.declared.route.Why.{Why}
use Rattle.mpt_route.specs.declared.route.Why.TheVariants as why
use Rattle.mpt_route.specs.declared.route.Answer.{Answer}
use Rattle.mpt_route.specs.declared.route.Answer.TheVariants as answer
use Rattle.mpt_route.specs.Sense.{is_reserved, conforms, bus_kind_of}
use Rattle.mpt_route.specs.Routes.{has_reason, reasons, is_other, is_some_other, is_some_same, low_on, taken_by, answer_unless, answer_after, routes_of, is_enabled, io_place_in, bus_kind_in}
use Rattle.mpt_route.specs.Reasons.{asked_row, IsOnAskedPin, IsUnroutedBecause, place_of, IsAnswerTo, AreRoutesOf}
use Rattle.mpt_route.proofs.PinLemmas.{has_answer_per_entry, follows_earlier, takes_pins_once}

-- what is found passes the test, and nothing before it does
first_found : (f : Why → Bool) (ws : List Why) (w : Why) → find f ws ≡ Some w
    → (m : ℕ) × (slice_get ws m ≡ Some w) × (f w ≡ true) × ((k : ℕ) (v : Why) → k < m → slice_get ws k ≡ Some v → f v ≡ false)
first_found f [] w h = absurd (cc)
first_found f (x ∷ ws) w h = go (f x) refl (first_found f ws w) h
  where
    go : (t : Bool) → f x ≡ t
        → (find f ws ≡ Some w → (m : ℕ) × (slice_get ws m ≡ Some w) × (f w ≡ true) × ((k : ℕ) (v : Why) → k < m → slice_get ws k ≡ Some v → f v ≡ false))
        → cond t (Some x) (find f ws) ≡ Some w
        → (m : ℕ) × (slice_get (x ∷ ws) m ≡ Some w) × (f w ≡ true) × ((k : ℕ) (v : Why) → k < m → slice_get (x ∷ ws) k ≡ Some v → f v ≡ false)
    go true q again r = let same : x ≡ w = cc in (zero, ap Some same, ap f (sym same) ∙ q, λ k v l e. absurd (omega arith))
    go false q again r = let t = again r in (suc t.0, t.1, t.2, passed t.0 t.3)
      where
        passed : (m : ℕ) → ((k : ℕ) (v : Why) → k < m → slice_get ws k ≡ Some v → f v ≡ false) → (k : ℕ) (v : Why) → k < suc m → slice_get (x ∷ ws) k ≡ Some v → f v ≡ false
        passed m h zero v l e = let same : x ≡ v = cc in ap f (sym same) ∙ q
        passed m h (suc k) v l e = h k v (omega arith) e

-- where nothing is found, nothing passes the test
none_found : (f : Why → Bool) (ws : List Why) (k : ℕ) (v : Why) → find f ws ≡ None → slice_get ws k ≡ Some v → f v ≡ false
none_found f [] k v h e = absurd (cc)
none_found f (x ∷ ws) k v h e = go (f x) refl k e h (λ j q r. none_found f ws j v r q)
  where
    go : (t : Bool) → f x ≡ t → (k : ℕ) → slice_get (x ∷ ws) k ≡ Some v → cond t (Some x) (find f ws) ≡ None
        → ((j : ℕ) → slice_get ws j ≡ Some v → find f ws ≡ None → f v ≡ false) → f v ≡ false
    go true q k e r again = absurd (cc)
    go false q zero e r again = let same : x ≡ v = cc in ap f (sym same) ∙ q
    go false q (suc k) e r again = again k e r

-- a reason stands in the list at its place
pub listed : (v : Why) → slice_get reasons (place_of v) ≡ Some v
listed why.DestWide = refl
listed why.UnknownBus = refl
listed why.UnknownIo = refl
listed why.PinRange = refl
listed why.UnknownKind = refl
listed why.ReservedFlag = refl
listed why.Conforms = refl
listed why.Clash = refl
listed why.Shared = refl

IsPlacedFrom : ℕ → List Why → Type 0
IsPlacedFrom n [] = Unit {0}
IsPlacedFrom n (x ∷ ws) = (place_of x ≡ n) × IsPlacedFrom (suc n) ws

placed_from : (n : ℕ) (ws : List Why) (m : ℕ) (w : Why) → IsPlacedFrom n ws → slice_get ws m ≡ Some w → place_of w ≡ n + m
unfolding IsPlacedFrom
placed_from n [] m w h e = absurd (cc)
placed_from n (x ∷ ws) zero w h e = let same : x ≡ w = cc in let at : place_of x ≡ n = h.0 in ap place_of (sym same) ∙ at ∙ omega arith
placed_from n (x ∷ ws) (suc m) w h e = placed_from (suc n) ws m w h.1 e ∙ omega arith

placed : (m : ℕ) (w : Why) → slice_get reasons m ≡ Some w → place_of w ≡ m
unfolding IsPlacedFrom
placed m w e = placed_from 0 reasons m w (refl, (refl, (refl, (refl, (refl, (refl, (refl, (refl, (refl, tt))))))))) e ∙ omega arith

unknown_bus : (id : ℕ) (bs : List Bus) → is_none (bus_kind_in bs id) ≡ true → AllByRecursion (λ b. b.id ≢ id) bs
unknown_bus id [] h = tt
unknown_bus id (b ∷ bs) h = go (b.id == id) refl (unknown_bus id bs) h
  where
    go : (t : Bool) → (b.id == id) ≡ t → (is_none (bus_kind_in bs id) ≡ true → AllByRecursion (λ x. x.id ≢ id) bs)
        → is_none (option_map (λ x. bus_kind_of x.name) (cond t (Some b) (find (λ x. x.id == id) bs))) ≡ true → AllByRecursion (λ x. x.id ≢ id) (b ∷ bs)
    go true q k r = absurd (cc)
    go false q k r = (λ (m : b.id ≡ id). grind (arith, nat_tests), k r)

fewer : (n m : ℕ) → nat_lt (1 + n) (suc m) ≡ false → nat_lt n m ≡ false
fewer n m r = grind (arith, nat_tests)

no_place : (id : ℕ) (xs : List IoApic) → nat_lt (position_or_len (λ (io : IoApic). io.id == id) xs) (length xs) ≡ false → AllByRecursion (λ io. io.id ≢ id) xs
no_place id [] h = tt
no_place id (x ∷ xs) h = go (x.id == id) refl (no_place id xs) (position_or_len (λ (io : IoApic). io.id == id) xs) refl h
  where
    go : (t : Bool) → (x.id == id) ≡ t → (nat_lt (position_or_len (λ (io : IoApic). io.id == id) xs) (length xs) ≡ false → AllByRecursion (λ io. io.id ≢ id) xs)
        → (n : ℕ) → n ≡ position_or_len (λ (io : IoApic). io.id == id) xs → nat_lt (cond (not t) (1 + n) 0) (suc (length xs)) ≡ false → AllByRecursion (λ io. io.id ≢ id) (x ∷ xs)
    go true q k n e r = absurd (grind (arith, nat_tests))
    go false q k n e r = (λ (m : x.id ≡ id). grind (arith, nat_tests), k (ap (λ (j : ℕ). nat_lt j (length xs)) (sym e) ∙ fewer n (length xs) r))

pub unknown_io : (id : ℕ) (xs : List IoApic) → is_none (position (λ (io : IoApic). io.id == id) xs) ≡ true → AllByRecursion (λ io. io.id ≢ id) xs
unknown_io id xs h = no_place id xs (go (nat_lt (position_or_len (λ (io : IoApic). io.id == id) xs) (length xs)) (position_or_len (λ (io : IoApic). io.id == id) xs) h)
  where
    go : (t : Bool) (k : ℕ) → is_none (cond t (Some k) None) ≡ true → t ≡ false
    go true k q = absurd (cc)
    go false k q = refl

pub unknown_kind : (k : ℕ) → is_none (kind_of k) ≡ true → 3 < k
unknown_kind k h = grind (arith, nat_tests)

either_reserved : (a : Polarity) (b : Trigger) → is_reserved a b ≡ true → (a ≡ polarity.Reserved) ⊎ (b ≡ trigger.Reserved)
either_reserved polarity.Reserved b h = inl refl
either_reserved polarity.Conforms trigger.Reserved h = inr refl
either_reserved polarity.High trigger.Reserved h = inr refl
either_reserved polarity.Low trigger.Reserved h = inr refl
either_reserved polarity.Conforms trigger.Conforms h = absurd (cc)
either_reserved polarity.Conforms trigger.Edge h = absurd (cc)
either_reserved polarity.Conforms trigger.Level h = absurd (cc)
either_reserved polarity.High trigger.Conforms h = absurd (cc)
either_reserved polarity.High trigger.Edge h = absurd (cc)
either_reserved polarity.High trigger.Level h = absurd (cc)
either_reserved polarity.Low trigger.Conforms h = absurd (cc)
either_reserved polarity.Low trigger.Edge h = absurd (cc)
either_reserved polarity.Low trigger.Level h = absurd (cc)

either_open : (a : Polarity) (b : Trigger) → conforms a b ≡ true → (a ≡ polarity.Conforms) ⊎ (b ≡ trigger.Conforms)
either_open polarity.Conforms b h = inl refl
either_open polarity.Reserved trigger.Conforms h = inr refl
either_open polarity.High trigger.Conforms h = inr refl
either_open polarity.Low trigger.Conforms h = inr refl
either_open polarity.Reserved trigger.Reserved h = absurd (cc)
either_open polarity.Reserved trigger.Edge h = absurd (cc)
either_open polarity.Reserved trigger.Level h = absurd (cc)
either_open polarity.High trigger.Reserved h = absurd (cc)
either_open polarity.High trigger.Edge h = absurd (cc)
either_open polarity.High trigger.Level h = absurd (cc)
either_open polarity.Low trigger.Reserved h = absurd (cc)
either_open polarity.Low trigger.Edge h = absurd (cc)
either_open polarity.Low trigger.Level h = absurd (cc)

-- four values by three tests
four : {V : Type 0} (n : ℕ) (v0 v1 v2 v3 x : V) → cond (n == 0) v0 (cond (n == 1) v1 (cond (n == 2) v2 v3)) ≡ x → (v0 ≡ x × (n ≡ 0)) ⊎ ((v1 ≡ x) ⊎ ((v2 ≡ x × (n ≡ 2)) ⊎ (v3 ≡ x)))
four {V} n v0 v1 v2 v3 x h = go (n == 0) (n == 1) (n == 2) (λ q. grind (arith, nat_tests)) (λ q. grind (arith, nat_tests)) h
  where
    go : (a b c : Bool) → (a ≡ true → n ≡ 0) → (c ≡ true → n ≡ 2) → cond a v0 (cond b v1 (cond c v2 v3)) ≡ x → (v0 ≡ x × (n ≡ 0)) ⊎ ((v1 ≡ x) ⊎ ((v2 ≡ x × (n ≡ 2)) ⊎ (v3 ≡ x)))
    go true b c p q r = inl (r, p refl)
    go false true c p q r = inr (inl r)
    go false false true p q r = inr (inr (inl (r, q refl)))
    go false false false p q r = inr (inr (inr r))

is_two_p : (n : ℕ) → polarity_of_bits n ≡ polarity.Reserved → n ≡ 2
is_two_p n h = elim (four n polarity.Conforms polarity.High polarity.Reserved polarity.Low polarity.Reserved h) [ inl w ↦ absurd (let k = w.0 in cc) | inr v ↦ elim v [ inl w ↦ absurd (cc) | inr u ↦ elim u [ inl w ↦ w.1 | inr w ↦ absurd (cc) ] ] ]

is_two_t : (n : ℕ) → trigger_of_bits n ≡ trigger.Reserved → n ≡ 2
is_two_t n h = elim (four n trigger.Conforms trigger.Edge trigger.Reserved trigger.Level trigger.Reserved h) [ inl w ↦ absurd (let k = w.0 in cc) | inr v ↦ elim v [ inl w ↦ absurd (cc) | inr u ↦ elim u [ inl w ↦ w.1 | inr w ↦ absurd (cc) ] ] ]

is_zero_p : (n : ℕ) → polarity_of_bits n ≡ polarity.Conforms → n ≡ 0
is_zero_p n h = elim (four n polarity.Conforms polarity.High polarity.Reserved polarity.Low polarity.Conforms h) [ inl w ↦ w.1 | inr v ↦ elim v [ inl w ↦ absurd (cc) | inr u ↦ elim u [ inl w ↦ absurd (let k = w.0 in cc) | inr w ↦ absurd (cc) ] ] ]

is_zero_t : (n : ℕ) → trigger_of_bits n ≡ trigger.Conforms → n ≡ 0
is_zero_t n h = elim (four n trigger.Conforms trigger.Edge trigger.Reserved trigger.Level trigger.Conforms h) [ inl w ↦ w.1 | inr v ↦ elim v [ inl w ↦ absurd (cc) | inr u ↦ elim u [ inl w ↦ absurd (let k = w.0 in cc) | inr w ↦ absurd (cc) ] ] ]

reserved : (f : ℕ) → is_reserved (polarity_of f) (trigger_of f) ≡ true → (f % 4 ≡ 2) ⊎ (f / 4 % 4 ≡ 2)
reserved f h = elim (either_reserved (polarity_of f) (trigger_of f) h) [ inl k ↦ inl (is_two_p (f % 4) k) | inr k ↦ inr (is_two_t (f / 4 % 4) k) ]

open_field : (f : ℕ) → conforms (polarity_of f) (trigger_of f) ≡ true → (f % 4 ≡ 0) ⊎ (f / 4 % 4 ≡ 0)
open_field f h = elim (either_open (polarity_of f) (trigger_of f) h) [ inl k ↦ inl (is_zero_p (f % 4) k) | inr k ↦ inr (is_zero_t (f / 4 % 4) k) ]

and_left : (a b : Bool) → (a && b) ≡ true → a ≡ true
and_left true b h = refl
and_left false b h = absurd (cc)

and_right : (a b : Bool) → (a && b) ≡ true → b ≡ true
and_right true b h = h
and_right false b h = absurd (cc)

other : (b : Option BusKind) → is_other b ≡ true → b ≡ Some bus.Other
other None h = absurd (cc)
other (Some bus.Isa) h = absurd (cc)
other (Some bus.Eisa) h = absurd (cc)
other (Some bus.Pci) h = absurd (cc)
other (Some bus.Mca) h = absurd (cc)
other (Some bus.Other) h = refl

-- who took a pin
taker : (io pin low : ℕ) (xs : List Answer) → taken_by io pin xs ≡ Some low → (i : ℕ) × (r : Route) × (slice_get xs i ≡ Some (answer.Routed r)) × (r.io ≡ io) × (r.pin ≡ pin) × (r.low ≡ low)
taker io pin low [] h = absurd (cc)
taker io pin low (answer.Unrouted n w ∷ xs) h = let t = taker io pin low xs h in (suc t.0, t.1, t.2, t.3, t.4, t.5)
taker io pin low (answer.Routed r ∷ xs) h = go ((r.io == io) && (r.pin == pin)) refl (taker io pin low xs) h
  where
    go : (t : Bool) → ((r.io == io) && (r.pin == pin)) ≡ t
        → (taken_by io pin xs ≡ Some low → (i : ℕ) × (s : Route) × (slice_get xs i ≡ Some (answer.Routed s)) × (s.io ≡ io) × (s.pin ≡ pin) × (s.low ≡ low))
        → option_or (cond t (Some r.low) None) (taken_by io pin xs) ≡ Some low
        → (i : ℕ) × (s : Route) × (slice_get (answer.Routed r ∷ xs) i ≡ Some (answer.Routed s)) × (s.io ≡ io) × (s.pin ≡ pin) × (s.low ≡ low)
    go true q again k = (zero, r, refl, grind (arith, nat_tests), grind (arith, nat_tests), cc)
    go false q again k = let t = again k in (suc t.0, t.1, t.2, t.3, t.4, t.5)

-- the other way round: the sentence passes the test
no_bus : (id : ℕ) (bs : List Bus) → AllByRecursion (λ b. b.id ≢ id) bs → is_none (bus_kind_in bs id) ≡ true
no_bus id [] h = refl
no_bus id (b ∷ bs) h = go (b.id == id) (grind (arith, nat_tests, h.0)) (no_bus id bs h.1)
  where
    go : (t : Bool) → t ≡ false → is_none (bus_kind_in bs id) ≡ true → is_none (option_map (λ x. bus_kind_of x.name) (cond t (Some b) (find (λ x. x.id == id) bs))) ≡ true
    go true n k = absurd (cc)
    go false n k = k

past_io : (id : ℕ) (xs : List IoApic) → AllByRecursion (λ io. io.id ≢ id) xs → nat_lt (position_or_len (λ (io : IoApic). io.id == id) xs) (length xs) ≡ false
past_io id [] h = refl
past_io id (x ∷ xs) h = step (x.id == id) (grind (arith, nat_tests, h.0)) (position_or_len (λ (io : IoApic). io.id == id) xs) (past_io id xs h.1)
  where
    step : (t : Bool) → t ≡ false → (n : ℕ) → nat_lt n (length xs) ≡ false → nat_lt (cond (not t) (1 + n) 0) (suc (length xs)) ≡ false
    step true w n q = absurd (cc)
    step false w n q = grind (arith, nat_tests)

no_io : (id : ℕ) (xs : List IoApic) → AllByRecursion (λ io. io.id ≢ id) xs → is_none (position (λ (io : IoApic). io.id == id) xs) ≡ true
no_io id xs h = go (nat_lt (position_or_len (λ (io : IoApic). io.id == id) xs) (length xs)) (position_or_len (λ (io : IoApic). io.id == id) xs) (past_io id xs h)
  where
    go : (t : Bool) (k : ℕ) → t ≡ false → is_none (cond t (Some k) None) ≡ true
    go true k q = absurd (cc)
    go false k q = refl

no_kind : (k : ℕ) → 3 < k → is_none (kind_of k) ≡ true
no_kind k h = grind (arith, nat_tests)

is_reserved_by : (f : ℕ) → (f % 4 ≡ 2) ⊎ (f / 4 % 4 ≡ 2) → is_reserved (polarity_of f) (trigger_of f) ≡ true
is_reserved_by f (inl h) = ap (λ (n : ℕ). is_reserved (polarity_of_bits n) (trigger_of f)) h
is_reserved_by f (inr h) = ap (λ (n : ℕ). is_reserved (polarity_of f) (trigger_of_bits n)) h ∙ any (polarity_of f)
  where
    any : (a : Polarity) → is_reserved a trigger.Reserved ≡ true
    any polarity.Conforms = refl
    any polarity.High = refl
    any polarity.Reserved = refl
    any polarity.Low = refl

conforms_by : (f : ℕ) → (f % 4 ≡ 0) ⊎ (f / 4 % 4 ≡ 0) → conforms (polarity_of f) (trigger_of f) ≡ true
conforms_by f (inl h) = ap (λ (n : ℕ). conforms (polarity_of_bits n) (trigger_of f)) h
conforms_by f (inr h) = ap (λ (n : ℕ). conforms (polarity_of f) (trigger_of_bits n)) h ∙ any (polarity_of f)
  where
    any : (a : Polarity) → conforms a trigger.Conforms ≡ true
    any polarity.Conforms = refl
    any polarity.High = refl
    any polarity.Reserved = refl
    any polarity.Low = refl

-- where nobody takes a pin, no answer has a route on it
nobody : (xs : List Answer) (i io pin : ℕ) (r : Route) → slice_get xs i ≡ Some (answer.Routed r) → r.io ≡ io → r.pin ≡ pin → taken_by io pin xs ≡ None → ⊥
nobody [] i io pin r h a b q = absurd (cc)
nobody (x ∷ xs) zero io pin r h a b q =
    let same : x ≡ answer.Routed r = cc in
    go ((r.io == io) && (r.pin == pin)) (grind (arith, nat_tests)) (ap (λ (y : Answer). option_or (low_on io pin y) (taken_by io pin xs)) (sym same) ∙ q)
  where
    go : (t : Bool) → t ≡ true → option_or (cond t (Some r.low) None) (taken_by io pin xs) ≡ None → ⊥
    go true e k = absurd (cc)
    go false e k = absurd (cc)
nobody (x ∷ xs) (suc i) io pin r h a b q = nobody xs i io pin r h a b (rest (low_on io pin x) (taken_by io pin xs) q)
  where
    rest : (o p : Option ℕ) → option_or o p ≡ None → p ≡ None
    rest None p k = k
    rest (Some y) p k = absurd (cc)

-- a member of the first n is a member
inside_take : (n i : ℕ) (xs : List Answer) (a : Answer) → slice_get (take n xs) i ≡ Some a → slice_get xs i ≡ Some a
inside_take zero i [] a h = h
inside_take zero i (x ∷ xs) a h = absurd (cc)
inside_take (suc n) i [] a h = h
inside_take (suc n) zero (x ∷ xs) a h = h
inside_take (suc n) (suc i) (x ∷ xs) a h = inside_take n i xs a h

-- at most one answer has a route on a pin
abbrev pub TakesOnce : List Answer → Type 0
TakesOnce xs = (i j : ℕ) (r s : Route) → i < j → slice_get xs i ≡ Some (answer.Routed r) → slice_get xs j ≡ Some (answer.Routed s) → r.io ≡ s.io → r.pin ≡ s.pin → ⊥

-- the first taker of a pin is an earlier answer on it
module _ (p : Platform) (elcr : ℕ) (earlier : List Answer) (e : IntEntry) where
  abbrev low : ℕ
  low = (asked_row p elcr earlier e).low

  abbrev taken : Option ℕ
  taken = taken_by (asked_row p elcr earlier e).io e.pin earlier

  clash : (o : Option ℕ) → taken ≡ o → is_some_other low o ≡ true → IsUnroutedBecause p elcr earlier e why.Clash
  clash None q h = absurd (cc)
  clash (Some x) q h =
      let t = taker (asked_row p elcr earlier e).io e.pin x earlier q in
      let differ : x ≢ low = apart x low h in
      (t.1, record { place = t.0; there = t.2; io = t.3; pin = t.4 }, λ (k : t.1.low ≡ low). differ (sym t.5 ∙ k))
    where
      apart : (a b : ℕ) → not (a == b) ≡ true → a ≢ b
      apart a b q k = grind (arith, nat_tests)

  shared : (o : Option ℕ) → taken ≡ o → is_some_same low o ≡ true → IsUnroutedBecause p elcr earlier e why.Shared
  shared None q h = absurd (cc)
  shared (Some x) q h =
      let t = taker (asked_row p elcr earlier e).io e.pin x earlier q in
      let same : x ≡ low = meet x low h in
      (t.1, record { place = t.0; there = t.2; io = t.3; pin = t.4 }, t.5 ∙ same)
    where
      meet : (a b : ℕ) → (a == b) ≡ true → a ≡ b
      meet a b q = grind (arith, nat_tests)

  abbrev test : Why → Bool
  test = has_reason (bus_kind_in p.buses e.bus) (io_place_in p.ios e.dest) taken low e

  -- a test that passes is the sentence
  meant : (reason : Why) → test reason ≡ true → IsUnroutedBecause p elcr earlier e reason
  meant why.DestWide h = grind (arith, nat_tests)
  meant why.UnknownBus h = unknown_bus e.bus p.buses h
  meant why.UnknownIo h = unknown_io e.dest (take 4 (filter is_enabled p.ios)) h
  meant why.PinRange h = grind (arith, nat_tests)
  meant why.UnknownKind h = unknown_kind e.kind h
  meant why.ReservedFlag h = reserved e.flags h
  meant why.Conforms h = (
    other (bus_kind_in p.buses e.bus) (and_left (is_other (bus_kind_in p.buses e.bus)) (conforms (polarity_of e.flags) (trigger_of e.flags)) h),
    open_field e.flags (and_right (is_other (bus_kind_in p.buses e.bus)) (conforms (polarity_of e.flags) (trigger_of e.flags)) h),
  )
  meant why.Clash h = clash taken refl h
  meant why.Shared h = shared taken refl h

  -- so a route on the pin is that of its taker
  only_taker : TakesOnce earlier → (r : Route) → IsOnAskedPin p elcr earlier e r → taken ≡ Some r.low
  only_taker once r h = go taken refl
    where
      order : (m n : ℕ) → (m < n) ⊎ ((n < m) ⊎ (m ≡ n))
      order m n = grind arith

      go : (o : Option ℕ) → taken ≡ o → taken ≡ Some r.low
      go None q = absurd (nobody earlier h.place (asked_row p elcr earlier e).io e.pin r h.there h.io h.pin q)
      go (Some x) q =
          let t = taker (asked_row p elcr earlier e).io e.pin x earlier q in
          elim (order t.0 h.place) [
            | inl l ↦ absurd (once t.0 h.place t.1 r l t.2 h.there (t.3 ∙ sym h.io) (t.4 ∙ sym h.pin))
            | inr (inl l) ↦ absurd (once h.place t.0 r t.1 l h.there t.2 (h.io ∙ sym t.3) (h.pin ∙ sym t.4))
            | inr (inr same) ↦ let both : Some (answer.Routed t.1) ≡ Some (answer.Routed r) = sym t.2 ∙ ap (slice_get earlier) same ∙ h.there in
                let is : t.1 ≡ r = cc in q ∙ ap Some (sym t.5 ∙ ap (λ (s : Route). s.low) is)
          ]

  -- the sentence passes the test
  tested : TakesOnce earlier → (reason : Why) → IsUnroutedBecause p elcr earlier e reason → test reason ≡ true
  tested once why.DestWide h = grind (arith, nat_tests)
  tested once why.UnknownBus h = no_bus e.bus p.buses h
  tested once why.UnknownIo h = no_io e.dest (take 4 (filter is_enabled p.ios)) h
  tested once why.PinRange h = grind (arith, nat_tests)
  tested once why.UnknownKind h = no_kind e.kind h
  tested once why.ReservedFlag h = is_reserved_by e.flags h
  tested once why.Conforms h = ap (λ (b : Option BusKind). is_other b && conforms (polarity_of e.flags) (trigger_of e.flags)) h.0 ∙ conforms_by e.flags h.1
  tested once why.Clash h = ap (is_some_other low) (only_taker once h.0 h.1) ∙ differs h.0.low low h.2
    where
      differs : (a b : ℕ) → a ≢ b → not (a == b) ≡ true
      differs a b n = grind (arith, nat_tests)
  tested once why.Shared h = ap (is_some_same low) (only_taker once h.0 h.1) ∙ same h.0.low low h.2
    where
      same : (a b : ℕ) → a ≡ b → (a == b) ≡ true
      same a b q = grind (arith, nat_tests)

  fails : TakesOnce earlier → (reason : Why) → test reason ≡ false → ¬ IsUnroutedBecause p elcr earlier e reason
  fails once reason h s = let wrong : false ≡ true = sym h ∙ tested once reason s in absurd (cc)

  -- the answer after the earlier ones is the answer to the entry
  pub answers_entry : TakesOnce earlier → IsAnswerTo p elcr earlier e (answer_after p elcr earlier e)
  answers_entry once = go (find test reasons) refl
    where
      go : (o : Option Why) → find test reasons ≡ o → IsAnswerTo p elcr earlier e (answer_unless o (asked_row p elcr earlier e))
      go None q = (refl, λ v. fails once v (none_found test reasons (place_of v) v q (listed v)))
      go (Some w) q =
          let t = first_found test reasons w q in
          (refl, meant w t.2, λ v l. fails once v (t.3 (place_of v) v (let at : place_of w ≡ t.0 = placed t.0 w t.1 in omega arith) (listed v)))

-- the routes are an answer to each entry
pub are_routes : (p : Platform) (elcr : ℕ) → AreRoutesOf p elcr (routes_of p elcr)
are_routes p elcr = record {
  count = has_answer_per_entry p elcr;
  each = λ i e h. (answer_after p elcr (take i (routes_of p elcr)) e, follows_earlier p elcr i e h, answers_entry p elcr (take i (routes_of p elcr)) e (once (routes_of p elcr) i (takes_pins_once p elcr)));
}
  where
    once : (xs : List Answer) (n : ℕ) → TakesOnce xs → TakesOnce (take n xs)
    once xs n h i j r s l hr hs io pin = h i j r s l (inside_take n i xs (answer.Routed r) hr) (inside_take n j xs (answer.Routed s) hs) io pin

pub are_routes_at : (p : Platform) (elcr : ℕ) (answers : List Answer) → answers ≡ routes_of p elcr → AreRoutesOf p elcr answers
are_routes_at p elcr answers e = subst (AreRoutesOf p elcr) (sym e) (are_routes p elcr)
