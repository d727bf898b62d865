-- Pins by their numbers, masks by their bits.
use Rattle.std.proofs.Common.{◌≡◌, ◌≢◌, ◌==◌, ℕ, zero, suc, ◌+◌, ◌-◌, ◌*◌, ◌/◌, ◌%◌, ◌<◌, Bool, true, false, not, ◌&&◌, ◌||◌, cond, List, [], ◌∷◌, Some, None, option_map, slice_get, take, nat_lt, refl, sym, ap, ◌∙◌, subst, arith}
use Rattle.std.specs.List.{AllByRecursion}
use Rattle.std.specs.Int.{bit_at}
use Rattle.std.proofs.lemmas.Bool.{and_parts, and_from, and_right, or_right, not_from_false, eq-eqb, eqb-true, ltb-true, cond-true, cond-false}
use Rattle.std.proofs.lemmas.Nat.Bits.{bit_at_lowest, bit_at-suc, bit_at-zero}
use Rattle.mpb_spec.specs.declared.apic.Message.{Message}
use Rattle.mpb_spec.specs.declared.apic.Pin.{Pin}
use Rattle.mpb_spec.specs.IoApic.{is_masked, is_level, vector_of, with_low, with_high, with_line, with_pulse, with_sent, with_eoi, takes_pulse, pulsed, pulsed_due, pulsed_joined, mask_by, change_pin, message_of, next_due_from}
use Rattle.mpb_spec.specs.Steps.{all_left, left_after}
use Rattle.mpb_core_laws.specs.Words.{has_bit, where_named, IsDueLeast, IsQuietWhereMasked}

-- one pin changes
pub change_pin-itself : (f : Pin → Pin) (pins : List Pin) (n : ℕ) → slice_get (change_pin n f pins) n ≡ option_map f (slice_get pins n)
change_pin-itself f [] n = refl
change_pin-itself f (p ∷ ps) zero = refl
change_pin-itself f (p ∷ ps) (suc n) = change_pin-itself f ps n

pub change_pin-others : (f : Pin → Pin) (pins : List Pin) (n k : ℕ) → n ≢ k → slice_get (change_pin n f pins) k ≡ slice_get pins k
change_pin-others f [] n k ne = refl
change_pin-others f (p ∷ ps) zero zero ne = absurd (ne refl)
change_pin-others f (p ∷ ps) zero (suc k) ne = refl
change_pin-others f (p ∷ ps) (suc n) zero ne = refl
change_pin-others f (p ∷ ps) (suc n) (suc k) ne = change_pin-others f ps n k (λ e. ne (ap suc e))

-- the lowest bit, and the others
has_bit-lowest : (m : ℕ) → has_bit m 0 ≡ (m % 2 == 1)
has_bit-lowest m = ap (λ b. b == 1) (bit_at_lowest m)

has_bit-suc : (m n : ℕ) → has_bit m (suc n) ≡ has_bit (m / 2) n
has_bit-suc m n = ap (λ b. b == 1) (bit_at-suc m n)

-- a mask by its lowest bit and the rest
first_bit : (c : Bool) (m : ℕ) → has_bit (cond c 1 0 + 2 * m) 0 ≡ c
first_bit true m = has_bit-lowest (1 + 2 * m) ∙ eq-eqb ((1 + 2 * m) % 2) 1 (omega arith)
first_bit false m = has_bit-lowest (0 + 2 * m) ∙ (let even : (0 + 2 * m) % 2 ≡ 0 = omega arith in rw even refl)

later_bit : (c : Bool) (m n : ℕ) → has_bit (cond c 1 0 + 2 * m) (suc n) ≡ has_bit m n
later_bit c m n = has_bit-suc (cond c 1 0 + 2 * m) n ∙ ap (λ k. has_bit k n) (half c) where
  half : (c : Bool) → (cond c 1 0 + 2 * m) / 2 ≡ m
  half true = omega arith
  half false = omega arith

pub pulsed-get : (mask n : ℕ) (pins : List Pin) → slice_get (pulsed mask pins) n ≡ option_map (λ p. where_named (has_bit mask n) p) (slice_get pins n)
pulsed-get mask n [] = refl
pulsed-get mask zero (p ∷ ps) = ap (λ b. Some (where_named b p)) (sym (has_bit-lowest mask))
pulsed-get mask (suc n) (p ∷ ps) = pulsed-get (mask / 2) n ps ∙ ap (λ b. option_map (λ q. where_named b q) (slice_get ps n)) (sym (has_bit-suc mask n))

-- a mask that is made from the pins that another names
named-bit : (test : Pin → Bool) (f : ℕ → List Pin → ℕ)
    → ((m : ℕ) (p : Pin) (ps : List Pin) → f m (p ∷ ps) ≡ cond ((m % 2 == 1) && test p) 1 0 + 2 * f (m / 2) ps)
    → (mask n : ℕ) (pins : List Pin) (p : Pin) → slice_get pins n ≡ Some p → has_bit (f mask pins) n ≡ (has_bit mask n && test p)
named-bit test f by mask n [] p h = cc
named-bit test f by mask zero (q ∷ ps) p h =
    let e : q ≡ p = cc in
    ap (λ k. has_bit k 0) (by mask q ps)
    ∙ first_bit ((mask % 2 == 1) && test q) (f (mask / 2) ps)
    ∙ ap (λ b. b && test q) (sym (has_bit-lowest mask))
    ∙ ap (λ (x : Pin). has_bit mask 0 && test x) e
named-bit test f by mask (suc n) (q ∷ ps) p h =
    ap (λ k. has_bit k (suc n)) (by mask q ps)
    ∙ later_bit ((mask % 2 == 1) && test q) (f (mask / 2) ps) n
    ∙ named-bit test f by (mask / 2) n ps p h
    ∙ ap (λ b. b && test p) (sym (has_bit-suc mask n))

pub pulsed_due-bit : (mask n : ℕ) (pins : List Pin) (p : Pin) → slice_get pins n ≡ Some p → has_bit (pulsed_due mask pins) n ≡ (has_bit mask n && (takes_pulse p && not p.due))
pulsed_due-bit = named-bit (λ p. takes_pulse p && not p.due) pulsed_due (λ m p ps. refl)

pub pulsed_joined-bit : (mask n : ℕ) (pins : List Pin) (p : Pin) → slice_get pins n ≡ Some p → has_bit (pulsed_joined mask pins) n ≡ (has_bit mask n && (takes_pulse p && p.due))
pulsed_joined-bit = named-bit (λ p. takes_pulse p && p.due) pulsed_joined (λ m p ps. refl)

pub mask_by-bit : (f : Pin → Bool) (n : ℕ) (pins : List Pin) (p : Pin) → slice_get pins n ≡ Some p → has_bit (mask_by f pins) n ≡ f p
mask_by-bit f n [] p h = cc
mask_by-bit f zero (q ∷ ps) p h = let e : q ≡ p = cc in first_bit (f q) (mask_by f ps) ∙ ap f e
mask_by-bit f (suc n) (q ∷ ps) p h = later_bit (f q) (mask_by f ps) n ∙ mask_by-bit f n ps p h

-- what is left to collect
pub all_left-named : (mask n k : ℕ) (left : List ℕ) → all_left mask left ≡ true → slice_get left n ≡ Some k → has_bit mask n ≡ true → 0 < k
all_left-named mask n k [] all get bit = cc
all_left-named mask zero k (x ∷ xs) all get bit =
    let e : x ≡ k = cc in
    let here = (and_parts (cond (mask % 2 == 1) (nat_lt 0 x) true) (all_left (mask / 2) xs) all).0 in
    let odd : (mask % 2 == 1) ≡ true = sym (has_bit-lowest mask) ∙ bit in
    let some = ltb-true 0 x (rw odd at here) in
    omega (arith, e, some)
all_left-named mask (suc n) k (x ∷ xs) all get bit =
    all_left-named (mask / 2) n k xs (and_parts (cond (mask % 2 == 1) (nat_lt 0 x) true) (all_left (mask / 2) xs) all).1 get (sym (has_bit-suc mask n) ∙ bit)

pub all_left-beyond : (mask n : ℕ) (left : List ℕ) → all_left mask left ≡ true → slice_get left n ≡ None → has_bit mask n ≡ false
all_left-beyond mask n [] all get = let none : mask ≡ 0 = eqb-true mask 0 all in ap (λ m. has_bit m n) none ∙ ap (λ b. b == 1) (bit_at-zero n)
all_left-beyond mask zero (x ∷ xs) all get = cc
all_left-beyond mask (suc n) (x ∷ xs) all get =
    has_bit-suc mask n ∙ all_left-beyond (mask / 2) n xs (and_parts (cond (mask % 2 == 1) (nat_lt 0 x) true) (all_left (mask / 2) xs) all).1 get

pub left_after-get : (mask n : ℕ) (left : List ℕ) → slice_get (left_after mask left) n ≡ option_map (λ k. k - bit_at mask n) (slice_get left n)
left_after-get mask n [] = refl
left_after-get mask zero (x ∷ xs) = ap (λ b. Some (x - b)) (sym (bit_at_lowest mask))
left_after-get mask (suc n) (x ∷ xs) = left_after-get (mask / 2) n xs ∙ ap (λ b. option_map (λ k. k - b) (slice_get xs n)) (sym (bit_at-suc mask n))

-- the least due pin, where the first of these pins has number k
record IsDueFrom (k : ℕ) (m : Message) (pins : List Pin) : Type 0 where
  pub index : ℕ
  pub pin : Pin
  pub number : m.pin ≡ k + index
  pub here : slice_get pins index ≡ Some pin
  pub due : pin.due ≡ true
  pub message : m ≡ message_of m.pin pin
  pub none_before : AllByRecursion (λ p. p.due ≡ false) (take index pins)

due-from : (k : ℕ) (pins : List Pin) (m : Message) → next_due_from k pins ≡ Some m → IsDueFrom k m pins
due-from k [] m e = cc
due-from k (p ∷ ps) m e = go p.due refl e (due-from (k + 1) ps m) where
  go : (b : Bool) → p.due ≡ b → cond b (Some (message_of k p)) (next_due_from (k + 1) ps) ≡ Some m → (next_due_from (k + 1) ps ≡ Some m → IsDueFrom (k + 1) m ps) → IsDueFrom k m (p ∷ ps)
  go true w e rest =
      let is : message_of k p ≡ m = cc in
      let number : m.pin ≡ k = ap (λ (x : Message). x.pin) (sym is) in
      record { index = 0; pin = p; number = omega (arith, number); here = refl; due = w; message = sym is ∙ ap (λ n. message_of n p) (sym number); none_before = tt }
  go false w e rest =
      let h = rest e in
      record { index = suc h.index; pin = h.pin; number = omega (arith, h.number); here = h.here; due = h.due; message = h.message; none_before = (w, h.none_before) }

pub next_due-some : (pins : List Pin) (m : Message) → next_due_from 0 pins ≡ Some m → IsDueLeast m pins
next_due-some pins m e =
    let h = due-from 0 pins m e in
    let same : h.index ≡ m.pin = omega (arith, h.number) in
    record {
      pin = h.pin;
      here = subst (λ (i : ℕ). slice_get pins i ≡ Some h.pin) same h.here;
      due = h.due;
      message = h.message;
      none_before = subst (λ (i : ℕ). AllByRecursion (λ p. p.due ≡ false) (take i pins)) same h.none_before;
    }

none-from : (k : ℕ) (pins : List Pin) → next_due_from k pins ≡ None → AllByRecursion (λ p. p.due ≡ false) pins
none-from k [] e = tt
none-from k (p ∷ ps) e = go p.due refl e (none-from (k + 1) ps) where
  go : (b : Bool) → p.due ≡ b → cond b (Some (message_of k p)) (next_due_from (k + 1) ps) ≡ None → (next_due_from (k + 1) ps ≡ None → AllByRecursion (λ p. p.due ≡ false) ps) → AllByRecursion (λ p. p.due ≡ false) (p ∷ ps)
  go true w e rest = cc
  go false w e rest = (w, rest e)

pub next_due-none : (pins : List Pin) → next_due_from 0 pins ≡ None → AllByRecursion (λ p. p.due ≡ false) pins
next_due-none pins e = none-from 0 pins e

-- masked pins
pub quiet-low : (p : Pin) (value : ℕ) → IsQuietWhereMasked (with_low value p)
quiet-low p value e = rw e refl

pub quiet-high : (p : Pin) (value : ℕ) → IsQuietWhereMasked p → IsQuietWhereMasked (with_high value p)
quiet-high p value h e = h e

line_quiet : (level high line masked remote due : Bool) → masked ≡ true → due ≡ false → cond level (cond high (due || (not line && (not masked && not remote))) (due && not line)) due ≡ false
line_quiet level high line false remote due e d = cc
line_quiet level high line true remote true e d = cc
line_quiet true true true true remote false e d = refl
line_quiet true true false true remote false e d = refl
line_quiet true false line true remote false e d = refl
line_quiet false high line true remote false e d = refl

pub quiet-line : (p : Pin) (high : Bool) → IsQuietWhereMasked p → IsQuietWhereMasked (with_line high p)
quiet-line p high h e = line_quiet (is_level p) high p.line (is_masked p) p.remote p.due e (h e)

pub quiet-pulse : (p : Pin) → IsQuietWhereMasked p → IsQuietWhereMasked (with_pulse p)
quiet-pulse p h e = let d = h e in rw (d, e) refl

pub quiet-sent : (p : Pin) (accepted : Bool) → IsQuietWhereMasked (with_sent accepted p)
quiet-sent p accepted e = refl

pub quiet-eoi : (p : Pin) (vector : ℕ) → IsQuietWhereMasked p → IsQuietWhereMasked (with_eoi vector p)
quiet-eoi p vector h = go (is_level p && ((vector_of p == vector) && p.remote)) where
  none : (a : Bool) → (a && false) ≡ false
  none true = refl
  none false = refl

  go : (b : Bool) → IsQuietWhereMasked (cond b (record p { remote = false; due = p.line && not (is_masked p) }) p)
  go true e = rw e (none p.line)
  go false e = h e

-- level pins
pub due-again : (p : Pin) → is_level p ≡ true → is_masked p ≡ false → p.line ≡ true → (with_eoi (vector_of p) (with_sent true p)).due ≡ true
due-again p level unmasked line =
    let q = with_sent true p in
    let passes : (is_level q && ((vector_of q == vector_of p) && q.remote)) ≡ true = and_from (is_level p) ((vector_of p == vector_of p) && (p.remote || is_level p)) level (and_from (vector_of p == vector_of p) (p.remote || is_level p) (eq-eqb (vector_of p) (vector_of p) refl) (or_right p.remote (is_level p) level)) in
    ap (λ (x : Pin). x.due) (cond-true (is_level q && ((vector_of q == vector_of p) && q.remote)) (record q { remote = false; due = q.line && not (is_masked q) }) q passes)
    ∙ and_from p.line (not (is_masked p)) line (not_from_false (is_masked p) unmasked)

stays : (level high line x : Bool) → line ≡ true → cond level (cond high (not line && x) false) false ≡ false
stays level high false x e = cc
stays true true true x e = refl
stays true false true x e = refl
stays false high true x e = refl

pub not_before : (p : Pin) (high : Bool) → p.line ≡ true → (with_line high (with_sent true p)).due ≡ false
not_before p high line = stays (is_level p) high p.line (not (is_masked p) && not (p.remote || is_level p)) line

pub cleared : (p : Pin) → is_level p ≡ true → (with_eoi (vector_of p) p).remote ≡ false
cleared p level = go p.remote refl where
  go : (b : Bool) → p.remote ≡ b → (with_eoi (vector_of p) p).remote ≡ false
  go true w =
      let passes : (is_level p && ((vector_of p == vector_of p) && p.remote)) ≡ true = and_from (is_level p) ((vector_of p == vector_of p) && p.remote) level (and_from (vector_of p == vector_of p) p.remote (eq-eqb (vector_of p) (vector_of p) refl) w) in
      ap (λ (x : Pin). x.remote) (cond-true (is_level p && ((vector_of p == vector_of p) && p.remote)) (record p { remote = false; due = p.line && not (is_masked p) }) p passes)
  go false w =
      let fails : (is_level p && ((vector_of p == vector_of p) && p.remote)) ≡ false = and_right (is_level p) ((vector_of p == vector_of p) && p.remote) (and_right (vector_of p == vector_of p) p.remote w) in
      ap (λ (x : Pin). x.remote) (cond-false (is_level p && ((vector_of p == vector_of p) && p.remote)) (record p { remote = false; due = p.line && not (is_masked p) }) p fails) ∙ w

-- a write of a low half
and_true : (a b : Bool) → b ≡ true → (a && b) ≡ a
and_true true true e = refl
and_true false true e = refl
and_true a false e = cc

pub low-edge : (p : Pin) (value : ℕ) → is_level (with_low value p) ≡ false → (with_low value p).remote ≡ false
low-edge p value e = and_right p.remote (is_level (with_low value p)) e

pub low-level : (p : Pin) (value : ℕ) → is_level (with_low value p) ≡ true → (with_low value p).remote ≡ p.remote
low-level p value e = and_true p.remote (is_level (with_low value p)) e
