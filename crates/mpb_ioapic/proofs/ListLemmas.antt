-- Lists of pins, of which one after another is read, changed and put back.
use Rattle.std.proofs.Common.{◌≡◌, ℕ, zero, suc, ◌+◌, ◌*◌, ◌/◌, ◌%◌, ◌<◌, ◌≤◌, ◌^◌, Bool, true, false, not, ◌&&◌, ◌==◌, cond, List, [], ◌∷◌, ◌++◌, length, get_or, set, take, drop, refl, sym, ap, ◌∙◌, arith, Some, map, option_map, slice_get, pow-suc, subst}
use mir.Val.{bool_byte}
use Rattle.std.proofs.Math.Nat.{pow-le-pow_right, div-div-eq-div-mul}
use Rattle.std.proofs.lemmas.List.{length-drop}
use Rattle.std.proofs.lemmas.Option.{slice_get_within, get_or_from_slice_get, slice_get-get_or}
use Rattle.mpb_spec.specs.declared.apic.Pin.{Pin}
use Rattle.mpb_spec.specs.IoApic.{reset_pin, change_pin, effect_at, effect_of, next_due_from, message_of, mask_by, pulsed, pulsed_due, pulsed_joined, with_pulse, takes_pulse}
use Rattle.mpb_spec.proofs.PinLemmas.{set-changed-at, effect-changed-at, map-more, next-due-skips, next-due-finds, mask-more, mask-below, pulsed-more, pulsed_due-more, pulsed_joined-more}

-- the pin that was read, at itself as the default
pin_at : (ps : List Pin) (n : ℕ) (p : Pin) → slice_get ps n ≡ Some p → get_or ps n p ≡ p
pin_at ps n p at = get_or_from_slice_get ps n p p at

-- the changed pin is put back
pub set-change : (n : ℕ) (f : Pin → Pin) (ps : List Pin) (p q : Pin) → slice_get ps n ≡ Some p → q ≡ f p → set ps n q ≡ change_pin n f ps
set-change n f ps p q at e = set-changed-at n f ps p q (slice_get_within ps n p at) (e ∙ ap f (sym (pin_at ps n p at)))

pub effect-change : (n : ℕ) (f : Pin → Pin) (ps : List Pin) (p q : Pin) → slice_get ps n ≡ Some p → q ≡ f p → effect_of p.due q.due ≡ effect_at n f ps
effect-change n f ps p q at e =
    ap (λ (y : Pin). effect_of y.due q.due) (sym (pin_at ps n p at)) ∙ effect-changed-at n f ps p q (slice_get_within ps n p at) (e ∙ ap f (sym (pin_at ps n p at)))

-- the pins before n are changed already, and pin n is put back changed
pub set-map : (f : Pin → Pin) (n : ℕ) (xs ys : List Pin) (p q : Pin) → n < length xs → ys ≡ map f (take n xs) ++ drop n xs → slice_get ys n ≡ Some p → q ≡ f p → set ys n q ≡ map f (take (suc n) xs) ++ drop (suc n) xs
set-map f n xs ys p q lt done at e = map-more f n xs ys p q lt done (e ∙ ap f (sym (pin_at ys n p at)))

-- a sign that was asked, at any default
sign_at : {B : Type 0} (f : Pin → B) (ps : List Pin) (n : ℕ) (b : B) (d : Pin) → n < length ps → option_map f (slice_get ps n) ≡ Some b → f (get_or ps n d) ≡ b
sign_at f ps n b d lt asked =
    let both : Some (f (get_or ps n d)) ≡ Some b = ap (option_map f) (sym (slice_get-get_or ps n d lt)) ∙ asked in cc

-- the search for the least due pin goes past pin n, or ends at it
pub next_due_from-past : (m n : ℕ) (ps : List Pin) → n < length ps → option_map (λ (y : Pin). y.due) (slice_get ps n) ≡ Some false → next_due_from m (drop n ps) ≡ next_due_from (m + 1) (drop (suc n) ps)
next_due_from-past m n ps lt off = next-due-skips m n ps reset_pin lt (sign_at (λ (y : Pin). y.due) ps n false reset_pin lt off)

pub next_due_from-at : (m n : ℕ) (ps : List Pin) (p : Pin) → n < length ps → option_map (λ (y : Pin). y.due) (slice_get ps n) ≡ Some true → slice_get ps n ≡ Some p → next_due_from m (drop n ps) ≡ Some (message_of m p)
next_due_from-at m n ps p lt on at = next-due-finds m n ps p lt (sign_at (λ (y : Pin). y.due) ps n true p lt on) ∙ ap (λ (y : Pin). Some (message_of m y)) (pin_at ps n p at)

-- a mask of the pins from n on, and one bit more
pub mask_by-from : (f : Pin → Bool) (n : ℕ) (ps : List Pin) (b : Bool) → n < length ps → option_map f (slice_get ps n) ≡ Some b → mask_by f (drop n ps) ≡ cond b 1 0 + 2 * mask_by f (drop (suc n) ps)
mask_by-from f n ps b lt asked = mask-more f n ps reset_pin lt ∙ ap (λ (v : Bool). cond v 1 0 + 2 * mask_by f (drop (suc n) ps)) (sign_at f ps n b reset_pin lt asked)

-- the pins from k on are pulsed already: pin k is as it was before
slice_get-done : (k : ℕ) (ps rest : List Pin) → k < length ps → slice_get (take (suc k) ps ++ rest) k ≡ slice_get ps k
slice_get-done k [] rest lt = absurd (omega arith)
slice_get-done zero (x ∷ ps) rest lt = refl
slice_get-done (suc k) (x ∷ ps) rest lt = slice_get-done k ps rest (omega arith)

set-done : (k : ℕ) (ps rest : List Pin) (q : Pin) → k < length ps → set (take (suc k) ps ++ rest) k q ≡ take k ps ++ q ∷ rest
set-done k [] rest q lt = absurd (omega arith)
set-done zero (x ∷ ps) rest q lt = refl
set-done (suc k) (x ∷ ps) rest q lt = ap (λ (l : List Pin). x ∷ l) (set-done k ps rest q (omega arith))

-- pin k of these, at any default
pub slice_get-not_yet : (k : ℕ) (ps rest now : List Pin) → k < length ps → now ≡ take (suc k) ps ++ rest → slice_get now k ≡ Some (get_or ps k reset_pin)
slice_get-not_yet k ps rest now lt done = ap (λ (l : List Pin). slice_get l k) done ∙ slice_get-done k ps rest lt ∙ slice_get-get_or ps k reset_pin lt

-- a pin that is put back as it was
pub set-same : (ps : List Pin) (n : ℕ) (p : Pin) → slice_get ps n ≡ Some p → ps ≡ set ps n p
set-same [] n p at = refl
set-same (x ∷ ps) zero p at = let e : x ≡ p = cc in ap (λ (y : Pin). y ∷ ps) e
set-same (x ∷ ps) (suc n) p at = ap (λ (l : List Pin). x ∷ l) (set-same ps n p at)

-- what was read is the one pin there
pub same_pin : (ps : List Pin) (n : ℕ) (p q : Pin) → slice_get ps n ≡ Some p → slice_get ps n ≡ Some q → q ≡ p
same_pin ps n p q at bt = cc

-- the mask's next bits
half_of : (m k : ℕ) → m / 2 ^ k / 2 ≡ m / 2 ^ suc k
half_of m k = div-div-eq-div-mul m (2 ^ k) 2 ∙ ap (λ (d : ℕ). m / d) (sym (pow-suc 2 k))

-- one step down of a collection: pin k is read, pulsed where it is named, and put back
module _ (m k : ℕ) (ps now : List Pin) (p : Pin) (named : Bool) (lt : k < length ps) (is_named : named ≡ (m / 2 ^ k % 2 == 1)) (done : now ≡ take (suc k) ps ++ pulsed (m / 2 ^ suc k) (drop (suc k) ps)) (at : slice_get now k ≡ Some p) where
  as_first : get_or ps k p ≡ p
  as_first = pin_at ps k p (sym (slice_get-done k ps (pulsed (m / 2 ^ suc k) (drop (suc k) ps)) lt) ∙ ap (λ (l : List Pin). slice_get l k) (sym done) ∙ at)

  pulsed_list : pulsed (m / 2 ^ k) (drop k ps) ≡ cond named (with_pulse p) p ∷ pulsed (m / 2 ^ suc k) (drop (suc k) ps)
  pulsed_list = rw (is_named, ← half_of m k) (subst (λ (y : Pin). pulsed (m / 2 ^ k) (drop k ps) ≡ cond (m / 2 ^ k % 2 == 1) (with_pulse y) y ∷ pulsed (m / 2 ^ k / 2) (drop (suc k) ps)) as_first (pulsed-more (m / 2 ^ k) k ps p lt))

  pub pulsed-down : (q : Pin) → q ≡ cond named (with_pulse p) p → set now k q ≡ take k ps ++ pulsed (m / 2 ^ k) (drop k ps)
  pulsed-down q e =
      let more : pulsed (m / 2 ^ k) (drop k ps) ≡ q ∷ pulsed (m / 2 ^ suc k) (drop (suc k) ps) = pulsed_list ∙ ap (λ (y : Pin). y ∷ pulsed (m / 2 ^ suc k) (drop (suc k) ps)) (sym e) in
      ap (λ (l : List Pin). set l k q) done ∙ set-done k ps (pulsed (m / 2 ^ suc k) (drop (suc k) ps)) q lt ∙ ap (λ (l : List Pin). take k ps ++ l) (sym more)

  pub pulsed_due-down : pulsed_due (m / 2 ^ k) (drop k ps) ≡ cond (named && (takes_pulse p && not p.due)) 1 0 + 2 * pulsed_due (m / 2 ^ suc k) (drop (suc k) ps)
  pulsed_due-down = rw (is_named, ← half_of m k) (subst (λ (y : Pin). pulsed_due (m / 2 ^ k) (drop k ps) ≡ cond ((m / 2 ^ k % 2 == 1) && (takes_pulse y && not y.due)) 1 0 + 2 * pulsed_due (m / 2 ^ k / 2) (drop (suc k) ps)) as_first (pulsed_due-more (m / 2 ^ k) k ps p lt))

  pub pulsed_joined-down : pulsed_joined (m / 2 ^ k) (drop k ps) ≡ cond (named && (takes_pulse p && p.due)) 1 0 + 2 * pulsed_joined (m / 2 ^ suc k) (drop (suc k) ps)
  pulsed_joined-down = rw (is_named, ← half_of m k) (subst (λ (y : Pin). pulsed_joined (m / 2 ^ k) (drop k ps) ≡ cond ((m / 2 ^ k % 2 == 1) && (takes_pulse y && y.due)) 1 0 + 2 * pulsed_joined (m / 2 ^ k / 2) (drop (suc k) ps)) as_first (pulsed_joined-more (m / 2 ^ k) k ps p lt))

-- a bool as a number
pub one_bit : (b : Bool) → cond b 1 0 ≤ 1
one_bit true = omega arith
one_bit false = omega arith

pub bool_byte-cond : (b : Bool) → bool_byte b ≡ cond b 1 0
bool_byte-cond true = refl
bool_byte-cond false = refl

-- masks of at most 24 pins
bits_below : (n : ℕ) (ps : List Pin) → length ps ≤ 24 → 2 ^ length (drop n ps) ≤ 2 ^ 24
bits_below n ps le = let long : length (drop n ps) ≤ 24 = simp length-drop (omega arith) in pow-le-pow_right {n = 2} (omega arith) {i = length (drop n ps)} {j = 24} long

pulsed_due-fits : (m : ℕ) (ps : List Pin) → pulsed_due m ps < 2 ^ length ps
pulsed_due-fits m [] = omega arith
pulsed_due-fits m (p ∷ ps) = rw pow-suc (omega (arith, pulsed_due-fits (m / 2) ps, one_bit ((m % 2 == 1) && (takes_pulse p && not p.due))))

pulsed_joined-fits : (m : ℕ) (ps : List Pin) → pulsed_joined m ps < 2 ^ length ps
pulsed_joined-fits m [] = omega arith
pulsed_joined-fits m (p ∷ ps) = rw pow-suc (omega (arith, pulsed_joined-fits (m / 2) ps, one_bit ((m % 2 == 1) && (takes_pulse p && p.due))))

pub pulsed_due-below : (m n : ℕ) (ps : List Pin) → length ps ≤ 24 → pulsed_due m (drop n ps) < 2 ^ 24
pulsed_due-below m n ps le = let fits = pulsed_due-fits m (drop n ps) in let most = bits_below n ps le in omega arith

pub pulsed_joined-below : (m n : ℕ) (ps : List Pin) → length ps ≤ 24 → pulsed_joined m (drop n ps) < 2 ^ 24
pulsed_joined-below m n ps le = let fits = pulsed_joined-fits m (drop n ps) in let most = bits_below n ps le in omega arith

pub mask_by-below : (f : Pin → Bool) (n : ℕ) (ps : List Pin) → length ps ≤ 24 → mask_by f (drop n ps) < 2 ^ 24
mask_by-below f n ps le = let fits = mask-below f (drop n ps) in let most = bits_below n ps le in omega arith
