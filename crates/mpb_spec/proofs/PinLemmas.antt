-- Lists of pins, as loops over them leave them.
use Rattle.std.proofs.Common.{◌≡◌, ℕ, zero, suc, ◌+◌, ◌*◌, ◌/◌, ◌%◌, ◌<◌, ◌≤◌, ◌^◌, Bool, true, false, not, ◌&&◌, ◌==◌, cond, List, [], ◌∷◌, ◌++◌, length, get_or, take, drop, set, refl, ap, ◌∙◌, arith, Some, None, pow-suc, map, drop_of_length-le}
use Rattle.mpb_spec.specs.declared.apic.Pin.{Pin}
use Rattle.mpb_spec.specs.declared.apic.Effect.TheVariants.{Plain}
use Rattle.mpb_spec.specs.IoApic.{change_pin, effect_at, effect_of, next_due_from, message_of, mask_by, pulsed, pulsed_due, pulsed_joined, with_pulse, takes_pulse}

-- a write of the changed pin
pub set-changed : (n : ℕ) (f : Pin → Pin) (ps : List Pin) (p : Pin) → n < length ps → p ≡ get_or ps n p → set ps n (f p) ≡ change_pin n f ps
set-changed n f [] p lt e = absurd (omega arith)
set-changed zero f (x ∷ ps) p lt e = ap (λ y. f y ∷ ps) e
set-changed (suc n) f (x ∷ ps) p lt e = ap (λ (l : List Pin). x ∷ l) (set-changed n f ps p (omega arith) e)

pub effect-changed : (n : ℕ) (f : Pin → Pin) (ps : List Pin) (p : Pin) → n < length ps → p ≡ get_or ps n p → effect_of p.due (f p).due ≡ effect_at n f ps
effect-changed n f [] p lt e = absurd (omega arith)
effect-changed zero f (x ∷ ps) p lt e = ap (λ (y : Pin). effect_of y.due (f y).due) e
effect-changed (suc n) f (x ∷ ps) p lt e = effect-changed n f ps p (omega arith) e

-- the search for the least due pin: pin n isn't due, or is
pub next-due-skips : (m n : ℕ) (ps : List Pin) (d : Pin) → n < length ps → (get_or ps n d).due ≡ false → next_due_from m (drop n ps) ≡ next_due_from (m + 1) (drop (suc n) ps)
next-due-skips m n [] d lt off = absurd (omega arith)
next-due-skips m zero (x ∷ ps) d lt off = rw off refl
next-due-skips m (suc n) (x ∷ ps) d lt off = next-due-skips m n ps d (omega arith) off

pub next-due-finds : (m n : ℕ) (ps : List Pin) (d : Pin) → n < length ps → (get_or ps n d).due ≡ true → next_due_from m (drop n ps) ≡ Some (message_of m (get_or ps n d))
next-due-finds m n [] d lt on = absurd (omega arith)
next-due-finds m zero (x ∷ ps) d lt on = rw on refl
next-due-finds m (suc n) (x ∷ ps) d lt on = next-due-finds m n ps d (omega arith) on

pub next-due-none : (m n : ℕ) (ps : List Pin) → length ps ≤ n → next_due_from m (drop n ps) ≡ None
next-due-none m n ps le = rw (drop_of_length-le ps {i = n} le) refl

-- a mask of k pins is below 2 ^ k
pub mask-below : (f : Pin → Bool) (ps : List Pin) → mask_by f ps < 2 ^ length ps
mask-below f [] = omega arith
mask-below f (p ∷ ps) = let h = mask-below f ps in elim (f p) as (λ b. cond b 1 0 + 2 * mask_by f ps < 2 ^ (suc (length ps))) [ true ↦ rw pow-suc (omega (arith, h)) | false ↦ rw pow-suc (omega (arith, h)) ]

pub mask-more : (f : Pin → Bool) (n : ℕ) (ps : List Pin) (d : Pin) → n < length ps → mask_by f (drop n ps) ≡ cond (f (get_or ps n d)) 1 0 + 2 * mask_by f (drop (suc n) ps)
mask-more f n [] d lt = absurd (omega arith)
mask-more f zero (x ∷ ps) d lt = refl
mask-more f (suc n) (x ∷ ps) d lt = mask-more f n ps d (omega arith)

-- a loop that changes each pin in its place
pub map-more : (f : Pin → Pin) (n : ℕ) (xs ys : List Pin) (d y : Pin) → n < length xs → ys ≡ map f (take n xs) ++ drop n xs → y ≡ f (get_or ys n d) → set ys n y ≡ map f (take (suc n) xs) ++ drop (suc n) xs
map-more f n [] ys d y lt e h = absurd (omega arith)
map-more f zero (x ∷ xs) ys d y lt e h = rw e (ap (λ (z : Pin). z ∷ xs) (h ∙ ap (λ (l : List Pin). f (get_or l 0 d)) e))
map-more f (suc n) (x ∷ xs) ys d y lt e h =
    rw e (ap (λ (l : List Pin). f x ∷ l) (map-more f n xs (map f (take n xs) ++ drop n xs) d y (omega arith) refl (h ∙ ap (λ (l : List Pin). f (get_or l (suc n) d)) e)))

-- the same at whichever default
pub set-changed-at : (n : ℕ) (f : Pin → Pin) (ps : List Pin) (d y : Pin) → n < length ps → y ≡ f (get_or ps n d) → set ps n y ≡ change_pin n f ps
set-changed-at n f [] d y lt e = absurd (omega arith)
set-changed-at zero f (x ∷ ps) d y lt e = ap (λ z. z ∷ ps) e
set-changed-at (suc n) f (x ∷ ps) d y lt e = ap (λ (l : List Pin). x ∷ l) (set-changed-at n f ps d y (omega arith) e)

pub effect-changed-at : (n : ℕ) (f : Pin → Pin) (ps : List Pin) (d y : Pin) → n < length ps → y ≡ f (get_or ps n d) → effect_of (get_or ps n d).due y.due ≡ effect_at n f ps
effect-changed-at n f [] d y lt e = absurd (omega arith)
effect-changed-at zero f (x ∷ ps) d y lt e = ap (λ (z : Pin). effect_of x.due z.due) e
effect-changed-at (suc n) f (x ∷ ps) d y lt e = effect-changed-at n f ps d y (omega arith) e

-- no pin there: nothing changes
pub change-beyond : (n : ℕ) (f : Pin → Pin) (ps : List Pin) → length ps ≤ n → ps ≡ change_pin n f ps
change-beyond n f [] le = refl
change-beyond zero f (x ∷ ps) le = absurd (omega arith)
change-beyond (suc n) f (x ∷ ps) le = ap (λ (l : List Pin). x ∷ l) (change-beyond n f ps (omega arith))

pub effect-beyond : (n : ℕ) (f : Pin → Pin) (ps : List Pin) → length ps ≤ n → Plain ≡ effect_at n f ps
effect-beyond n f [] le = refl
effect-beyond zero f (x ∷ ps) le = absurd (omega arith)
effect-beyond (suc n) f (x ∷ ps) le = effect-beyond n f ps (omega arith)

-- one step down: pin n is pulsed where its bit is set
pub pulsed-more : (m n : ℕ) (ps : List Pin) (d : Pin) → n < length ps → pulsed m (drop n ps) ≡ cond (m % 2 == 1) (with_pulse (get_or ps n d)) (get_or ps n d) ∷ pulsed (m / 2) (drop (suc n) ps)
pulsed-more m n [] d lt = absurd (omega arith)
pulsed-more m zero (x ∷ ps) d lt = refl
pulsed-more m (suc n) (x ∷ ps) d lt = pulsed-more m n ps d (omega arith)

pub pulsed_due-more : (m n : ℕ) (ps : List Pin) (d : Pin) → n < length ps → pulsed_due m (drop n ps) ≡ cond ((m % 2 == 1) && (takes_pulse (get_or ps n d) && not (get_or ps n d).due)) 1 0 + 2 * pulsed_due (m / 2) (drop (suc n) ps)
pulsed_due-more m n [] d lt = absurd (omega arith)
pulsed_due-more m zero (x ∷ ps) d lt = refl
pulsed_due-more m (suc n) (x ∷ ps) d lt = pulsed_due-more m n ps d (omega arith)

pub pulsed_joined-more : (m n : ℕ) (ps : List Pin) (d : Pin) → n < length ps → pulsed_joined m (drop n ps) ≡ cond ((m % 2 == 1) && (takes_pulse (get_or ps n d) && (get_or ps n d).due)) 1 0 + 2 * pulsed_joined (m / 2) (drop (suc n) ps)
pulsed_joined-more m n [] d lt = absurd (omega arith)
pulsed_joined-more m zero (x ∷ ps) d lt = refl
pulsed_joined-more m (suc n) (x ∷ ps) d lt = pulsed_joined-more m n ps d (omega arith)
