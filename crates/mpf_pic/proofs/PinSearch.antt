-- The first of all pins is looked for place by place.
use Rattle.std.proofs.Common.{◌≡◌, ℕ, suc, ◌+◌, ◌-◌, ◌<◌, Bool, true, false, cond, List, [], ◌∷◌, ◌++◌, map, Option, None, Some, option_map, find, refl, sym, ap, ◌∙◌, arith, subst}
use Rattle.std.specs.List.{range_with_len, flat_map}
use Rattle.std.specs.Prelude.{slice_get}
use Rattle.mpb_spec.specs.IoApic.{IoChip}
use Rattle.mpb_spec.specs.State.{Place}
use Rattle.mpf_pic.specs.Wiring.{pins_at, is_extint_pin, pin_in}

-- what is found in lists one after another
find-first : {X : Type 0} (p : X → Bool) (xs ys : List X) (x : X) → Some x ≡ find p xs → Some x ≡ find p (xs ++ ys)
find-first {X} p [] ys x e = cc
find-first {X} p (y ∷ xs) ys x e = go (p y) e (λ h. find-first p xs ys x h) where
  go : (b : Bool) → Some x ≡ cond b (Some y) (find p xs) → (Some x ≡ find p xs → Some x ≡ find p (xs ++ ys)) → Some x ≡ cond b (Some y) (find p (xs ++ ys))
  go true h rest = h
  go false h rest = rest h

find-later : {X : Type 0} (p : X → Bool) (xs ys : List X) → None ≡ find p xs → find p (xs ++ ys) ≡ find p ys
find-later {X} p [] ys e = refl
find-later {X} p (y ∷ xs) ys e = go (p y) e (λ h. find-later p xs ys h) where
  go : (b : Bool) → None ≡ cond b (Some y) (find p xs) → (None ≡ find p xs → find p (xs ++ ys) ≡ find p ys) → cond b (Some y) (find p (xs ++ ys)) ≡ find p ys
  go true h rest = cc
  go false h rest = rest h

-- what is found among images
find-map : {X Y : Type 0} (p : Y → Bool) (f : X → Y) (xs : List X) → find p (map f xs) ≡ option_map f (find (λ x. p (f x)) xs)
find-map {X} {Y} p f [] = refl
find-map {X} {Y} p f (x ∷ xs) = go (p (f x)) (find-map p f xs) where
  go : (b : Bool) → find p (map f xs) ≡ option_map f (find (λ x. p (f x)) xs) → cond b (Some (f x)) (find p (map f xs)) ≡ option_map f (cond b (Some x) (find (λ x. p (f x)) xs))
  go true h = refl
  go false h = h

-- the pins of k places from one on
abbrev pub pins_from : ℕ → ℕ → List (ℕ × ℕ)
pins_from place k = flat_map pins_at (range_with_len place k)

module _ (p : ℕ × ℕ → Bool) (place all : ℕ) (lt : place < all) where
  one_more : all - place ≡ suc (all - (place + 1))
  one_more = omega arith

  found_at : (o : Option ℕ) → o ≡ find (λ n. p (place, n)) (range_with_len 0 24) → option_map (λ n. (place, n)) o ≡ find p (pins_at place)
  found_at o e = ap (option_map (λ n. (place, n))) e ∙ sym (find-map p (λ n. (place, n)) (range_with_len 0 24))

  -- a pin of this place is the first, and where it has none the others are looked at
  pub found_here : (n : ℕ) → Some n ≡ find (λ n. p (place, n)) (range_with_len 0 24) → Some (place, n) ≡ find p (pins_from place (all - place))
  found_here n e = subst (λ (k : ℕ). Some (place, n) ≡ find p (pins_from place k)) (sym one_more) (find-first p (pins_at place) (pins_from (place + 1) (all - (place + 1))) (place, n) (found_at (Some n) e))

  pub found_later : None ≡ find (λ n. p (place, n)) (range_with_len 0 24) → find p (pins_from (place + 1) (all - (place + 1))) ≡ find p (pins_from place (all - place))
  found_later e = sym (subst (λ (k : ℕ). find p (pins_from place k) ≡ find p (pins_from (place + 1) (all - (place + 1)))) (sym one_more) (find-later p (pins_at place) (pins_from (place + 1) (all - (place + 1))) (found_at None e)))

pub found_nowhere : (p : ℕ × ℕ → Bool) (place k : ℕ) → k ≡ 0 → find p (pins_from place k) ≡ None
found_nowhere p place k e = ap (λ (j : ℕ). find p (pins_from place j)) e

-- the pin of an I/O APIC is that of its place
pub pin_of_chip : (boot : ℕ) (chip : IoChip) (o : Option Place) → Some chip ≡ option_map (λ p. p.chip) o → find (λ n. is_extint_pin boot (slice_get chip.pins n)) (range_with_len 0 24) ≡ find (λ n. is_extint_pin boot (pin_in n o)) (range_with_len 0 24)
pin_of_chip boot chip None e = absurd cc
pin_of_chip boot chip (Some p) e =
    let same : chip ≡ p.chip = cc in
    ap (λ (a : IoChip). find (λ n. is_extint_pin boot (slice_get a.pins n)) (range_with_len 0 24)) same

pub pin_of_none : (boot : ℕ) (o : Option Place) → None ≡ option_map (λ p. p.chip) o → None ≡ find (λ n. is_extint_pin boot (pin_in n o)) (range_with_len 0 24)
pin_of_none boot None e = refl
pin_of_none boot (Some p) e = absurd cc
