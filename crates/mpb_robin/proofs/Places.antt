-- One member of a list changed, and members of lists that a change leaves.
use Rattle.std.proofs.Common.{◌≡◌, ◌≢◌, ℕ, zero, suc, ◌+◌, ◌<◌, ◌≤◌, List, [], ◌∷◌, length, map, get_or, slice_get, sum_by, refl, ap, ◌∙◌, Option, None, Some, arith}
use Rattle.std.specs.Option.{option_map}
use Rattle.std.proofs.lemmas.List.Sums.{sum_by-cons}
use Rattle.mpb_spec.specs.State.{change_at}

pub length-change : {X : Type 0} (f : X → X) (n : ℕ) (xs : List X) → length (change_at n f xs) ≡ length xs
length-change f n [] = refl
length-change f zero (x ∷ xs) = refl
length-change f (suc n) (x ∷ xs) = ap suc (length-change f n xs)

pub map-change : {X Y : Type 0} (g : X → Y) (f : X → X) (n : ℕ) (xs : List X) → ((x : X) → g (f x) ≡ g x) → map g (change_at n f xs) ≡ map g xs
map-change g f n [] h = refl
map-change g f zero (x ∷ xs) h = ap (λ y. y ∷ map g xs) (h x)
map-change g f (suc n) (x ∷ xs) h = ap (λ ys. g x ∷ ys) (map-change g f n xs h)

pub map-map : {X Y : Type 0} (g : X → Y) (f : X → X) (xs : List X) → ((x : X) → g (f x) ≡ g x) → map g (map f xs) ≡ map g xs
map-map g f [] h = refl
map-map g f (x ∷ xs) h = ap (λ y. y ∷ map g (map f xs)) (h x) ∙ ap (λ ys. g x ∷ ys) (map-map g f xs h)

pub at-same : {X : Type 0} (f : X → X) (n : ℕ) (xs : List X) → slice_get (change_at n f xs) n ≡ option_map f (slice_get xs n)
at-same f n [] = refl
at-same f zero (x ∷ xs) = refl
at-same f (suc n) (x ∷ xs) = at-same f n xs

pub at-other : {X : Type 0} (f : X → X) (n m : ℕ) (xs : List X) → m ≢ n → slice_get (change_at n f xs) m ≡ slice_get xs m
at-other f n m [] ne = refl
at-other f zero zero (x ∷ xs) ne = absurd (ne refl)
at-other f zero (suc m) (x ∷ xs) ne = refl
at-other f (suc n) zero (x ∷ xs) ne = refl
at-other f (suc n) (suc m) (x ∷ xs) ne = at-other f n m xs (λ e. ne (ap suc e))

pub or-same : {X : Type 0} (f : X → X) (n : ℕ) (xs : List X) (z : X) → n < length xs → get_or (change_at n f xs) n z ≡ f (get_or xs n z)
or-same f n [] z l = absurd (omega arith)
or-same f zero (x ∷ xs) z l = refl
or-same f (suc n) (x ∷ xs) z l = or-same f n xs z (omega arith)

pub or-other : {X : Type 0} (f : X → X) (n m : ℕ) (xs : List X) (z : X) → m ≢ n → get_or (change_at n f xs) m z ≡ get_or xs m z
or-other f n m [] z ne = refl
or-other f zero zero (x ∷ xs) z ne = absurd (ne refl)
or-other f zero (suc m) (x ∷ xs) z ne = refl
or-other f (suc n) zero (x ∷ xs) z ne = refl
or-other f (suc n) (suc m) (x ∷ xs) z ne = or-other f n m xs z (λ e. ne (ap suc e))

pub at-map : {X Y : Type 0} (f : X → Y) (n : ℕ) (xs : List X) → slice_get (map f xs) n ≡ option_map f (slice_get xs n)
at-map f n [] = refl
at-map f zero (x ∷ xs) = refl
at-map f (suc n) (x ∷ xs) = at-map f n xs

-- the sum after one member has changed
pub sum-change : {X : Type 0} (g : X → ℕ) (f : X → X) (n : ℕ) (xs : List X) (x : X) → slice_get xs n ≡ Some x → sum_by g (change_at n f xs) + g x ≡ sum_by g xs + g (f x)
sum-change g f n [] x e = cc
sum-change g f zero (y ∷ xs) x e = let same : y ≡ x = cc in rw (sum_by-cons g (f y) xs, sum_by-cons g y xs) (rw same (omega arith))
sum-change g f (suc n) (y ∷ xs) x e = let h = sum-change g f n xs x e in rw (sum_by-cons g y (change_at n f xs), sum_by-cons g y xs) (omega arith)

-- a member's part of a sum
pub sum-at : {X : Type 0} (g : X → ℕ) (n : ℕ) (xs : List X) (x : X) → slice_get xs n ≡ Some x → g x ≤ sum_by g xs
sum-at g n [] x e = cc
sum-at g zero (y ∷ xs) x e = let same : g y ≡ g x = ap g (let s : y ≡ x = cc in s) in rw (sum_by-cons g y xs) (omega arith)
sum-at g (suc n) (y ∷ xs) x e = let h = sum-at g n xs x e in rw (sum_by-cons g y xs) (omega arith)

-- a member that is there
pub inside : {X : Type 0} (n : ℕ) (xs : List X) (x : X) → slice_get xs n ≡ Some x → n < length xs
inside n [] x e = cc
inside zero (y ∷ xs) x e = omega arith
inside (suc n) (y ∷ xs) x e = let h = inside n xs x e in omega arith

pub is-there : {X : Type 0} (n : ℕ) (xs : List X) → n < length xs → (x : X) × (slice_get xs n ≡ Some x)
is-there n [] l = absurd (omega arith)
is-there zero (y ∷ xs) l = (y, refl)
is-there (suc n) (y ∷ xs) l = is-there n xs (omega arith)

pub or-get : {X : Type 0} (n : ℕ) (xs : List X) (x z : X) → slice_get xs n ≡ Some x → get_or xs n z ≡ x
or-get n [] x z e = cc
or-get zero (y ∷ xs) x z e = let same : y ≡ x = cc in same
or-get (suc n) (y ∷ xs) x z e = or-get n xs x z e

-- a change by which nothing is told apart from a member's own place
pub by-option : {X Y : Type 0} (f : X → Y) (o : Option X) (y : Y) → option_map f o ≡ Some y → (x : X) × (o ≡ Some x) × (f x ≡ y)
by-option f None y e = cc
by-option f (Some x) y e = let same : f x ≡ y = cc in (x, refl, same)
