-- Lists: what is added up after a change of one member, what holds of each, maps, and what is left of a list that is cut.
use Rattle.std.proofs.Common.{◌≡◌, ℕ, zero, suc, ◌+◌, ◌<◌, ◌≤◌, Bool, true, false, List, [], ◌∷◌, ◌++◌, length, set, get_or, map, take, drop, sum_by, All, Any, refl, sym, ap, ◌∙◌, subst, arith}
use mathlib.Core.Option.{some, some-injective, some-ne-none}
use mathlib.Core.Logic.{dite}
use native.Mathlib.Decide.{ℕ_discrete}
use lib.ListN.{get_elem?}
use Rattle.std.proofs.lemmas.List.{length-map, length-drop, get_or-map, get_or-drop, take_more, drop_more}
use Rattle.std.proofs.lemmas.List.Sums.{sum_by-cons}
use Rattle.mpb_spec.specs.Lists.{one_if, rest_of}

pub sum_set : {A : Type 0} (f : A → ℕ) (xs : List A) (i : ℕ) (x y : A) → get_elem? xs i ≡ some x → sum_by f (set xs i y) + f x ≡ sum_by f xs + f y
sum_set f [] i x y e = absurd (some-ne-none x (sym e))
sum_set f (a ∷ xs) zero x y e = let s = ap f (some-injective a x e) in omega (arith, sum_by-cons f y xs, sum_by-cons f a xs)
sum_set f (a ∷ xs) (suc i) x y e = let s = sum_set f xs i x y e in omega (arith, sum_by-cons f a (set xs i y), sum_by-cons f a xs)

pub sum_at : {A : Type 0} (f : A → ℕ) (xs : List A) (i : ℕ) (x : A) → get_elem? xs i ≡ some x → f x ≤ sum_by f xs
sum_at f [] i x e = absurd (some-ne-none x (sym e))
sum_at f (a ∷ xs) zero x e = let s = ap f (some-injective a x e) in omega (arith, sum_by-cons f a xs)
sum_at f (a ∷ xs) (suc i) x e = let s = sum_at f xs i x e in omega (arith, sum_by-cons f a xs)

pub set_at : {A : Type 0} (xs : List A) (i : ℕ) (x y : A) → get_elem? xs i ≡ some x → get_elem? (set xs i y) i ≡ some y
set_at [] i x y e = absurd (some-ne-none x (sym e))
set_at (a ∷ xs) zero x y e = refl
set_at (a ∷ xs) (suc i) x y e = set_at xs i x y e

pub each_set : {A : Type 0} (Q : A → Type 0) (xs : List A) (i : ℕ) (y : A) → ((j : ℕ) (u : A) → get_elem? xs j ≡ some u → Q u) → Q y → (j : ℕ) (u : A) → get_elem? (set xs i y) j ≡ some u → Q u
each_set Q [] i y others mine j u e = absurd (some-ne-none u (sym e))
each_set Q (a ∷ xs) zero y others mine zero u e = subst Q (some-injective y u e) mine
each_set Q (a ∷ xs) zero y others mine (suc j) u e = others (suc j) u e
each_set Q (a ∷ xs) (suc i) y others mine zero u e = others 0 u e
each_set Q (a ∷ xs) (suc i) y others mine (suc j) u e = each_set Q xs i y (λ k w h. others (suc k) w h) mine j u e

pub sum_none : {A : Type 0} (f : A → ℕ) (xs : List A) → length xs ≡ 0 → sum_by f xs ≡ 0
sum_none f [] e = refl
sum_none f (x ∷ xs) e = absurd (omega arith)

pub count_all : {A : Type 0} (xs : List A) → sum_by (λ (_ : A). 1) xs ≡ length xs
count_all [] = refl
count_all {A} (x ∷ xs) = (let s = count_all xs in omega (arith, sum_by-cons (λ (_ : A). 1) x xs))

pub All_map : {A : Type 0} (P Q : A → Type 0) (xs : List A) → ((x : A) → P x → Q x) → All P xs → All Q xs
All_map P Q xs h all k d l = h (get_or xs k d) (all k d l)

-- a sum above 0 has a member above 0
pub any_above : {A : Type 0} (f : A → ℕ) (xs : List A) → 0 < sum_by f xs → Any (λ x. 0 < f x) xs
any_above f [] h = absurd (omega arith)
any_above f (x ∷ xs) h = dite (ℕ_discrete (f x) 0)
    (λ z. (let r = any_above f xs (omega (arith, sum_by-cons f x xs)) in (suc r.0, r.1, (let l = r.2 in omega arith), r.3, r.4)))
    (λ ne. (0, x, omega arith, refl, omega arith))

pub map_map : {A B C : Type 0} (f : B → C) (g : A → B) (xs : List A) → map f (map g xs) ≡ map (λ x. f (g x)) xs
map_map f g [] = refl
map_map f g (x ∷ xs) = ap (λ l. f (g x) ∷ l) (map_map f g xs)

pub sum_map : {A B : Type 0} (f : B → ℕ) (g : A → B) (xs : List A) → sum_by f (map g xs) ≡ sum_by (λ x. f (g x)) xs
sum_map f g [] = refl
sum_map f g (x ∷ xs) = (let h = sum_map f g xs in omega (arith, sum_by-cons f (g x) (map g xs), sum_by-cons (λ y. f (g y)) x xs))

pub map_one_more : {A B : Type 0} (f : A → B) (xs : List A) (i : ℕ) (x : A) → i < length xs → x ≡ get_or xs i x → take (i + 1) (map f xs) ≡ take i (map f xs) ++ f x ∷ []
map_one_more f xs i x l is = take_more (map f xs) i (f x) (let n = length-map xs f in omega arith) ∙ ap (λ y. take i (map f xs) ++ y ∷ []) (get_or-map f xs i x (f x) l ∙ ap f (sym is))

-- what holds of each member of a mapped list, said of the list
pub all_mapped : {A B : Type 0} (P : B → Type 0) (f : A → B) (xs : List A) (ys : List B) → ys ≡ map f xs → All P ys → All (λ x. P (f x)) xs
all_mapped P f xs ys e all k d l = subst P (ap (λ zs. get_or zs k (f d)) e ∙ get_or-map f xs k d (f d) l) (all k (f d) (let n = ap (λ zs. length zs) e in let m = length-map xs f in omega arith))

-- and what holds of some member
pub any_mapped : {A B : Type 0} (P : B → Type 0) (f : A → B) (xs : List A) (ys : List B) → ys ≡ map f xs → Any P ys → Any (λ x. P (f x)) xs
any_mapped {A = A} {B = B} P f xs ys e any = at_place xs any.0 any.1 (let l = any.2 in let n = ap (λ zs. length zs) e in let m = length-map xs f in omega arith) (ap (λ zs. get_or zs any.0 any.1) (sym e) ∙ any.3) any.4
  where
    at_place : (xs : List A) (k : ℕ) (y : B) → k < length xs → get_or (map f xs) k y ≡ y → P y → Any (λ x. P (f x)) xs
    at_place [] k y l is p = absurd (omega arith)
    at_place (x ∷ xs) zero y l is p = (0, x, omega arith, refl, subst P (sym is) p)
    at_place (x ∷ xs) (suc k) y l is p = (let r = at_place xs k y (omega arith) is p in (suc r.0, r.1, (let m = r.2 in omega arith), r.3, r.4))

-- a sum above 0, said of one member
at_le : {A : Type 0} (f : A → ℕ) (xs : List A) (k : ℕ) (d : A) → k < length xs → f (get_or xs k d) ≤ sum_by f xs
at_le f [] k d l = absurd (omega arith)
at_le f (x ∷ xs) zero d l = omega (arith, sum_by-cons f x xs)
at_le f (x ∷ xs) (suc k) d l = (let h = at_le f xs k d (omega arith) in omega (arith, sum_by-cons f x xs))

pub sum_above : {A : Type 0} (f : A → ℕ) (xs : List A) → Any (λ x. 0 < f x) xs → 0 < sum_by f xs
sum_above f xs any = (let h = at_le f xs any.0 any.1 any.2 in let e = ap f any.3 in let p = any.4 in omega arith)

-- one less of what is left
pub first_of_rest : {A B : Type 0} (f : A → B) (xs : List A) (i : ℕ) (x : A) (d : B) → i < length xs → x ≡ get_or xs i x → get_or (drop i (map f xs)) 0 d ≡ f x
first_of_rest f xs i x d l is = get_or-drop i (map f xs) 0 d ∙ ap (λ j. get_or (map f xs) j d) (omega arith) ∙ get_or-map f xs i x d l ∙ ap f (sym is)

pub rest_of_rest : {A : Type 0} (xs : List A) (i : ℕ) (d : A) → i < length xs → rest_of (drop i xs) ≡ drop (i + 1) xs
rest_of_rest xs i d l = ap (λ ys. rest_of ys) (drop_more xs i d l)

pub some_of_rest : {A B : Type 0} (f : A → B) (xs : List A) (i : ℕ) → i < length xs → 0 < length (drop i (map f xs))
some_of_rest f xs i l = (let n = length-map xs f in let d = length-drop i (map f xs) in omega arith)

-- a test counts at most 1
pub ones_le : (b : Bool) → one_if b ≤ 1
ones_le true = omega arith
ones_le false = omega arith
