-- Lists that are made member by member, as a loop pushes them.
use Rattle.std.proofs.Common.{◌≡◌, ◌+◌, ◌<◌, ℕ, Bool, true, false, cond, List, [], ◌∷◌, ◌++◌, length, get_or, take, map, filter, sym, ap, ◌∙◌}
use Rattle.std.proofs.lemmas.List.{append-nil, flat_map_more, map_more, map_push, take_more}
use Rattle.std.proofs.lemmas.List.Elements.{filter_more}
use Rattle.std.proofs.lemmas.Bool.{or_from}
use Rattle.std.proofs.lemmas.List.Folds.{list_any_more}
use Rattle.std.specs.List.{flat_map, list_any}

-- what the next member gives
pub map_pushed : {X Y : Type 0} (f : X → Y) (now new : List Y) (xs : List X) (i : ℕ) (d : X) (y : Y) → i < length xs → y ≡ f (get_or xs i d) → new ≡ now ++ y ∷ [] → now ≡ map f (take i xs) → new ≡ map f (take (i + 1) xs)
map_pushed {X} {Y} f now new xs i d y lt is pushed so_far =
    pushed
    ∙ ap (λ (ys : List Y). ys ++ y ∷ []) so_far
    ∙ ap (λ (z : Y). map f (take i xs) ++ z ∷ []) is
    ∙ sym (map_more f xs i d lt)

-- the next member itself, as the values of a list show it
pub shown_pushed : {V X : Type 0} (g : V → X) (now new : List V) (v : V) (xs : List X) (i : ℕ) (x : X) → i < length xs → x ≡ get_or xs i x → g v ≡ x → new ≡ now ++ v ∷ [] → map g now ≡ take i xs → map g new ≡ take (i + 1) xs
shown_pushed {V} {X} g now new v xs i x lt here is pushed so_far =
    ap (map g) pushed
    ∙ map_push g now v
    ∙ ap (λ (ys : List X). ys ++ g v ∷ []) so_far
    ∙ ap (λ (y : X). take i xs ++ y ∷ []) (is ∙ here)
    ∙ sym (take_more xs i x lt)

-- the several things that the next member gives
pub flat_map_pushed : {X A : Type 0} (f : X → List A) (start now new : List A) (xs : List X) (i : ℕ) (d : X) → i < length xs → new ≡ now ++ f (get_or xs i d) → now ≡ start ++ flat_map f (take i xs) → new ≡ start ++ flat_map f (take (i + 1) xs)
flat_map_pushed {X} {A} f start now new xs i d lt pushed so_far =
    pushed
    ∙ ap (λ (l : List A). l ++ f (get_or xs i d)) so_far
    ∙ flat_map_more f start (take i xs) (get_or xs i d)
    ∙ ap (λ (l : List X). start ++ flat_map f l) (sym (take_more xs i d lt))

-- the next member passes the test, or it doesn't
filter_grows : {X : Type 0} (p : X → Bool) (xs : List X) (i : ℕ) (d : X) → i < length xs → p (get_or xs i d) ≡ true → filter p (take (i + 1) xs) ≡ filter p (take i xs) ++ get_or xs i d ∷ []
filter_grows {X} p xs i d lt on = filter_more p xs i d lt ∙ ap (λ (b : Bool). filter p (take i xs) ++ cond b (get_or xs i d ∷ []) []) on

filter_stays : {X : Type 0} (p : X → Bool) (xs : List X) (i : ℕ) (d : X) → i < length xs → p (get_or xs i d) ≡ false → filter p (take (i + 1) xs) ≡ filter p (take i xs)
filter_stays {X} p xs i d lt off = filter_more p xs i d lt ∙ ap (λ (b : Bool). filter p (take i xs) ++ cond b (get_or xs i d ∷ []) []) off ∙ append-nil (filter p (take i xs))

pub flat_map_passed : {X A : Type 0} (f : X → List A) (p : X → Bool) (start now new : List A) (xs : List X) (i : ℕ) (d : X) → i < length xs → p (get_or xs i d) ≡ true → new ≡ now ++ f (get_or xs i d) → now ≡ start ++ flat_map f (filter p (take i xs)) → new ≡ start ++ flat_map f (filter p (take (i + 1) xs))
flat_map_passed {X} {A} f p start now new xs i d lt on pushed so_far =
    pushed
    ∙ ap (λ (l : List A). l ++ f (get_or xs i d)) so_far
    ∙ flat_map_more f start (filter p (take i xs)) (get_or xs i d)
    ∙ ap (λ (l : List X). start ++ flat_map f l) (sym (filter_grows p xs i d lt on))

pub flat_map_failed : {X A : Type 0} (f : X → List A) (p : X → Bool) (start now new : List A) (xs : List X) (i : ℕ) (d : X) → i < length xs → p (get_or xs i d) ≡ false → new ≡ now → now ≡ start ++ flat_map f (filter p (take i xs)) → new ≡ start ++ flat_map f (filter p (take (i + 1) xs))
flat_map_failed {X} f p start now new xs i d lt off same so_far = same ∙ so_far ∙ ap (λ (l : List X). start ++ flat_map f l) (sym (filter_stays p xs i d lt off))

pub map_passed : {X Y : Type 0} (f : X → Y) (p : X → Bool) (now new : List Y) (xs : List X) (i : ℕ) (d : X) → i < length xs → p (get_or xs i d) ≡ true → new ≡ now ++ f (get_or xs i d) ∷ [] → now ≡ map f (filter p (take i xs)) → new ≡ map f (filter p (take (i + 1) xs))
map_passed {X} {Y} f p now new xs i d lt on pushed so_far =
    pushed
    ∙ ap (λ (ys : List Y). ys ++ f (get_or xs i d) ∷ []) so_far
    ∙ sym (map_push f (filter p (take i xs)) (get_or xs i d))
    ∙ ap (map f) (sym (filter_grows p xs i d lt on))

pub map_failed : {X Y : Type 0} (f : X → Y) (p : X → Bool) (now new : List Y) (xs : List X) (i : ℕ) (d : X) → i < length xs → p (get_or xs i d) ≡ false → new ≡ now → now ≡ map f (filter p (take i xs)) → new ≡ map f (filter p (take (i + 1) xs))
map_failed f p now new xs i d lt off same so_far = same ∙ so_far ∙ ap (map f) (sym (filter_stays p xs i d lt off))

-- one more member that doesn't pass the test, where none did
pub none_passes : {X : Type 0} (p : X → Bool) (xs : List X) (i : ℕ) (d : X) → i < length xs → p (get_or xs i d) ≡ false → list_any p (take i xs) ≡ false → list_any p (take (i + 1) xs) ≡ false
none_passes p xs i d lt off so_far = list_any_more p xs i d lt ∙ or_from (list_any p (take i xs)) (p (get_or xs i d)) so_far off
