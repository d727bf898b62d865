-- The first of members that are the same, one member more at a time, and what is found among them.
use Rattle.std.proofs.Common.{◌≡◌, ℕ, suc, ◌+◌, ◌<◌, ◌≤◌, ◌⊎◌, Bool, true, false, cond, List, [], ◌∷◌, ◌++◌, length, take, get_or, set, sym, refl, ap, ◌∙◌, subst, inl, inr, arith, append-nil, length-append, not}
use Rattle.std.specs.Prelude.{Option, Some, None, ◌==◌, ◌||◌, find, position, filter, nat_lt}
use Rattle.std.specs.List.{position_or_len, list_any}
use Rattle.std.specs.Option.{option_or}
use Rattle.std.proofs.lemmas.Bool.Decides.{nat_tests}
use Rattle.std.proofs.lemmas.List.{take_more}
use Rattle.std.proofs.lemmas.List.Elements.{filter-append}
use Rattle.std.proofs.lemmas.List.Folds.{position_or_len_push}
use Rattle.std.proofs.Math.Dec.{eqb}
use Rattle.mpt_route.specs.Index.{IsTableOf}
use Rattle.mpt_route.proofs.ListLemmas.{set_first}
use Rattle.std.proofs.Math.ListN.{length-set}
use Rattle.mpf_pir.specs.Made.{firsts}

pub same_tests : (a b : Bool) → (a ≡ true → b ≡ true) → (b ≡ true → a ≡ true) → a ≡ b
same_tests true b f g = sym (f refl)
same_tests false true f g = g refl
same_tests false false f g = refl

or_true : (a b : Bool) → (a || b) ≡ true → (a ≡ true) ⊎ (b ≡ true)
or_true true b h = inl refl
or_true false b h = inr h

module _ {E : Type 0} (same : E → E → Bool) where
  abbrev ne : E → E → Bool
  ne x y = not (same x y)

  -- one member more
  pub firsts_more : (xs : List E) (x : E) → firsts same (xs ++ x ∷ []) ≡ firsts same xs ++ cond (list_any (λ y. same y x) xs) [] (x ∷ [])
  firsts_more [] x = refl
  firsts_more (y ∷ xs) x =
      ap (λ ys. y ∷ filter (ne y) ys) (firsts_more xs x)
      ∙ ap (λ ys. y ∷ ys) (filter-append (ne y) (firsts same xs) (cond (list_any (λ z. same z x) xs) [] (x ∷ [])) ∙ ap (λ ys. filter (ne y) (firsts same xs) ++ ys) (one (list_any (λ z. same z x) xs) (same y x) refl))
    where
      one : (a b : Bool) → same y x ≡ b → filter (ne y) (cond a [] (x ∷ [])) ≡ cond (b || a) [] (x ∷ [])
      one true true e = refl
      one true false e = refl
      one false true e = ap (λ t. cond (not t) (x ∷ []) []) e
      one false false e = ap (λ t. cond (not t) (x ∷ []) []) e

  -- a test that tells no same members apart finds among the firsts what it finds among all
  module _ (p : E → Bool) (respects : (x y : E) → same x y ≡ true → p x ≡ p y) where
    find_filter : (x : E) (ys : List E) → p x ≡ false → find p (filter (ne x) ys) ≡ find p ys
    find_filter x [] h = refl
    find_filter x (y ∷ ys) h = go (same x y) refl (find_filter x ys h)
      where
        go : (b : Bool) → same x y ≡ b → find p (filter (ne x) ys) ≡ find p ys → find p (cond (not b) (y ∷ filter (ne x) ys) (filter (ne x) ys)) ≡ cond (p y) (Some y) (find p ys)
        go true e rest = rest ∙ ap (λ t. cond t (Some y) (find p ys)) (sym h ∙ respects x y e)
        go false e rest = ap (λ o. cond (p y) (Some y) o) rest

    pub find_firsts : (xs : List E) → find p (firsts same xs) ≡ find p xs
    find_firsts [] = refl
    find_firsts (x ∷ xs) = go (p x) refl (find_firsts xs)
      where
        go : (b : Bool) → p x ≡ b → find p (firsts same xs) ≡ find p xs → cond (p x) (Some x) (find p (filter (ne x) (firsts same xs))) ≡ cond (p x) (Some x) (find p xs)
        go true e rest = ap (λ t. cond t (Some x) (find p (filter (ne x) (firsts same xs)))) e ∙ sym (ap (λ t. cond t (Some x) (find p xs)) e)
        go false e rest = ap (λ o. cond (p x) (Some x) o) (find_filter x (firsts same xs) e ∙ rest)

filter_shorter : {X : Type 0} (p : X → Bool) (xs : List X) → length (filter p xs) ≤ length xs
filter_shorter p [] = omega arith
filter_shorter {X} p (x ∷ xs) = go (p x) (filter_shorter p xs)
  where
    go : (b : Bool) → length (filter p xs) ≤ length xs → length (cond b (x ∷ filter p xs) (filter p xs)) ≤ length (x ∷ xs)
    go true l = omega arith
    go false l = omega arith

-- there are no more firsts than members
pub firsts_shorter : {X : Type 0} (same : X → X → Bool) (xs : List X) → length (firsts same xs) ≤ length xs
firsts_shorter same [] = omega arith
firsts_shorter same (x ∷ xs) = omega (arith, filter_shorter (λ y. not (same x y)) (firsts same xs), firsts_shorter same xs)

-- what a search finds, and whether any passes
pub find_any : {X : Type 0} (p : X → Bool) (xs : List X) → ((x : X) × (find p xs ≡ Some x) × (list_any p xs ≡ true)) ⊎ ((find p xs ≡ None) × (list_any p xs ≡ false))
find_any p [] = inr (refl, refl)
find_any {X} p (x ∷ xs) = go (p x) (find_any p xs)
  where
    go : (b : Bool) → ((y : X) × (find p xs ≡ Some y) × (list_any p xs ≡ true)) ⊎ ((find p xs ≡ None) × (list_any p xs ≡ false))
        → ((y : X) × (cond b (Some x) (find p xs) ≡ Some y) × ((b || list_any p xs) ≡ true)) ⊎ ((cond b (Some x) (find p xs) ≡ None) × ((b || list_any p xs) ≡ false))
    go true r = inl (x, refl, refl)
    go false r = r

-- the place of the member that is found
place : {X : Type 0} (p : X → Bool) (d : X) (xs : List X) → ((find p xs ≡ Some (get_or xs (position_or_len p xs) d)) × (position_or_len p xs < length xs)) ⊎ ((find p xs ≡ None) × (position_or_len p xs ≡ length xs))
place p d [] = inr (refl, refl)
place {X} p d (x ∷ xs) = go (p x) (place p d xs)
  where
    next : (n : ℕ) → get_or (x ∷ xs) (1 + n) d ≡ get_or xs n d
    next n = let e : 1 + n ≡ suc n = omega arith in ap (λ m. get_or (x ∷ xs) m d) e

    go : (b : Bool) → ((find p xs ≡ Some (get_or xs (position_or_len p xs) d)) × (position_or_len p xs < length xs)) ⊎ ((find p xs ≡ None) × (position_or_len p xs ≡ length xs))
        → ((cond b (Some x) (find p xs) ≡ Some (get_or (x ∷ xs) (cond (not b) (1 + position_or_len p xs) 0) d)) × (cond (not b) (1 + position_or_len p xs) 0 < length (x ∷ xs)))
        ⊎ ((cond b (Some x) (find p xs) ≡ None) × (cond (not b) (1 + position_or_len p xs) 0 ≡ length (x ∷ xs)))
    go true r = inl (refl, omega arith)
    go false (inl r) = inl (r.0 ∙ ap Some (sym (next (position_or_len p xs))), omega (arith, r.1))
    go false (inr r) = inr (r.0, omega (arith, r.1))

below : (n m : ℕ) → n < m → nat_lt n m ≡ true
below n m h = grind (arith, nat_tests)

not_below : (n m : ℕ) → m ≤ n → nat_lt n m ≡ false
not_below n m h = grind (arith, nat_tests)

pub find_place : {X : Type 0} (p : X → Bool) (d : X) (xs : List X) → ((i : ℕ) × (position p xs ≡ Some i) × (find p xs ≡ Some (get_or xs i d)) × (i < length xs)) ⊎ ((position p xs ≡ None) × (find p xs ≡ None))
find_place {X} p d xs = go (place p d xs)
  where
    go : ((find p xs ≡ Some (get_or xs (position_or_len p xs) d)) × (position_or_len p xs < length xs)) ⊎ ((find p xs ≡ None) × (position_or_len p xs ≡ length xs))
        → ((i : ℕ) × (position p xs ≡ Some i) × (find p xs ≡ Some (get_or xs i d)) × (i < length xs)) ⊎ ((position p xs ≡ None) × (find p xs ≡ None))
    go (inl r) = inl (position_or_len p xs, ap (λ b. cond b (Some (position_or_len p xs)) None) (below (position_or_len p xs) (length xs) r.1), r.0, r.1)
    go (inr r) = inr (ap (λ b. cond b (Some (position_or_len p xs)) None) (not_below (position_or_len p xs) (length xs) (omega (arith, r.1))), r.0)

-- the place among one member more
at_end : (n m long more : ℕ) (b : Bool) → more ≡ long + 1 → m ≡ cond (eqb n long) (long + cond b 0 1) n → (n < long) ⊎ (n ≡ long) → cond (nat_lt m more) (Some m) None ≡ option_or (cond (nat_lt n long) (Some n) None) (cond b (Some long) None)
at_end n m long more b k e (inl h) =
    let same : m ≡ n = e ∙ ap (λ t. cond t (long + cond b 0 1) n) (off (eqb n long) (λ t. grind (arith, nat_tests))) in
    ap (λ t. cond t (Some m) None) (below m more (omega arith)) ∙ ap Some same ∙ sym (ap (λ t. option_or (cond t (Some n) None) (cond b (Some long) None)) (below n long h))
  where
    off : (t : Bool) → (t ≡ true → ⊥) → t ≡ false
    off true f = absurd (f refl)
    off false f = refl
at_end n m long more b k e (inr h) =
    let same : m ≡ long + cond b 0 1 = e ∙ ap (λ t. cond t (long + cond b 0 1) n) (on (eqb n long) (λ t. grind (arith, nat_tests))) in
    by b same ∙ sym (ap (λ t. option_or (cond t (Some n) None) (cond b (Some long) None)) (not_below n long (omega arith)))
  where
    on : (t : Bool) → (t ≡ false → ⊥) → t ≡ true
    on false f = absurd (f refl)
    on true f = refl

    by : (b : Bool) → m ≡ long + cond b 0 1 → cond (nat_lt m more) (Some m) None ≡ cond b (Some long) None
    by true q = let same : m ≡ long = omega arith in ap (λ t. cond t (Some m) None) (below m more (omega arith)) ∙ ap Some same
    by false q = ap (λ t. cond t (Some m) None) (not_below m more (omega arith))

pub position_more : {X : Type 0} (p : X → Bool) (xs : List X) (y : X) → position p (xs ++ y ∷ []) ≡ option_or (position p xs) (cond (p y) (Some (length xs)) None)
position_more p xs y = at_end (position_or_len p xs) (position_or_len p (xs ++ y ∷ [])) (length xs) (length (xs ++ y ∷ [])) (p y) (omega (arith, length-append xs (y ∷ []))) (position_or_len_push p xs y) (inside (place p y xs))
  where
    inside : ((find p xs ≡ Some (get_or xs (position_or_len p xs) y)) × (position_or_len p xs < length xs)) ⊎ ((find p xs ≡ None) × (position_or_len p xs ≡ length xs)) → (position_or_len p xs < length xs) ⊎ (position_or_len p xs ≡ length xs)
    inside (inl r) = inl r.1
    inside (inr r) = inr r.1

-- firsts by number, with the table of their places
module _ {E : Type 0} (key : E → ℕ) where
  abbrev same_key : E → E → Bool
  same_key e f = key e == key f

  abbrev pub place_at : List E → ℕ → Option ℕ
  place_at found n = position (λ e. key e == n) found

  respects : (n : ℕ) (x y : E) → same_key x y ≡ true → (key x == n) ≡ (key y == n)
  respects n x y h = let e : key x ≡ key y = grind (arith, nat_tests) in ap (λ m. m == n) e

  -- a search by number among the firsts
  pub find_by : (es : List E) (n : ℕ) → find (λ e. key e == n) (firsts (λ e f. key e == key f) es) ≡ find (λ e. key e == n) es
  find_by es n = find_firsts same_key (λ e. key e == n) (respects n) es

  turned : (n : ℕ) (e : E) → (key e == n) ≡ (n == key e)
  turned n e = same_tests (key e == n) (n == key e) (λ t. grind (arith, nat_tests)) (λ t. grind (arith, nat_tests))

  any_by : (es : List E) (x : E) → ((y : E) × (find (λ e. key e == key x) es ≡ Some y) × (list_any (λ e. key e == key x) es ≡ true)) ⊎ ((find (λ e. key e == key x) es ≡ None) × (list_any (λ e. key e == key x) es ≡ false))
  any_by es x = find_any (λ e. key e == key x) es

  -- a member with a new number
  pub first_new : (count : ℕ) (es found : List E) (places : List (Option ℕ)) (i k : ℕ) (d : E) → i < length es → k ≡ key (get_or es i d) → k < count → get_or places k None ≡ None → found ≡ firsts same_key (take i es)
      → IsTableOf count places (place_at found) → found ++ get_or es i d ∷ [] ≡ firsts same_key (take (i + 1) es)
  first_new count es found places i k d l ke small none is h =
      let x : E = get_or es i d in
      let nowhere : position (λ e. key e == k) found ≡ None = sym (h.members k small) ∙ none in
      let unfound : find (λ e. key e == key x) (take i es) ≡ None =
      sym (find_by (take i es) (key x)) ∙ ap (λ ys. find (λ e. key e == key x) ys) (sym is) ∙ ap (λ n. find (λ e. key e == n) found) (sym ke) ∙ go x (find_place (λ e. key e == k) x found) nowhere in
      let fresh : list_any (λ e. key e == key x) (take i es) ≡ false = out (any_by (take i es) x) unfound in
      ap (λ ys. ys ++ x ∷ []) is ∙ ap (λ t. firsts same_key (take i es) ++ cond t [] (x ∷ [])) (sym fresh) ∙ sym (firsts_more same_key (take i es) x) ∙ ap (firsts same_key) (sym (take_more es i d l))
    where
      go : (x : E) → ((j : ℕ) × (position (λ e. key e == k) found ≡ Some j) × (find (λ e. key e == k) found ≡ Some (get_or found j x)) × (j < length found)) ⊎ ((position (λ e. key e == k) found ≡ None) × (find (λ e. key e == k) found ≡ None))
          → position (λ e. key e == k) found ≡ None → find (λ e. key e == k) found ≡ None
      go x (inl r) e = absurd (let wrong : Some r.0 ≡ None = sym r.1 ∙ e in cc)
      go x (inr r) e = r.1

      out : ((y : E) × (find (λ e. key e == key (get_or es i d)) (take i es) ≡ Some y) × (list_any (λ e. key e == key (get_or es i d)) (take i es) ≡ true)) ⊎ ((find (λ e. key e == key (get_or es i d)) (take i es) ≡ None) × (list_any (λ e. key e == key (get_or es i d)) (take i es) ≡ false))
          → find (λ e. key e == key (get_or es i d)) (take i es) ≡ None → list_any (λ e. key e == key (get_or es i d)) (take i es) ≡ false
      out (inl r) e = absurd (let wrong : Some r.0 ≡ None = sym r.1 ∙ e in cc)
      out (inr r) e = r.1

  -- and its place
  pub place_new : (count : ℕ) (found : List E) (places new : List (Option ℕ)) (k n : ℕ) (x : E) → k ≡ key x → k < count → get_or places k None ≡ None → n ≡ length found → new ≡ set places k (Some n)
      → IsTableOf count places (place_at found) → IsTableOf count new (place_at (found ++ x ∷ []))
  place_new count found places new k n x ke small none ne is h = record {
    whole = ap length is ∙ length-set places k (Some n) ∙ h.whole;
    members = λ m s. ap (λ ys. get_or ys m None) is ∙ set_first places k m n (let w : length places ≡ count = h.whole in omega arith) none
        ∙ ap (λ o. option_or o (cond (k == m) (Some n) None)) (h.members m s)
        ∙ ap (λ j. option_or (place_at found m) (cond (j == m) (Some n) None)) ke
        ∙ ap (λ j. option_or (place_at found m) (cond (key x == m) (Some j) None)) ne
        ∙ sym (position_more (λ e. key e == m) found x);
  }

  -- a member whose number is there
  pub first_old : (count : ℕ) (es found : List E) (places : List (Option ℕ)) (i k z : ℕ) (d : E) → i < length es → k ≡ key (get_or es i d) → k < count → get_or places k None ≡ Some z → found ≡ firsts same_key (take i es)
      → IsTableOf count places (place_at found) → found ≡ firsts same_key (take (i + 1) es)
  first_old count es found places i k z d l ke small some is h =
      let x : E = get_or es i d in
      let there : position (λ e. key e == k) found ≡ Some z = sym (h.members k small) ∙ some in
      let hit : (y : E) × (find (λ e. key e == k) found ≡ Some y) = go x (find_place (λ e. key e == k) x found) there in
      let found_one : find (λ e. key e == key x) (take i es) ≡ Some hit.0 =
      sym (find_by (take i es) (key x)) ∙ ap (λ ys. find (λ e. key e == key x) ys) (sym is) ∙ ap (λ n. find (λ e. key e == n) found) (sym ke) ∙ hit.1 in
      let known : list_any (λ e. key e == key x) (take i es) ≡ true = out hit.0 (any_by (take i es) x) found_one in
      is ∙ sym (append-nil (firsts same_key (take i es))) ∙ ap (λ t. firsts same_key (take i es) ++ cond t [] (x ∷ [])) (sym known) ∙ sym (firsts_more same_key (take i es) x) ∙ ap (firsts same_key) (sym (take_more es i d l))
    where
      go : (x : E) → ((j : ℕ) × (position (λ e. key e == k) found ≡ Some j) × (find (λ e. key e == k) found ≡ Some (get_or found j x)) × (j < length found)) ⊎ ((position (λ e. key e == k) found ≡ None) × (find (λ e. key e == k) found ≡ None))
          → position (λ e. key e == k) found ≡ Some z → (y : E) × (find (λ e. key e == k) found ≡ Some y)
      go x (inl r) e = (get_or found r.0 x, r.2)
      go x (inr r) e = absurd (let wrong : Some z ≡ None = sym e ∙ r.0 in cc)

      out : (y : E) → ((y : E) × (find (λ e. key e == key (get_or es i d)) (take i es) ≡ Some y) × (list_any (λ e. key e == key (get_or es i d)) (take i es) ≡ true)) ⊎ ((find (λ e. key e == key (get_or es i d)) (take i es) ≡ None) × (list_any (λ e. key e == key (get_or es i d)) (take i es) ≡ false))
          → find (λ e. key e == key (get_or es i d)) (take i es) ≡ Some y → list_any (λ e. key e == key (get_or es i d)) (take i es) ≡ true
      out y (inl r) e = r.2
      out y (inr r) e = absurd (let wrong : Some y ≡ None = sym e ∙ r.0 in cc)

  pub place_old : (count : ℕ) (found new_found : List E) (places new : List (Option ℕ)) → new_found ≡ found → new ≡ places → IsTableOf count places (place_at found) → IsTableOf count new (place_at new_found)
  place_old count found new_found places new e f h = subst (λ t. IsTableOf count t (place_at new_found)) (sym f) (subst (λ ys. IsTableOf count places (place_at ys)) (sym e) h)
