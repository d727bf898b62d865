-- The members of a set, one more number at a time; of an ascending list of vectors they are the list itself.
use Rattle.std.proofs.Common.{◌≡◌, ◌≢◌, ◌==◌, ◌||◌, ℕ, zero, suc, ◌+◌, ◌<◌, ◌≤◌, Bool, true, false, cond, List, [], ◌∷◌, ◌++◌, filter, refl, sym, ap, ◌∙◌, add-one, arith}
use Rattle.std.proofs.lemmas.Bool.{ne_eqb, eqb-true, eqb-false}
use Rattle.std.proofs.lemmas.List.{append-nil}
use Rattle.std.specs.List.{AllByRecursion, range_with_len}
use Rattle.mpb_spec.specs.Numbers.{has, IsAscending}
use Rattle.mpb_report_spec.specs.StateLines.{members, members_below}

range-more : (a n : ℕ) → range_with_len a (suc n) ≡ range_with_len a n ++ (a + n) ∷ []
range-more a zero = let e : a + 0 ≡ a = omega arith in rw e refl
range-more a (suc n) = let e : a + 1 + n ≡ a + suc n = omega arith in ap (λ (t : List ℕ). a ∷ t) (range-more (a + 1) n ∙ ap (λ (k : ℕ). range_with_len (a + 1) n ++ k ∷ []) e)

filter-more : (p : ℕ → Bool) (xs : List ℕ) (n : ℕ) → filter p (xs ++ n ∷ []) ≡ filter p xs ++ cond (p n) (n ∷ []) []
filter-more p [] n = elim (p n) as (λ b. cond b (n ∷ []) [] ≡ cond b (n ∷ []) []) [ true ↦ refl | false ↦ refl ]
filter-more p (x ∷ xs) n =
    elim (p x) as (λ b. cond b (x ∷ filter p (xs ++ n ∷ [])) (filter p (xs ++ n ∷ [])) ≡ cond b (x ∷ filter p xs) (filter p xs) ++ cond (p n) (n ∷ []) [])
    [ true ↦ ap (λ (t : List ℕ). x ∷ t) (filter-more p xs n) | false ↦ filter-more p xs n ]

members-more : (n : ℕ) (xs : List ℕ) → members_below (n + 1) xs ≡ members_below n xs ++ cond (has n xs) (n ∷ []) []
unfolding members_below
members-more n xs =
    let e : 0 + n ≡ n = omega arith in
    ap (λ (k : ℕ). filter (λ v. has v xs) (range_with_len 0 k)) (add-one n)
    ∙ ap (filter (λ v. has v xs)) (range-more 0 n ∙ ap (λ (k : ℕ). range_with_len 0 n ++ k ∷ []) e)
    ∙ filter-more (λ v. has v xs) (range_with_len 0 n) n

-- no number is below 0
pub members_none : (xs : List ℕ) → members_below 0 xs ≡ []
unfolding members_below
members_none xs = refl

-- one more number that is a member
pub members_with : (n : ℕ) (xs : List ℕ) → has n xs ≡ true → members_below (n + 1) xs ≡ members_below n xs ++ n ∷ []
members_with n xs h = members-more n xs ∙ ap (λ (b : Bool). members_below n xs ++ cond b (n ∷ []) []) h

-- and one that is none
pub members_without : (n : ℕ) (xs : List ℕ) → has n xs ≡ false → members_below (n + 1) xs ≡ members_below n xs
members_without n xs h = members-more n xs ∙ ap (λ (b : Bool). members_below n xs ++ cond b (n ∷ []) []) h ∙ append-nil (members_below n xs)

-- all vectors are asked
pub members_all : (xs : List ℕ) → members xs ≡ members_below 256 xs
unfolding members
members_all xs = refl

-- numbers below all of a set are none of it
none-below : (a : ℕ) (xs : List ℕ) → AllByRecursion (λ v. a < v) xs → has a xs ≡ false
none-below a [] above = refl
none-below a (x ∷ xs) above =
    let greater : a < x = above.0 in
    let other : (x == a) ≡ false = ne_eqb x a (λ e. omega (arith, greater, e)) in
    rw other (none-below a xs above.1)

-- a lesser member is none of those asked
asked-behind : (x : ℕ) (xs : List ℕ) (a n : ℕ) → x < a → filter (λ v. has v (x ∷ xs)) (range_with_len a n) ≡ filter (λ v. has v xs) (range_with_len a n)
asked-behind x xs a zero lt = refl
asked-behind x xs a (suc n) lt =
    let other : (x == a) ≡ false = ne_eqb x a (λ e. omega (arith, lt, e)) in
    rw other (ap (λ (t : List ℕ). cond (has a xs) (a ∷ t) t) (asked-behind x xs (a + 1) n (omega arith)))

weaker : (a b : ℕ) (xs : List ℕ) → a ≤ b → AllByRecursion (λ v. b < v) xs → AllByRecursion (λ v. a < v) xs
weaker a b [] le above = tt
weaker a b (x ∷ xs) le above = let greater : b < x = above.0 in (omega arith, weaker a b xs le above.1)

-- the rest of an ascending list, where its first is no less than a
behind-first : (a x : ℕ) (xs : List ℕ) → a ≤ x → AllByRecursion (λ y. x < y) xs → AllByRecursion (λ v. a + 1 ≤ v) xs
behind-first a x [] le above = tt
behind-first a x (y ∷ ys) le above = let greater : x < y = above.0 in (omega arith, behind-first a x ys le above.1)

-- where all numbers from the least one on are asked, all members are found
all-asked : (n a m : ℕ) (xs : List ℕ) → a + n ≡ m → IsAscending xs → AllByRecursion (λ v. a ≤ v) xs → AllByRecursion (λ v. v < m) xs → filter (λ v. has v xs) (range_with_len a n) ≡ xs
all-asked zero a m [] sum ascending from below = refl
all-asked zero a m (x ∷ xs) sum ascending from below = let le : a ≤ x = from.0 in let lt : x < m = below.0 in absurd (omega arith)
all-asked (suc n) a m [] sum ascending from below = all-asked n (a + 1) m [] (omega arith) tt tt tt
all-asked (suc n) a m (x ∷ xs) sum ascending from below =
    go (x == a) refl (λ f. all-asked n (a + 1) m xs (omega arith) ascending.1 f below.1) (λ f. all-asked n (a + 1) m (x ∷ xs) (omega arith) ascending f below)
  where
    go : (b : Bool) → (x == a) ≡ b
        → (AllByRecursion (λ v. a + 1 ≤ v) xs → filter (λ v. has v xs) (range_with_len (a + 1) n) ≡ xs)
        → (AllByRecursion (λ v. a + 1 ≤ v) (x ∷ xs) → filter (λ v. has v (x ∷ xs)) (range_with_len (a + 1) n) ≡ x ∷ xs)
        → cond {A = List ℕ} (b || has a xs) (a ∷ filter (λ v. has v (x ∷ xs)) (range_with_len (a + 1) n)) (filter (λ v. has v (x ∷ xs)) (range_with_len (a + 1) n)) ≡ x ∷ xs
    go true e rest all =
        let same : x ≡ a = eqb-true x a e in
        ap (λ (t : List ℕ). a ∷ t) (asked-behind x xs (a + 1) n (omega arith) ∙ rest (behind-first a x xs (omega arith) ascending.0))
        ∙ ap (λ (k : ℕ). k ∷ xs) (sym same)
    go false e rest all =
        let least : a ≤ x = from.0 in
        let other : x ≢ a = eqb-false x a e in
        let lesser : a < x = omega arith in
        let none : has a xs ≡ false = none-below a xs (weaker a x xs least ascending.0) in
        rw none (all (omega arith, behind-first a x xs least ascending.0))

all-from-none : (ys : List ℕ) → AllByRecursion (λ v. 0 ≤ v) ys
all-from-none [] = tt
all-from-none (y ∷ ys) = (omega arith, all-from-none ys)

all-members : (xs : List ℕ) → IsAscending xs → AllByRecursion (λ v. v < 256) xs → members_below 256 xs ≡ xs
unfolding members_below
all-members xs ascending below = all-asked 256 0 256 xs refl ascending (all-from-none xs) below

-- the vectors of a set are the set
pub members_of_set : (xs : List ℕ) → IsAscending xs → AllByRecursion (λ v. v < 256) xs → members xs ≡ xs
members_of_set xs ascending below = members_all xs ∙ all-members xs ascending below
