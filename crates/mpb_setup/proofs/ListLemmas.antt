-- Lists: what holds of each member, of a filter, of joined lists; ranges; distinct bytes.
use Rattle.std.proofs.Common.{◌≡◌, ◌≢◌, ◌==◌, ℕ, zero, suc, ◌+◌, ◌<◌, ◌≤◌, Bool, true, false, cond, ◌||◌, List, [], ◌∷◌, ◌++◌, length, append-nil, get_or, map, filter, count_by, None, Some, nat_lt, refl, sym, ap, ◌∙◌, subst, arith, inl, inr, ◌⊎◌}
use Rattle.std.specs.List.{AllByRecursion, range_with_len, list_any, flat_map, find, IsDistinct, Contains}
use Rattle.std.proofs.lemmas.List.Sums.{sum_by-cons}
use Rattle.std.proofs.lemmas.Bool.{ne_eqb, eq-eqb, eqb-true, eqb-false, ltb-false, cases_eq}
use Rattle.std.proofs.lemmas.List.FromFn.{length-range_with_len}
use Rattle.std.proofs.lemmas.Map.Steps.{length-le_from_distinct_below}
use Rattle.mpb_spec.specs.Numbers.{has, IsAscending, AreBytes}
use Rattle.mpb_setup.specs.Board.{all_ids}
use Rattle.mpb_setup.specs.Faults.{least_double}

-- what holds of each member of two lists, of a filter, of a map
pub all-append : {X : Type 0} (P : X → Type 0) (xs ys : List X) → AllByRecursion P xs → AllByRecursion P ys → AllByRecursion P (xs ++ ys)
all-append P [] ys a b = b
all-append P (x ∷ xs) ys a b = (a.0, all-append P xs ys a.1 b)

pub all-flat_map : {X Y : Type 0} (P : Y → Type 0) (f : X → List Y) (xs : List X) → AllByRecursion (λ x. AllByRecursion P (f x)) xs → AllByRecursion P (flat_map f xs)
all-flat_map P f [] a = tt
all-flat_map P f (x ∷ xs) a = all-append P (f x) (flat_map f xs) a.0 (all-flat_map P f xs a.1)

pub all-filter : {X : Type 0} (P : X → Type 0) (f : X → Bool) (xs : List X) → ((x : X) → f x ≡ true → P x) → AllByRecursion P (filter f xs)
all-filter P f [] h = tt
all-filter {X = X} P f (x ∷ xs) h = go (f x) refl (all-filter P f xs h)
  where
    go : (b : Bool) → f x ≡ b → AllByRecursion P (filter f xs) → AllByRecursion P (cond b (x ∷ filter f xs) (filter f xs))
    go true e rest = (h x e, rest)
    go false e rest = rest

pub all-map : {X Y : Type 0} (P : Y → Type 0) (f : X → Y) (xs : List X) → AllByRecursion (λ x. P (f x)) xs → AllByRecursion P (map f xs)
all-map P f [] a = tt
all-map P f (x ∷ xs) a = (a.0, all-map P f xs a.1)

pub all-weaker : {X : Type 0} (P Q : X → Type 0) (xs : List X) → ((x : X) → P x → Q x) → AllByRecursion P xs → AllByRecursion Q xs
all-weaker P Q [] h a = tt
all-weaker P Q (x ∷ xs) h a = (h x a.0, all-weaker P Q xs h a.1)

pub all-both : {X : Type 0} (P Q : X → Type 0) (xs : List X) → AllByRecursion P xs → AllByRecursion Q xs → AllByRecursion (λ x. P x × Q x) xs
all-both P Q [] a b = tt
all-both P Q (x ∷ xs) a b = ((a.0, b.0), all-both P Q xs a.1 b.1)

-- a member is one of all
pub all-at : {X : Type 0} (P : X → Type 0) (xs : List X) (k : ℕ) (d : X) → AllByRecursion P xs → k < length xs → P (get_or xs k d)
all-at P [] k d a l = absurd (omega (arith, l))
all-at P (x ∷ xs) zero d a l = a.0
all-at P (x ∷ xs) (suc k) d a l = all-at P xs k d a.1 (omega (arith, l))

pub all-contains : {X : Type 0} (P : X → Type 0) (xs : List X) (x : X) → AllByRecursion P xs → Contains xs x → P x
all-contains P xs x a c = subst P c.2 (all-at P xs c.0 x a c.1)

-- no member passes a test that none does
pub none-any : {X : Type 0} (f : X → Bool) (xs : List X) → list_any f xs ≡ false → AllByRecursion (λ x. f x ≡ false) xs
none-any f [] e = tt
none-any {X = X} f (x ∷ xs) e = go (f x) refl (list_any f xs) refl e (λ h. none-any f xs h)
  where
    go : (b : Bool) → f x ≡ b → (c : Bool) → list_any f xs ≡ c → (b || c) ≡ false → (list_any f xs ≡ false → AllByRecursion (λ y. f y ≡ false) xs) → (f x ≡ false) × AllByRecursion (λ y. f y ≡ false) xs
    go true b c d e rest = cc
    go false b true d e rest = cc
    go false b false d e rest = (b, rest d)

-- the ids are a range, without its list being written out
pub all_is : (n : ℕ) → n ≡ 256 → all_ids ≡ range_with_len 0 n
unfolding all_ids
all_is n e = ap (range_with_len 0) (sym e)

-- the first of a range that passes; where none does, none does
pub find-first : (f : ℕ → Bool) (a n k : ℕ) → a ≤ k → k < a + n → ((j : ℕ) → j < k → f j ≡ false) → f k ≡ true → find f (range_with_len a n) ≡ Some k
find-first f a zero k l m before e = absurd (omega (arith, l, m))
find-first f a (suc n) k l m before e = go (cases_eq a k) (λ q. find-first f (a + 1) n k q (omega (arith, m)) before e)
  where
    go : (a ≡ k) ⊎ (a ≢ k) → (a + 1 ≤ k → find f (range_with_len (a + 1) n) ≡ Some k) → cond (f a) (Some a) (find f (range_with_len (a + 1) n)) ≡ Some k
    go (inl same) rest = rw (same, e) refl
    go (inr ne) rest = let off : f a ≡ false = before a (omega (arith, ne, l)) in rw off (rest (omega (arith, ne, l)))

pub find-nowhere : (f : ℕ → Bool) (a n : ℕ) → ((j : ℕ) → j < a + n → f j ≡ false) → find f (range_with_len a n) ≡ None
find-nowhere f a zero none = refl
find-nowhere f a (suc n) none = let off : f a ≡ false = none a (omega arith) in rw off (find-nowhere f (a + 1) n (λ j l. none j (omega (arith, l))))

first_at : (n : ℕ) → n ≡ 256 → (f : ℕ → Bool) (k : ℕ) → k < 256 → ((j : ℕ) → j < k → f j ≡ false) → f k ≡ true → find f all_ids ≡ Some k
first_at n e f k l before on = ap (find f) (all_is n e) ∙ find-first f 0 n k (omega arith) (omega (arith, l, e)) before on

-- the least id that passes, and that none does
pub first_id : (f : ℕ → Bool) (k : ℕ) → k < 256 → ((j : ℕ) → j < k → f j ≡ false) → f k ≡ true → find f all_ids ≡ Some k
first_id = first_at 256 refl

nowhere_at : (n : ℕ) → n ≡ 256 → (f : ℕ → Bool) → ((j : ℕ) → j < 256 → f j ≡ false) → find f all_ids ≡ None
nowhere_at n e f none = ap (find f) (all_is n e) ∙ find-nowhere f 0 n (λ j l. none j (omega (arith, l, e)))

pub no_id : (f : ℕ → Bool) → ((j : ℕ) → j < 256 → f j ≡ false) → find f all_ids ≡ None
no_id = nowhere_at 256 refl

pub find-none : (f : ℕ → Bool) (a n : ℕ) → find f (range_with_len a n) ≡ None → (k : ℕ) → a ≤ k → k < a + n → f k ≡ false
find-none f a zero e k l m = absurd (omega (arith, l, m))
find-none f a (suc n) e k l m = go (f a) refl e (k == a) refl (λ q r. find-none f (a + 1) n q k r (omega (arith, m)))
  where
    go : (b : Bool) → f a ≡ b → cond b (Some a) (find f (range_with_len (a + 1) n)) ≡ None → (c : Bool) → (k == a) ≡ c → (find f (range_with_len (a + 1) n) ≡ None → a + 1 ≤ k → f k ≡ false) → f k ≡ false
    go true b e c d rest = cc
    go false b e true d rest = ap f (eqb-true k a d) ∙ b
    go false b e false d rest = rest e (let ne = eqb-false k a d in omega (arith, ne, l))

-- a range is ascending, and has its numbers
range-above : (u a n : ℕ) → u < a → AllByRecursion (λ y. u < y) (range_with_len a n)
range-above u a zero l = tt
range-above u a (suc n) l = (l, range-above u (a + 1) n (omega (arith, l)))

range-ascending : (a n : ℕ) → IsAscending (range_with_len a n)
range-ascending a zero = tt
range-ascending a (suc n) = (range-above a (a + 1) n (omega arith), range-ascending (a + 1) n)

range-below : (a n end : ℕ) → a + n ≤ end → AllByRecursion (λ y. y < end) (range_with_len a n)
range-below a zero end l = tt
range-below a (suc n) end l = (omega (arith, l), range-below (a + 1) n end (omega (arith, l)))

range-push : (a n : ℕ) → range_with_len a (suc n) ≡ range_with_len a n ++ (a + n) ∷ []
range-push a zero = let e : a + 0 ≡ a = omega arith in rw e refl
range-push a (suc n) =
    let e : (a + 1) + n ≡ a + suc n = omega arith in
    ap (λ (l : List ℕ). a ∷ l) (subst (λ (m : ℕ). range_with_len (a + 1) (suc n) ≡ range_with_len (a + 1) n ++ m ∷ []) e (range-push (a + 1) n))

-- one more number of a range, where it passes and where it doesn't
filter-push : (f : ℕ → Bool) (xs : List ℕ) (x : ℕ) → filter f (xs ++ x ∷ []) ≡ filter f xs ++ cond (f x) (x ∷ []) []
filter-push f [] x = refl
filter-push f (y ∷ xs) x = elim (f y) as (λ b. cond b (y ∷ filter f (xs ++ x ∷ [])) (filter f (xs ++ x ∷ [])) ≡ cond b (y ∷ filter f xs) (filter f xs) ++ cond (f x) (x ∷ []) []) [
  | true ↦ ap (λ (l : List ℕ). y ∷ l) (filter-push f xs x)
  | false ↦ filter-push f xs x
]

pub filter-more : (f : ℕ → Bool) (n : ℕ) → filter f (range_with_len 0 (n + 1)) ≡ filter f (range_with_len 0 n) ++ cond (f n) (n ∷ []) []
filter-more f n =
    let e : n + 1 ≡ suc n = omega arith in
    let z : 0 + n ≡ n = omega arith in
    let pushed : range_with_len 0 (suc n) ≡ range_with_len 0 n ++ n ∷ [] = subst (λ (m : ℕ). range_with_len 0 (suc n) ≡ range_with_len 0 n ++ m ∷ []) z (range-push 0 n) in
    ap (λ (m : ℕ). filter f (range_with_len 0 m)) e ∙ ap (filter f) pushed ∙ filter-push f (range_with_len 0 n) n

-- one more id is looked at, and passes or doesn't
pub filter-grows : (f : ℕ → Bool) (n : ℕ) (old new : List ℕ) → f n ≡ true → new ≡ old ++ n ∷ [] → old ≡ filter f (range_with_len 0 n) → new ≡ filter f (range_with_len 0 (n + 1))
filter-grows f n old new on pushed was = pushed ∙ ap (λ (l : List ℕ). l ++ n ∷ []) was ∙ sym (filter-more f n ∙ ap (λ (b : Bool). filter f (range_with_len 0 n) ++ cond b (n ∷ []) []) on)

pub filter-stays : (f : ℕ → Bool) (n : ℕ) (old new : List ℕ) → f n ≡ false → new ≡ old → old ≡ filter f (range_with_len 0 n) → new ≡ filter f (range_with_len 0 (n + 1))
filter-stays f n old new off same was = same ∙ was ∙ sym (filter-more f n ∙ ap (λ (b : Bool). filter f (range_with_len 0 n) ++ cond b (n ∷ []) []) off ∙ append-nil (filter f (range_with_len 0 n)))

pub filter-all : (f : ℕ → Bool) (n : ℕ) → n ≤ 256 → 256 ≤ n → filter f (range_with_len 0 n) ≡ filter f all_ids
filter-all f n l m = ap (filter f) (sym (all_is n (omega (arith, l, m))))

has-range : (a n v : ℕ) → a ≤ v → v < a + n → has v (range_with_len a n) ≡ true
has-range a zero v l m = absurd (omega (arith, l, m))
has-range a (suc n) v l m = go (a == v) refl (λ q. has-range (a + 1) n v q (omega (arith, m)))
  where
    go : (b : Bool) → (a == v) ≡ b → (a + 1 ≤ v → has v (range_with_len (a + 1) n) ≡ true) → (b || has v (range_with_len (a + 1) n)) ≡ true
    go true b rest = refl
    go false b rest = rest (let ne = eqb-false a v b in omega (arith, ne, l))

-- a member that passes is in the filter
pub has-filter : (f : ℕ → Bool) (v : ℕ) (xs : List ℕ) → f v ≡ true → has v xs ≡ true → has v (filter f xs) ≡ true
has-filter f v [] p h = h
has-filter f v (x ∷ xs) p h = go (x == v) refl (f x) refl h (λ k. has-filter f v xs p k)
  where
    go : (b : Bool) → (x == v) ≡ b → (c : Bool) → f x ≡ c → (b || has v xs) ≡ true → (has v xs ≡ true → has v (filter f xs) ≡ true) → has v (cond c (x ∷ filter f xs) (filter f xs)) ≡ true
    go true b true c h rest = rw b refl
    go true b false c h rest = let same : x ≡ v = eqb-true x v b in let off : f v ≡ false = ap f (sym same) ∙ c in cc
    go false b true c h rest = rw b (rest h)
    go false b false c h rest = rest h

pub has-some : (v : ℕ) (xs : List ℕ) → has v xs ≡ true → 1 ≤ length xs
has-some v [] h = cc
has-some v (x ∷ xs) h = omega arith

-- no id twice: each is told apart from those after it
apart : (x : ℕ) (xs : List ℕ) → count_by (λ y. y == x) xs ≡ 0 → AllByRecursion (λ y. (x == y) ≡ false) xs
apart x [] e = tt
apart x (y ∷ ys) e = go (y == x) refl (sym (sum_by-cons (λ (z : ℕ). cond {A = ℕ} (z == x) 1 0) y ys) ∙ e) (λ q. apart x ys q)
  where
    go : (b : Bool) → (y == x) ≡ b → cond {A = ℕ} b 1 0 + count_by (λ z. z == x) ys ≡ 0 → (count_by (λ z. z == x) ys ≡ 0 → AllByRecursion (λ z. (x == z) ≡ false) ys) → ((x == y) ≡ false) × AllByRecursion (λ z. (x == z) ≡ false) ys
    go true b q rest = absurd (omega (arith, q))
    go false b q rest = (ne_eqb x y (λ s. eqb-false y x b (sym s)), rest (omega (arith, q)))

once-distinct : (xs : List ℕ) → AreBytes xs → ((k : ℕ) → k < 256 → count_by (λ y. y == k) xs ≤ 1) → IsDistinct ◌==◌ xs
unfolding IsDistinct
once-distinct [] a h = tt
once-distinct (x ∷ xs) a h = (
  apart x xs (let q = h x a.0 in let here : (x == x) ≡ true = eq-eqb x x refl in let one : cond {A = ℕ} (x == x) 1 0 ≡ 1 = rw here refl in let s = sum_by-cons (λ (z : ℕ). cond {A = ℕ} (z == x) 1 0) x xs in omega (arith, q, one, s)),
  once-distinct xs a.1 (λ k l. let q = h k l in let s = sum_by-cons (λ (z : ℕ). cond {A = ℕ} (z == k) 1 0) x xs in omega (arith, q, s)),
)

any-below : (n : ℕ) (xs : List ℕ) → AllByRecursion (λ x. x < n) xs → (q : ℕ) → list_any (◌==◌ q) xs ≡ true → q < n
any-below n [] a q h = cc
any-below n (x ∷ xs) a q h = go (q == x) refl h (λ k. any-below n xs a.1 q k)
  where
    go : (b : Bool) → (q == x) ≡ b → (b || list_any (◌==◌ q) xs) ≡ true → (list_any (◌==◌ q) xs ≡ true → q < n) → q < n
    go true b h rest = let same : q ≡ x = eqb-true q x b in omega (arith, same, a.0)
    go false b h rest = rest h

pub distinct-few : (n : ℕ) (xs : List ℕ) → AllByRecursion (λ x. x < n) xs → IsDistinct ◌==◌ xs → length xs ≤ n
distinct-few n xs a d = length-le_from_distinct_below xs n d (any-below n xs a)

-- bytes of which none is doubled are at most 256
at_most : (m n : ℕ) → nat_lt m n ≡ false → n ≤ m
at_most m n q = ltb-false m n q

once-all : (n : ℕ) (xs : List ℕ) → find (λ k. nat_lt 1 (count_by (λ y. y == k) xs)) (range_with_len 0 n) ≡ None → (k : ℕ) → k < n → count_by (λ y. y == k) xs ≤ 1
once-all n xs e k l = at_most 1 (count_by (λ y. y == k) xs) (find-none (λ j. nat_lt 1 (count_by (λ y. y == j) xs)) 0 n e k (omega arith) (omega (arith, l)))

once-at : (n : ℕ) → n ≡ 256 → (xs : List ℕ) → least_double xs ≡ None → (k : ℕ) → k < 256 → count_by (λ y. y == k) xs ≤ 1
once-at n q xs e k l = once-all n xs (sym (ap (find (λ j. nat_lt 1 (count_by (λ y. y == j) xs))) (all_is n q)) ∙ e) k (omega (arith, l, q))

pub few-bytes : (xs : List ℕ) → AreBytes xs → least_double xs ≡ None → length xs ≤ 256
few-bytes xs a e = distinct-few 256 xs a (once-distinct xs a (once-at 256 refl xs e))

-- what is known of bytes that are read
pub are-bytes : (xs : List ℕ) → ((i : ℕ) → i < length xs → get_or xs i 0 < 256) → AreBytes xs
are-bytes [] h = tt
are-bytes (x ∷ xs) h = (h 0 (omega arith), are-bytes xs (λ i l. h (suc i) (omega (arith, l))))

-- the ids are ascending, and each byte is one
ascending_at : (n : ℕ) → n ≡ 256 → IsAscending all_ids
ascending_at n e = subst IsAscending (sym (all_is n e)) (range-ascending 0 n)

pub ids-ascending : IsAscending all_ids
ids-ascending = ascending_at 256 refl

below_at : (n : ℕ) → n ≡ 256 → AllByRecursion (λ id. id < 256) all_ids
below_at n e = subst (AllByRecursion (λ id. id < 256)) (sym (all_is n e)) (range-below 0 n 256 (omega (arith, e)))

pub ids-below : AllByRecursion (λ id. id < 256) all_ids
ids-below = below_at 256 refl

has_at : (n : ℕ) → n ≡ 256 → (id : ℕ) → id < 256 → has id all_ids ≡ true
has_at n e id l = ap (has id) (all_is n e) ∙ has-range 0 n id (omega arith) (omega (arith, l, e))

pub has-id : (id : ℕ) → id < 256 → has id all_ids ≡ true
has-id = has_at 256 refl

filter-short : (f : ℕ → Bool) (xs : List ℕ) → length (filter f xs) ≤ length xs
filter-short f [] = omega arith
filter-short f (x ∷ xs) = elim (f x) as (λ b. length (cond b (x ∷ filter f xs) (filter f xs)) ≤ length (x ∷ xs)) [ true ↦ omega (arith, filter-short f xs) | false ↦ omega (arith, filter-short f xs) ]

filter_few_at : (n : ℕ) → n ≡ 256 → (f : ℕ → Bool) → length (filter f all_ids) ≤ 256
filter_few_at n e f = let same = ap length (all_is n e) in omega (arith, filter-short f all_ids, same, length-range_with_len 0 n, e)

-- at most 256 ids pass
pub filter-few : (f : ℕ → Bool) → length (filter f all_ids) ≤ 256
filter-few = filter_few_at 256 refl

-- one more that doesn't pass
pub none-more : (f : ℕ → Bool) (n : ℕ) → ((k : ℕ) → k < n → f k ≡ false) → f n ≡ false → (k : ℕ) → k < n + 1 → f k ≡ false
none-more f n before here k l = elim (cases_eq k n) [ inl same ↦ ap f same ∙ here | inr ne ↦ before k (omega (arith, ne, l)) ]
