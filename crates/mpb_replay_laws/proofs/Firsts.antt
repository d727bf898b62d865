-- Lists are the same or have one first difference; of agents one is the least that may step, or none may; of pins one is the
-- least that isn't accounted for, or all are.
use Rattle.std.proofs.Common.{◌≡◌, ◌≢◌, ◌⊎◌, inl, inr, ℕ, zero, suc, ◌<◌, List, [], ◌∷◌, take, refl, sym, ap, ap₂, ◌∙◌, subst, arith, slice_get}
use Rattle.std.proofs.lemmas.Bool.{cases_lt}
use Rattle.mpb_replay_laws.specs.Differences.{IsFirstDifference}

-- ---- lists

pub none_differs : {X : Type 0} (xs ys : List X) (n : ℕ) → xs ≡ ys → ¬ IsFirstDifference xs ys n
none_differs xs ys n e d = d.other (ap (λ l. slice_get l n) e)

read-taken : {X : Type 0} (m n : ℕ) (xs : List X) → m < n → slice_get (take n xs) m ≡ slice_get xs m
read-taken m zero xs lt = absurd (omega (arith, lt))
read-taken m (suc n) [] lt = refl
read-taken zero (suc n) (x ∷ xs) lt = refl
read-taken (suc m) (suc n) (x ∷ xs) lt = read-taken m n xs (omega (arith, lt))

not-before : {X : Type 0} (xs ys : List X) (m n : ℕ) → IsFirstDifference xs ys m → IsFirstDifference xs ys n → m < n → ⊥
not-before xs ys m n one two lt = one.other (sym (read-taken m n xs lt) ∙ ap (λ l. slice_get l m) two.same ∙ read-taken m n ys lt)

pub one_difference : {X : Type 0} (xs ys : List X) (m n : ℕ) → IsFirstDifference xs ys m → IsFirstDifference xs ys n → m ≡ n
one_difference xs ys m n one two = elim (cases_lt m n) [
  | inl lt ↦ absurd (not-before xs ys m n one two lt)
  | inr le ↦ elim (cases_lt n m) [ inl lt ↦ absurd (not-before xs ys n m two one lt) | inr ge ↦ omega (arith, le, ge) ]
]

-- the first items differ
pub here : {X : Type 0} (x y : X) (xs ys : List X) → x ≢ y → IsFirstDifference (x ∷ xs) (y ∷ ys) 0
here x y xs ys ne = record { same = refl; other = λ e. ne (cc) }

-- a list goes on where the other ends
pub longer : {X : Type 0} (x : X) (xs : List X) → IsFirstDifference (x ∷ xs) [] 0
longer x xs = record { same = refl; other = λ e. cc }

pub shorter : {X : Type 0} (y : X) (ys : List X) → IsFirstDifference [] (y ∷ ys) 0
shorter y ys = record { same = refl; other = λ e. cc }

-- later ones
pub later : {X : Type 0} (x y : X) (xs ys : List X) (n : ℕ) → x ≡ y → IsFirstDifference xs ys n → IsFirstDifference (x ∷ xs) (y ∷ ys) (suc n)
later {X = X} x y xs ys n e d = record { same = ap₂ (λ (z : X) (l : List X). z ∷ l) e d.same; other = d.other }

pub same_or_differ : {X : Type 0} → ((x y : X) → (x ≡ y) ⊎ (x ≢ y)) → (xs ys : List X) → (xs ≡ ys) ⊎ ((n : ℕ) × IsFirstDifference xs ys n)
same_or_differ each [] [] = inl refl
same_or_differ each [] (y ∷ ys) = inr (0, shorter y ys)
same_or_differ each (x ∷ xs) [] = inr (0, longer x xs)
same_or_differ {X = X} each (x ∷ xs) (y ∷ ys) = elim (each x y) [
  | inr ne ↦ inr (0, here x y xs ys ne)
  | inl e ↦ elim (same_or_differ each xs ys) [ inl rest ↦ inl (ap₂ (λ (z : X) (l : List X). z ∷ l) e rest) | inr d ↦ inr (suc d.0, later x y xs ys d.0 e d.1) ]
]

pub same_lists : {X : Type 0} → ((x y : X) → (x ≡ y) ⊎ (x ≢ y)) → (xs ys : List X) → (xs ≡ ys) ⊎ (xs ≢ ys)
same_lists each xs ys = elim (same_or_differ each xs ys) [ inl e ↦ inl e | inr d ↦ inr (λ e. none_differs xs ys d.0 e d.1) ]

-- ---- numbers

-- what can be told of each number below n holds of none, or there is a least
pub record IsLeast (P : ℕ → Type 0) (n : ℕ) : Type 0 where
  pub holds : P n
  pub first : (m : ℕ) → m < n → ¬ P m

pub least_or_none : (P : ℕ → Type 0) → ((n : ℕ) → P n ⊎ (¬ P n)) → (n : ℕ) → ((m : ℕ) → m < n → ¬ P m) ⊎ ((m : ℕ) × (m < n) × IsLeast P m)
least_or_none P tell zero = inl (λ m lt. absurd (omega (arith, lt)))
least_or_none P tell (suc n) = elim (least_or_none P tell n) [
  | inr found ↦ inr (found.0, omega (arith, found.1), found.2)
  | inl none ↦ elim (tell n) [
    | inl p ↦ inr (n, omega arith, record { holds = p; first = none })
    | inr not ↦ inl (λ m lt. elim (cases_lt m n) [ inl l ↦ none m l | inr le ↦ (let same : n ≡ m = omega (arith, lt, le) in subst (λ (k : ℕ). ¬ P k) same not) ])
  ]
]
