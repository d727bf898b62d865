-- Members of a list, and what is read at an index.
use Rattle.std.proofs.Common.{◌≡◌, ℕ, zero, suc, ◌+◌, ◌<◌, ◌≤◌, List, [], ◌∷◌, ◌++◌, length, take, get_or, refl, ap, ◌∙◌, arith, Some, None, slice_get, inl, inr, ◌⊎◌, subst}
use Rattle.std.specs.List.{AllByRecursion, Contains}

-- a member of a list is its head or a later one
pub head_or : {X : Type 0} (y : X) (xs : List X) (x : X) → Contains (y ∷ xs) x → (y ≡ x) ⊎ Contains xs x
head_or {X = X} y xs x h = go h.0 h.1 h.2 where
  go : (k : ℕ) → k < suc (length xs) → get_or (y ∷ xs) k x ≡ x → (y ≡ x) ⊎ Contains xs x
  go zero lt e = inl e
  go (suc k) lt e = inr (k, omega arith, e)

-- what holds of each holds of a member
pub member : {X : Type 0} (P : X → Type 0) (xs : List X) (x : X) → AllByRecursion P xs → Contains xs x → P x
member P [] x all h = absurd (omega (arith, h.1))
member P (y ∷ xs) x all h = elim (head_or y xs x h) [ inl e ↦ subst P e all.0 | inr h ↦ member P xs x all.1 h ]

-- what is read at an index is a member
pub read_member : {X : Type 0} (P : X → Type 0) (xs : List X) (i : ℕ) (x : X) → AllByRecursion P xs → slice_get xs i ≡ Some x → P x
read_member P [] i x all e = cc
read_member P (y ∷ xs) zero x all e = let same : y ≡ x = cc in subst P same all.0
read_member P (y ∷ xs) (suc i) x all e = read_member P xs i x all.1 e

-- a member of a list stands at an index, and one that is read there is a member
pub index_of : {X : Type 0} (xs : List X) (x : X) → Contains xs x → (n : ℕ) × (slice_get xs n ≡ Some x)
index_of [] x h = absurd (omega (arith, h.1))
index_of (y ∷ xs) x h = elim (head_or y xs x h) [ inl e ↦ (0, ap Some e) | inr later ↦ let r = index_of xs x later in (suc r.0, r.1) ]

pub read_here : {X : Type 0} (xs : List X) (n : ℕ) (x : X) → slice_get xs n ≡ Some x → Contains xs x
read_here [] n x e = cc
read_here (y ∷ xs) zero x e = let same : y ≡ x = cc in (0, omega arith, same)
read_here (y ∷ xs) (suc n) x e = let r = read_here xs n x e in (suc r.0, omega (arith, r.1), r.2)

-- where nothing is read the list has ended
pub none_past : {X : Type 0} (xs : List X) (n : ℕ) → slice_get xs n ≡ None → length xs ≤ n
none_past [] n e = omega arith
none_past (y ∷ xs) zero e = cc
none_past (y ∷ xs) (suc n) e = omega (arith, none_past xs n e)

-- after a first part
pub read_after : {X : Type 0} (xs : List X) (y : X) (ys : List X) → slice_get (xs ++ y ∷ ys) (length xs) ≡ Some y
read_after [] y ys = refl
read_after (x ∷ xs) y ys = read_after xs y ys

pub read_later : {X : Type 0} (xs ys : List X) (n : ℕ) → slice_get (xs ++ ys) (length xs + n) ≡ slice_get ys n
read_later [] ys n = ap (slice_get ys) (omega arith)
read_later (x ∷ xs) ys n =
    let next : suc (length xs) + n ≡ suc (length xs + n) = omega arith in
    ap (slice_get (x ∷ (xs ++ ys))) next ∙ read_later xs ys n

-- in a first part
pub read_taken : {X : Type 0} (n : ℕ) (xs : List X) (i : ℕ) (x : X) → slice_get (take n xs) i ≡ Some x → (i < n) × (slice_get xs i ≡ Some x)
read_taken zero xs i x e = cc
read_taken (suc n) [] i x e = cc
read_taken (suc n) (y ∷ xs) zero x e = (omega arith, e)
read_taken (suc n) (y ∷ xs) (suc i) x e = let r = read_taken n xs i x e in (omega (arith, r.0), r.1)

pub taken_read : {X : Type 0} (n : ℕ) (xs : List X) (i : ℕ) (x : X) → i < n → slice_get xs i ≡ Some x → slice_get (take n xs) i ≡ Some x
taken_read zero xs i x lt e = absurd (omega arith)
taken_read (suc n) [] i x lt e = e
taken_read (suc n) (y ∷ xs) zero x lt e = e
taken_read (suc n) (y ∷ xs) (suc i) x lt e = taken_read n xs i x (omega arith) e
