-- Sets of numbers as ascending lists: they stay ascending and below a bound, and their members after one is added or removed.
use Rattle.std.proofs.Common.{◌≡◌, ◌≢◌, ◌==◌, ℕ, ◌<◌, ◌≤◌, Bool, true, false, not, cond, ◌&&◌, ◌||◌, List, [], ◌∷◌, ◌++◌, refl, sym, ap, ap₂, ◌∙◌, arith, filter, nat_lt, inl, inr}
use Rattle.std.specs.List.{AllByRecursion}
use Rattle.std.proofs.lemmas.Bool.{lt-ltb, le-ltb, ne_eqb, eq-eqb, eqb-true, cases_lt, ltb-true}
use Rattle.mpb_spec.specs.Numbers.{has, with_number, without, IsAscending}

-- each member from a list on is above
abbrev pub AllAbove : ℕ → List ℕ → Type 0
AllAbove v xs = AllByRecursion (λ y. v < y) xs

abbrev pub AllBelow : ℕ → List ℕ → Type 0
AllBelow v xs = AllByRecursion (λ y. y < v) xs

pub AllAbove-weaker : (u v : ℕ) (xs : List ℕ) → u ≤ v → AllAbove v xs → AllAbove u xs
AllAbove-weaker u v [] le all = tt
AllAbove-weaker u v (x ∷ xs) le all = (omega (arith, all.0), AllAbove-weaker u v xs le all.1)

-- where all members are above v: none is less, all are greater, and v is none of them
pub filter_above : (v : ℕ) (xs : List ℕ) → AllAbove v xs → (filter (λ x. nat_lt x v) xs ≡ []) × (filter (λ x. nat_lt v x) xs ≡ xs) × (filter (λ x. not (x == v)) xs ≡ xs) × (has v xs ≡ false)
filter_above v [] all = (refl, refl, refl, refl)
filter_above v (x ∷ xs) all =
    let h = filter_above v xs all.1 in
    let a : nat_lt x v ≡ false = le-ltb x v (omega (arith, all.0)) in
    let b : nat_lt v x ≡ true = lt-ltb v x all.0 in
    let c : (x == v) ≡ false = ne_eqb x v (λ e. omega (arith, all.0)) in
    (rw a h.0, rw b (ap (λ (l : List ℕ). x ∷ l) h.1), rw c (ap (λ (l : List ℕ). x ∷ l) h.2), rw c h.3)

AllAbove-filter : (v : ℕ) (p : ℕ → Bool) (xs : List ℕ) → AllAbove v xs → AllAbove v (filter p xs)
AllAbove-filter v p [] all = tt
AllAbove-filter v p (x ∷ xs) all =
    elim (p x) as (λ b. AllAbove v (cond b (x ∷ filter p xs) (filter p xs))) [ true ↦ (all.0, AllAbove-filter v p xs all.1) | false ↦ AllAbove-filter v p xs all.1 ]

pub IsAscending-filter : (p : ℕ → Bool) (xs : List ℕ) → IsAscending xs → IsAscending (filter p xs)
IsAscending-filter p [] up = tt
IsAscending-filter p (x ∷ xs) up =
    elim (p x) as (λ b. IsAscending (cond b (x ∷ filter p xs) (filter p xs))) [
      | true ↦ (AllAbove-filter x p xs up.0, IsAscending-filter p xs up.1)
      | false ↦ IsAscending-filter p xs up.1
    ]

pub IsAscending-without : (v : ℕ) (xs : List ℕ) → IsAscending xs → IsAscending (without v xs)
IsAscending-without v xs up = IsAscending-filter (λ x. not (x == v)) xs up

AllAbove-append : (u : ℕ) (ks bs : List ℕ) → AllAbove u ks → AllAbove u bs → AllAbove u (ks ++ bs)
AllAbove-append u [] bs pa pb = pb
AllAbove-append u (a ∷ ks) bs pa pb = (pa.0, AllAbove-append u ks bs pa.1 pb)

-- lesser members, v, greater ones
join_ascending : (v : ℕ) (ks bs : List ℕ) → IsAscending ks → AllBelow v ks → IsAscending bs → AllAbove v bs → IsAscending (ks ++ v ∷ bs)
join_ascending v [] bs ua la ub gb = (gb, ub)
join_ascending v (a ∷ ks) bs ua la ub gb =
    (AllAbove-append a ks (v ∷ bs) ua.0 (la.0, AllAbove-weaker a v bs (omega (arith, la.0)) gb), join_ascending v ks bs ua.1 la.1 ub gb)

filtered_below : (v : ℕ) (xs : List ℕ) → AllBelow v (filter (λ x. nat_lt x v) xs)
filtered_below v [] = tt
filtered_below v (x ∷ xs) = go (nat_lt x v) refl (filtered_below v xs) where
  go : (b : Bool) → nat_lt x v ≡ b → AllBelow v (filter (λ x. nat_lt x v) xs) → AllBelow v (cond b (x ∷ filter (λ x. nat_lt x v) xs) (filter (λ x. nat_lt x v) xs))
  go true e rest = (ltb-true x v e, rest)
  go false e rest = rest

filtered_above : (v : ℕ) (xs : List ℕ) → AllAbove v (filter (λ x. nat_lt v x) xs)
filtered_above v [] = tt
filtered_above v (x ∷ xs) = go (nat_lt v x) refl (filtered_above v xs) where
  go : (b : Bool) → nat_lt v x ≡ b → AllAbove v (filter (λ x. nat_lt v x) xs) → AllAbove v (cond b (x ∷ filter (λ x. nat_lt v x) xs) (filter (λ x. nat_lt v x) xs))
  go true e rest = (ltb-true v x e, rest)
  go false e rest = rest

pub IsAscending-with : (v : ℕ) (xs : List ℕ) → IsAscending xs → IsAscending (with_number v xs)
IsAscending-with v xs up =
    join_ascending v (filter (λ x. nat_lt x v) xs) (filter (λ x. nat_lt v x) xs)
    (IsAscending-filter (λ x. nat_lt x v) xs up) (filtered_below v xs) (IsAscending-filter (λ x. nat_lt v x) xs up) (filtered_above v xs)

AllBelow-filter : (n : ℕ) (p : ℕ → Bool) (ys : List ℕ) → AllBelow n ys → AllBelow n (filter p ys)
AllBelow-filter n p [] all = tt
AllBelow-filter n p (y ∷ ys) all =
    elim (p y) as (λ b. AllBelow n (cond b (y ∷ filter p ys) (filter p ys))) [ true ↦ (all.0, AllBelow-filter n p ys all.1) | false ↦ AllBelow-filter n p ys all.1 ]

AllBelow-append : (n : ℕ) (ks bs : List ℕ) → AllBelow n ks → AllBelow n bs → AllBelow n (ks ++ bs)
AllBelow-append n [] bs pa pb = pb
AllBelow-append n (a ∷ ks) bs pa pb = (pa.0, AllBelow-append n ks bs pa.1 pb)

pub AllBelow-without : (n v : ℕ) (xs : List ℕ) → AllBelow n xs → AllBelow n (without v xs)
AllBelow-without n v xs all = AllBelow-filter n (λ x. not (x == v)) xs all

pub AllBelow-with : (n v : ℕ) (xs : List ℕ) → v < n → AllBelow n xs → AllBelow n (with_number v xs)
AllBelow-with n v xs lt all =
    AllBelow-append n (filter (λ x. nat_lt x v) xs) (v ∷ filter (λ x. nat_lt v x) xs) (AllBelow-filter n (λ x. nat_lt x v) xs all) (lt, AllBelow-filter n (λ x. nat_lt v x) xs all)

-- the set with v has v, and otherwise the same members
has-append : (u : ℕ) (xs ys : List ℕ) → has u (xs ++ ys) ≡ (has u xs || has u ys)
has-append u [] ys = refl
has-append u (x ∷ xs) ys = elim (x == u) as (λ b. (b || has u (xs ++ ys)) ≡ ((b || has u xs) || has u ys)) [ true ↦ refl | false ↦ has-append u xs ys ]

pub has-with_itself : (v : ℕ) (xs : List ℕ) → has v (with_number v xs) ≡ true
has-with_itself v xs =
    has-append v (filter (λ x. nat_lt x v) xs) (v ∷ filter (λ x. nat_lt v x) xs)
    ∙ ap (λ b. has v (filter (λ x. nat_lt x v) xs) || (b || has v (filter (λ x. nat_lt v x) xs))) (eq-eqb v v refl)
    ∙ or-true (has v (filter (λ x. nat_lt x v) xs)) where
      or-true : (b : Bool) → (b || true) ≡ true
      or-true true = refl
      or-true false = refl

-- what a filter keeps of a member that passes
has-filter : (u : ℕ) (p : ℕ → Bool) (xs : List ℕ) → has u (filter p xs) ≡ (p u && has u xs)
has-filter u p [] = elim (p u) as (λ b. false ≡ (b && false)) [ true ↦ refl | false ↦ refl ]
has-filter u p (x ∷ xs) = go (p x) refl (x == u) refl (has-filter u p xs) where
  go : (a : Bool) → p x ≡ a → (b : Bool) → (x == u) ≡ b → has u (filter p xs) ≡ (p u && has u xs) → has u (cond a (x ∷ filter p xs) (filter p xs)) ≡ (p u && (b || has u xs))
  go true pa true e h = let same : x ≡ u = eqb-true x u e in let pu : p u ≡ true = ap p (sym same) ∙ pa in rw pu (rw e refl)
  go true pa false e h = rw e h
  go false pa true e h = let same : x ≡ u = eqb-true x u e in let pu : p u ≡ false = ap p (sym same) ∙ pa in rw pu (h ∙ ap (λ b. b && has u xs) pu)
  go false pa false e h = h

pub has-with_other : (u v : ℕ) (xs : List ℕ) → u ≢ v → has u (with_number v xs) ≡ has u xs
has-with_other u v xs ne =
    has-append u (filter (λ x. nat_lt x v) xs) (v ∷ filter (λ x. nat_lt v x) xs)
    ∙ ap₂ (λ a b. a || ((v == u) || b)) (has-filter u (λ x. nat_lt x v) xs) (has-filter u (λ x. nat_lt v x) xs)
    ∙ rw (ne_eqb v u (λ e. ne (sym e))) (elim (cases_lt u v) [
      | inl lt ↦ rw (lt-ltb u v lt, le-ltb v u (omega arith)) (or-false (has u xs))
      | inr le ↦ rw (le-ltb u v le, lt-ltb v u (omega arith)) refl
    ]) where
      or-false : (b : Bool) → (b || false) ≡ b
      or-false true = refl
      or-false false = refl

pub has-without_itself : (v : ℕ) (xs : List ℕ) → has v (without v xs) ≡ false
has-without_itself v xs = has-filter v (λ x. not (x == v)) xs ∙ rw (eq-eqb v v refl) refl

pub has-without_other : (u v : ℕ) (xs : List ℕ) → u ≢ v → has u (without v xs) ≡ has u xs
has-without_other u v xs ne = has-filter u (λ x. not (x == v)) xs ∙ rw (ne_eqb u v ne) refl
