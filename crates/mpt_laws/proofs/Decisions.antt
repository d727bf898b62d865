-- Sentences made of decided ones are decided.
use Rattle.std.proofs.Common.{◌≡◌, ℕ, ◌<◌, ◌≤◌, ◌⊎◌, List, [], ◌∷◌, inl, inr, arith}
use Rattle.std.specs.List.{Contains}
use Rattle.std.proofs.lemmas.Bool.{cases_lt}
use Rattle.std.proofs.lemmas.List.Elements.{Contains-push_cases, Contains-append_right, Contains-append_cases}
use Rattle.mpt_laws.proofs.EntryJudgment.{Decided}

pub never : Decided ⊥
never = inr (λ n. n)

pub both : {A B : Type 0} → Decided A → Decided B → Decided (A × B)
both (inl a) (inl b) = inl (a, b)
both (inl a) (inr n) = inr (λ p. n p.1)
both (inr n) d = inr (λ p. n p.0)

pub all_three : {A B C : Type 0} → Decided A → Decided B → Decided C → Decided (A × B × C)
all_three (inl a) (inl b) (inl c) = inl (a, b, c)
all_three (inr n) x y = inr (λ p. n p.0)
all_three (inl a) (inr n) y = inr (λ p. n p.1)
all_three (inl a) (inl b) (inr n) = inr (λ p. n p.2)

pub all_four : {A B C D : Type 0} → Decided A → Decided B → Decided C → Decided D → Decided (A × B × C × D)
all_four (inl a) (inl b) (inl c) (inl d) = inl (a, b, c, d)
all_four (inr n) x y z = inr (λ p. n p.0)
all_four (inl a) (inr n) y z = inr (λ p. n p.1)
all_four (inl a) (inl b) (inr n) z = inr (λ p. n p.2)
all_four (inl a) (inl b) (inl c) (inr n) = inr (λ p. n p.3)

neither : {A B : Type 0} → ¬ A → ¬ B → A ⊎ B → ⊥
neither n m (inl a) = n a
neither n m (inr b) = m b

pub either : {A B : Type 0} → Decided A → Decided B → Decided (A ⊎ B)
either (inl a) d = inl (inl a)
either (inr n) (inl b) = inl (inr b)
either (inr n) (inr m) = inr (neither n m)

pub not : {A : Type 0} → Decided A → Decided (¬ A)
not (inl a) = inr (λ n. n a)
not (inr n) = inl n

pub at_most : (a b : ℕ) → Decided (a ≤ b)
at_most a b = by_order (cases_lt b a)
  where
    by_order : (b < a) ⊎ (a ≤ b) → Decided (a ≤ b)
    by_order (inl past) = inr (λ le. omega (arith, le, past))
    by_order (inr le) = inl le

pub below : (a b : ℕ) → Decided (a < b)
below a b = by_order (cases_lt a b)
  where
    by_order : (a < b) ⊎ (b ≤ a) → Decided (a < b)
    by_order (inl lt) = inl lt
    by_order (inr past) = inr (λ lt. omega (arith, lt, past))

-- a list has a member or hasn't
pub contained : {X : Type 0} → ((x y : X) → Decided (x ≡ y)) → (xs : List X) (y : X) → Decided (Contains xs y)
contained d [] y = inr (λ c. omega (arith, c.1))
contained {X} d (x ∷ xs) y = by_head (d x y) (contained d xs y)
  where
    not_first : ¬ (x ≡ y) → Contains [] y ⊎ (x ≡ y) → ⊥
    not_first n (inl c) = omega (arith, c.1)
    not_first n (inr e) = n e

    by_place : ¬ (x ≡ y) → ¬ Contains xs y → Contains (x ∷ []) y ⊎ Contains xs y → ⊥
    by_place n m (inl c) = not_first n (Contains-push_cases [] x y c)
    by_place n m (inr c) = m c

    by_head : Decided (x ≡ y) → Decided (Contains xs y) → Decided (Contains (x ∷ xs) y)
    by_head (inl e) _ = inl (0, omega arith, e)
    by_head (inr n) (inl c) = inl (Contains-append_right (x ∷ []) xs y c)
    by_head (inr n) (inr m) = inr (λ c. by_place n m (Contains-append_cases (x ∷ []) xs y c))
