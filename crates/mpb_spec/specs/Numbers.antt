-- Sets of numbers, each the one strictly ascending list of its members.
--     has v xs           v is a member
--     IsAscending xs     strictly ascending
--     AreBytes xs        each is below 256
--     with_number v xs   the set with v
--     without v xs       the set without v
--     greatest xs        the greatest member
use Rattle.std.specs.Prelude.{◌==◌, ℕ, ◌<◌, ◌-◌, length, slice_get, Bool, not, List, [], ◌∷◌, ◌++◌, Option, nat_lt, filter}
use Rattle.std.specs.List.{list_any, AllByRecursion}

-- v is a member
abbrev pub has : ℕ → List ℕ → Bool
has v xs = list_any (λ x. x == v) xs

-- strictly ascending
abbrev pub IsAscending : List ℕ → Type 0
IsAscending [] = Unit {0}
IsAscending (x ∷ xs) = AllByRecursion (λ y. x < y) xs × IsAscending xs

-- each is below 256
abbrev pub AreBytes : List ℕ → Type 0
AreBytes xs = AllByRecursion (λ x. x < 256) xs

-- the set with v: the lesser members, v, the greater ones
abbrev pub with_number : ℕ → List ℕ → List ℕ
with_number v xs = filter (λ x. nat_lt x v) xs ++ v ∷ filter (λ x. nat_lt v x) xs

-- the set without v
abbrev pub without : ℕ → List ℕ → List ℕ
without v xs = filter (λ x. not (x == v)) xs

-- the greatest member of an ascending list is its last
abbrev pub greatest : List ℕ → Option ℕ
greatest xs = slice_get xs (length xs - 1)
