-- A line for each item of a list, with its number.
use Rattle.std.specs.Prelude.{ℕ, ◌+◌, List, [], ◌∷◌}

-- the lines of the items, numbered from n on
abbrev pub numbered : {X : Type 0} → (ℕ → X → List ℕ) → ℕ → List X → List (List ℕ)
numbered line_of n [] = []
numbered line_of n (x ∷ xs) = line_of n x ∷ numbered line_of (n + 1) xs
