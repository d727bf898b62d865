-- Words about lists and tests.
--     one_if b              1 where the test holds
--     rest_of xs            a list without its first member
--     first_of_list xs      its first member alone
use Rattle.std.specs.Prelude.{ℕ, Bool, List, [], ◌∷◌, if◌then◌else◌}

-- 1 where the test holds
abbrev pub one_if : Bool → ℕ
one_if b = if b then 1 else 0

-- a list without its first member
abbrev pub rest_of : {A : Type 0} → List A → List A
rest_of [] = []
rest_of (x ∷ xs) = xs

-- its first member alone
abbrev pub first_of_list : {A : Type 0} → List A → List A
first_of_list [] = []
first_of_list (x ∷ xs) = x ∷ []
