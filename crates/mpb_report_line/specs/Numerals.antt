-- Numbers in decimal, of any length.
--     numeral n     the digits of n, without leading zeros
use Rattle.std.specs.Prelude.{ℕ, zero, suc, ◌+◌, ◌/◌, ◌%◌, nat_lt, if◌then◌else◌, List, [], ◌∷◌, ◌++◌}

-- the digits of a number that has at most k
unfoldable pub numeral_with : ℕ → ℕ → List ℕ
numeral_with zero n = []
numeral_with (suc k) n = if nat_lt n 10 then (48 + n) ∷ [] else numeral_with k (n / 10) ++ (48 + n % 10) ∷ []

-- the digits of a number, without leading zeros: no number has more digits than one more than itself
unfoldable pub numeral : ℕ → List ℕ
numeral n = numeral_with (suc n) n
