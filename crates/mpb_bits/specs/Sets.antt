-- Sets of numbers in words of 64 bits, and sets as strictly ascending lists (this project's own).
--     is_set words n     n's bit is 1
--     members words      the numbers whose bits are 1
--     united xs ys       the members of either set
--     IsSetBelow n xs    a strictly ascending list of numbers below n
use Rattle.std.specs.Prelude.{◌==◌, ℕ, ◌*◌, ◌/◌, ◌%◌, ◌<◌, Bool, List, [], ◌∷◌, length, slice_index, filter}
use Rattle.std.specs.Int.{bit_at}
use Rattle.std.specs.List.{range_with_len, AllByRecursion}
use Rattle.mpb_spec.specs.Numbers.{with_number, IsAscending}

-- number n is bit n % 64 of word n / 64
unfoldable pub is_set : List ℕ → ℕ → Bool
is_set words n = bit_at (slice_index words (n / 64)) (n % 64) == 1

-- the numbers below 64 times the number of words whose bits are 1, ascending
unfoldable pub members : List ℕ → List ℕ
members words = filter (is_set words) (range_with_len 0 (64 * length words))

-- the first set with each number of the second
abbrev pub united : List ℕ → List ℕ → List ℕ
united xs [] = xs
united xs (y ∷ ys) = with_number y (united xs ys)

-- a set of numbers below n, as the one strictly ascending list of its members
pub record IsSetBelow (n : ℕ) (xs : List ℕ) : Type 0 where
  pub ascending : IsAscending xs
  pub below : AllByRecursion (λ x. x < n) xs
