-- The numbers of a word (this project's own format).
--     number_of part            the number that a part writes, or none
--     numbers_of limits parts   the numbers of a word whose places have these greatest values, or why they aren't
use Rattle.std.specs.Prelude.{ℕ, Bool, true, ◌&&◌, ◌==◌, List, [], ◌∷◌, length, drop, slice_index, Option, Some, None, is_some, nat_lt, nat_le, if◌then◌else◌, map, Result, Ok, Err}
use Rattle.std.specs.List.{list_all}
use Rattle.std.specs.Char.{is_digit}
use Rattle.std.specs.Str.Parse.{digits_value}
use Rattle.mpb_words.specs.declared.refusal.WordWhy.{WordWhy}
use Rattle.mpb_words.specs.declared.refusal.WordWhy.TheVariants as why

-- the number that digits write; none, where there is no digit or another byte
abbrev pub digits_number : ℕ → List ℕ → Option ℕ
digits_number radix [] = None
digits_number radix (b ∷ bs) = if list_all (λ c. is_digit c radix) (b ∷ bs) then Some (digits_value radix (b ∷ bs)) else None

-- a part begins with `0x`
abbrev pub is_hexadecimal : List ℕ → Bool
is_hexadecimal part = (slice_index part 0 == 48) && (slice_index part 1 == 120)

-- it begins with a zero that isn't all of it
abbrev pub has_leading_zero : List ℕ → Bool
has_leading_zero part = (slice_index part 0 == 48) && nat_lt 1 (length part)

-- a number: `0x` and one to eight hexadecimal digits of either case, or decimal without leading zeros
abbrev pub number_of : List ℕ → Option ℕ
number_of part =
    if is_hexadecimal part then (if nat_le (length part) 10 then digits_number 16 (drop 2 part) else None)
    else if has_leading_zero part then None
    else digits_number 10 part

-- the number, and 0 where there is none
abbrev pub value_of : Option ℕ → ℕ
value_of None = 0
value_of (Some n) = n

-- each number is at most the limit of its place
abbrev pub are_within : List (Option ℕ) → List ℕ → Bool
are_within [] limits = true
are_within (n ∷ ns) [] = true
are_within (n ∷ ns) (limit ∷ limits) = nat_le (value_of n) limit && are_within ns limits

-- the first two, 0 where there are fewer
abbrev pub first_two : List (Option ℕ) → ℕ × ℕ
first_two [] = (0, 0)
first_two (a ∷ []) = (value_of a, 0)
first_two (a ∷ b ∷ ns) = (value_of a, value_of b)

-- Count, Number and Range, in this order, each judged on all parts before the next
abbrev pub judged : List ℕ → List (Option ℕ) → Result (ℕ × ℕ) WordWhy
judged limits ns =
    if length ns == length limits then
    (if list_all is_some ns then (if are_within ns limits then Ok (first_two ns) else Err why.Range) else Err why.Number)
    else Err why.Count

-- the numbers of the parts after a name, or why they aren't
abbrev pub numbers_of : List ℕ → List (List ℕ) → Result (ℕ × ℕ) WordWhy
numbers_of limits parts = judged limits (map number_of parts)
