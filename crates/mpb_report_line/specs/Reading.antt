-- The reading of further parts of a line from the left: decimal numbers, words, and runs of items. Only private functions cite it.
use Rattle.std.specs.Prelude.{◌==◌, ℕ, zero, suc, ◌+◌, ◌-◌, ◌*◌, ◌&&◌, min, nat_le, nat_lt, Bool, true, false, if◌then◌else◌, List, [], ◌∷◌, Option, Some, None}
use Rattle.mpt_line.specs.Reading.{◌>>=◌, text_in}

-- a part, and then a text
abbrev pub before : {A : Type 0} → (List ℕ → Option (A × List ℕ)) → List ℕ → List ℕ → Option (A × List ℕ)
before part stop line = part line >>= λ x. text_in stop x.1 >>= λ rest. Some (x.0, rest)

-- a text that stands for a value
abbrev pub named : {A : Type 0} → List ℕ → A → List ℕ → Option (A × List ℕ)
named text a line = text_in text line >>= λ rest. Some (a, rest)

-- a decimal digit
abbrev pub is_decimal_digit : ℕ → Bool
is_decimal_digit c = nat_le 48 c && nat_lt c 58

unfoldable pub decimal_digit_in : List ℕ → Option (ℕ × List ℕ)
decimal_digit_in [] = None
decimal_digit_in (c ∷ cs) = if is_decimal_digit c then Some (c - 48, cs) else None

-- the number that n becomes by all digits that follow
unfoldable pub more_digits : ℕ → List ℕ → ℕ × List ℕ
more_digits n [] = (n, [])
more_digits n (c ∷ cs) = if is_decimal_digit c then more_digits (n * 10 + (c - 48)) cs else (n, c ∷ cs)

-- a number of as many digits as there are, without leading zeros
unfoldable pub numeral_in : List ℕ → Option (ℕ × List ℕ)
numeral_in [] = None
numeral_in (c ∷ cs) = if c == 48 then Some (0, cs) else (if is_decimal_digit c then Some (more_digits (c - 48) cs) else None)

-- a number held at the end of u64
abbrev pub held : ℕ × List ℕ → ℕ × List ℕ
held x = (min x.0 18446744073709551615, x.1)

abbrev pub held_in : List ℕ → Option (ℕ × List ℕ)
held_in line = numeral_in line >>= λ x. Some (held x)

-- a number up to a greatest one, and then a text
unfoldable pub up_to_in : ℕ → List ℕ → List ℕ → Option (ℕ × List ℕ)
up_to_in most stop line = numeral_in line >>= λ x. text_in stop x.1 >>= λ rest. if nat_le x.0 most then Some (x.0, rest) else None

-- what follows a number and a text
unfoldable pub number_in : ℕ → List ℕ → List ℕ → Option (List ℕ)
number_in k stop line = up_to_in k stop line >>= λ x. if x.0 == k then Some x.1 else None

-- one of four places, by one digit
unfoldable pub place_in : List ℕ → Option (ℕ × List ℕ)
place_in [] = None
place_in (c ∷ cs) = if nat_le 48 c && nat_lt c 52 then Some (c - 48, cs) else None

-- as many items as there are, at most n, and what follows them
abbrev pub grown_by : {A : Type 0} → Option (A × List ℕ) → List ℕ → (List ℕ → List A × List ℕ) → List A × List ℕ
grown_by None line run = ([], line)
grown_by (Some x) line run = (x.0 ∷ (run x.1).0, (run x.1).1)

unfoldable pub run_of : {A : Type 0} → (List ℕ → Option (A × List ℕ)) → ℕ → List ℕ → List A × List ℕ
run_of item zero line = ([], line)
run_of item (suc n) line = grown_by (item line) line (run_of item n)

-- at most n items, and then a text
abbrev pub items_in : {A : Type 0} → (List ℕ → Option (A × List ℕ)) → ℕ → List ℕ → List ℕ → Option (List A × List ℕ)
items_in item n stop line = text_in stop (run_of item n line).1 >>= λ rest. Some ((run_of item n line).0, rest)

-- what is no empty list
abbrev pub is_filled : {A : Type 0} → List A → Bool
is_filled [] = false
is_filled (x ∷ xs) = true

-- each number is greater than the one before
abbrev pub ascends_behind : ℕ → List ℕ → Bool
ascends_behind a [] = true
ascends_behind a (x ∷ xs) = nat_lt a x && ascends_behind x xs

abbrev pub ascends : List ℕ → Bool
ascends [] = true
ascends (x ∷ xs) = ascends_behind x xs
