-- What steps of the readers of parts and of numbers give. Only private functions cite it.
use Rattle.std.specs.Prelude.{ℕ, min, nat_le, List, [], Option, Some, None, if◌then◌else◌, Result, Ok, Err}
use Rattle.mpb_words.specs.Words.{parts_of}
use Rattle.mpb_words.specs.declared.refusal.WordWhy.{WordWhy}
use Rattle.mpb_words.specs.declared.refusal.WordWhy.TheVariants as why

-- a number held at the end of u64
abbrev pub held : ℕ → ℕ
held n = min n 18446744073709551615

-- one number and its limit
abbrev pub number_up_to : ℕ → Option ℕ → Result ℕ WordWhy
number_up_to most None = Err why.Number
number_up_to most (Some n) = if nat_le n most then Ok n else Err why.Range

-- the parts behind the first one: none, where no space follows it
abbrev pub parts_behind : Option (List ℕ) → List (List ℕ)
parts_behind None = []
parts_behind (Some rest) = parts_of rest

-- two numbers: a part that is no number comes before one that is out of its range
abbrev pub both : Result ℕ WordWhy → Result ℕ WordWhy → Result (ℕ × ℕ) WordWhy
both (Ok a) (Ok b) = Ok (a, b)
both (Ok a) (Err w) = Err w
both (Err why.Number) b = Err why.Number
both (Err w) (Err why.Number) = Err why.Number
both (Err w) b = Err w
