-- Bit registers of two controllers, as lists of lines (this project's own).
--     lines_of master slave   the lines whose bits are set in the master's byte and the slave's
--     lowest v                the place of the lowest bit that is set
use Rattle.std.specs.Prelude.{◌==◌, ℕ, ◌/◌, ◌%◌, ◌^◌, List, Option, None, Some, find, filter, if◌then◌else◌, bit_and}
use Rattle.std.specs.Int.{bit_not, w8}
use Rattle.std.specs.List.{range_with_len}
use Rattle.mpf_pair.specs.Pair.{is_bit, is_line}

-- the lines whose bits are set, ascending
unfoldable pub lines_of : ℕ → ℕ → List ℕ
lines_of master slave = filter (is_line master slave) (range_with_len 0 16)

-- the place of the lowest bit of a byte that is set
abbrev pub lowest : ℕ → Option ℕ
lowest v = find (λ n. is_bit n v) (range_with_len 0 8)

-- the place whose mark the second operation word removes
abbrev pub ended_place : ℕ → ℕ → Option ℕ
ended_place v marks = if v / 32 == 1 then lowest marks else (if v / 32 == 3 then Some (v % 8) else None)

-- a byte without that bit
abbrev pub without_place : Option ℕ → ℕ → ℕ
without_place None v = v
without_place (Some n) v = bit_and v (bit_not w8 (2 ^ n))
