-- Bytes that are put in the place of others, and the byte that makes a sum zero (MultiProcessor Specification 1.4, chapter 4).
use Rattle.std.specs.Prelude.{ℕ, ◌+◌, ◌-◌, ◌%◌, List, ◌++◌, length, take, drop, sum}

-- the bytes with a piece in the place of those from a place on
abbrev pub overlay : List ℕ → ℕ → List ℕ → List ℕ
overlay bytes at piece = take at bytes ++ piece ++ drop (at + length piece) bytes

-- the byte that makes the sum of all bytes zero, if it takes the place of a zero
abbrev pub checksum_of : List ℕ → ℕ
checksum_of bytes = (256 - sum bytes % 256) % 256
