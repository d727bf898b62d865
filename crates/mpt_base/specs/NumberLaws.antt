-- Laws of the numbers in bytes. A variable here ranges over every number, so that a byte is one below 256 by a premise.
use Rattle.std.specs.Prelude.{◌≡◌, ℕ, ◌+◌, ◌^◌, ◌<◌, ◌≤◌, List, length}
use Rattle.mpt_base.specs.Bytes.{le_number, number_at, part, IsByteList}

-- a number has one spelling in bytes of each length
abbrev pub HasOneSpelling : Type 0
HasOneSpelling = (a b : List ℕ) → IsByteList a → IsByteList b → length a ≡ length b → le_number a ≡ le_number b → a ≡ b

-- the number at a place is that of the bytes there
abbrev pub IsNumberOfItsPart : Type 0
IsNumberOfItsPart = (n : ℕ) (bytes : List ℕ) (at : ℕ) → at + n ≤ length bytes → number_at n bytes at ≡ le_number (part bytes at n)

-- the number in n bytes is below 256 to the n
abbrev pub IsBelowPower : Type 0
IsBelowPower = (n : ℕ) (bytes : List ℕ) (at : ℕ) → IsByteList bytes → number_at n bytes at < 256 ^ n
