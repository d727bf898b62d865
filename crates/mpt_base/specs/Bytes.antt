-- Numbers and checksums in bytes (MultiProcessor Specification 1.4, chapter 4). A byte is a number below 256.
use Rattle.std.specs.Prelude.{◌≡◌, ℕ, zero, suc, ◌+◌, ◌*◌, ◌%◌, ◌<◌, List, [], ◌∷◌, take, drop, sum, slice_index}

-- the little-endian number of a list of bytes
abbrev pub le_number : List ℕ → ℕ
le_number [] = 0
le_number (b ∷ bs) = b + 256 * le_number bs

-- the n bytes from a place on
abbrev pub part : List ℕ → ℕ → ℕ → List ℕ
part bytes at n = take n (drop at bytes)

-- the little-endian number in the n bytes from a place on
abbrev pub number_at : ℕ → List ℕ → ℕ → ℕ
number_at zero bytes at = 0
number_at (suc n) bytes at = slice_index bytes at + 256 * number_at n bytes (suc at)

-- the bytes have a right checksum: their sum is a multiple of 256
abbrev pub SumsToZero : List ℕ → Type 0
SumsToZero bytes = sum bytes % 256 ≡ 0

-- all members are bytes
abbrev pub IsByteList : List ℕ → Type 0
IsByteList bytes = (i : ℕ) → slice_index bytes i < 256
