-- Numbers and parts of lists that are joined, and numbers that are written low byte first.
use Rattle.std.proofs.Common.{◌≡◌, replicate, ℕ, zero, suc, ◌+◌, ◌-◌, ◌*◌, ◌%◌, ◌^◌, ◌<◌, ◌≤◌, List, ◌∷◌, ◌++◌, length, take, drop, sum, refl, ap, ◌∙◌, arith}
use Rattle.std.specs.Prelude.{slice_index}
use Rattle.std.specs.Int.{to_le_bytes, w16, w32, w64}
use Rattle.std.proofs.Math.Seq.{drop-append-add, take-append_seam, take-length}
use Rattle.std.proofs.lemmas.List.{get_or-append-add, drop-append-le, take-append-le, length-drop}
use Rattle.std.proofs.lemmas.List.Sums.{sum_by-cons, sum_by-append}
use Rattle.std.proofs.lemmas.Nat.{from_le_bytes-to_le_bytes_2, from_le_bytes-to_le_bytes_4, from_le_bytes-to_le_bytes_8}
use Rattle.std.proofs.Math.ListN.{length-replicate}
use Rattle.mpt_base.specs.Bytes.{part, number_at, IsByteList}

-- what stands behind some bytes, read from the place behind them
pub slice_index-append : (before bytes : List ℕ) (i : ℕ) → slice_index (before ++ bytes) (length before + i) ≡ slice_index bytes i
slice_index-append before bytes i = get_or-append-add before bytes i 0

pub number_at-append : (n : ℕ) (before bytes : List ℕ) (i : ℕ) → number_at n (before ++ bytes) (length before + i) ≡ number_at n bytes i
number_at-append zero before bytes i = refl
number_at-append (suc n) before bytes i =
    let first : slice_index (before ++ bytes) (length before + i) ≡ slice_index bytes i = slice_index-append before bytes i in
    let rest : number_at n (before ++ bytes) (length before + suc i) ≡ number_at n bytes (suc i) = number_at-append n before bytes (suc i) in
    let next : suc (length before + i) ≡ length before + suc i = omega arith in
    rw (next, first, rest) refl

pub part-append : (before bytes : List ℕ) (i n : ℕ) → part (before ++ bytes) (length before + i) n ≡ part bytes i n
part-append before bytes i n = ap (λ xs. take n xs) (drop-append-add before bytes i)

-- the first n bytes, where there are n before the rest
pub take-append_whole : (n : ℕ) (bytes rest : List ℕ) → length bytes ≡ n → take n (bytes ++ rest) ≡ bytes
take-append_whole n bytes rest e = rw (← e) (take-append_seam bytes rest)

pub take_whole : (n : ℕ) (bytes : List ℕ) → length bytes ≡ n → take n bytes ≡ bytes
take_whole n bytes e = rw (← e) (take-length bytes)

-- what is read behind some bytes of an image
pub number_at-behind : (n : ℕ) (image front bytes : List ℕ) (at i : ℕ) → image ≡ front ++ bytes → at ≡ length front + i → number_at n image at ≡ number_at n bytes i
number_at-behind n image front bytes at i e p = rw (e, p) (number_at-append n front bytes i)

pub slice_index-behind : (image front bytes : List ℕ) (at i : ℕ) → image ≡ front ++ bytes → at ≡ length front + i → slice_index image at ≡ slice_index bytes i
slice_index-behind image front bytes at i e p = rw (e, p) (slice_index-append front bytes i)

pub part-behind : (n : ℕ) (image front bytes : List ℕ) (at i : ℕ) → image ≡ front ++ bytes → at ≡ length front + i → part image at n ≡ part bytes i n
part-behind n image front bytes at i e p = rw (e, p) (part-append front bytes i n)

-- what is read before some bytes of an image
pub part-before : (n : ℕ) (front bytes : List ℕ) (i : ℕ) → i + n ≤ length front → part (front ++ bytes) i n ≡ part front i n
part-before n front bytes i h =
    let inside : i ≤ length front = omega arith in
    let room : n ≤ length (drop i front) = omega (arith, length-drop i front) in
    ap (λ xs. take n xs) (drop-append-le i front bytes inside) ∙ take-append-le n (drop i front) bytes room

-- sums of byte values, as they are written and as they are read
pub two_bytes : (a b : ℕ) → a + 256 * (b + 256 * 0) ≡ a + b * 256
two_bytes a b = omega arith

pub four_bytes : (a b c d : ℕ) → a + 256 * (b + 256 * (c + 256 * (d + 256 * 0))) ≡ a + b * 256 + c * 65536 + d * 16777216
four_bytes a b c d = omega arith

pub eight_bytes : (a b c d e f g h : ℕ) → a + 256 * (b + 256 * (c + 256 * (d + 256 * (e + 256 * (f + 256 * (g + 256 * (h + 256 * 0))))))) ≡ a + b * 256 + c * 65536 + d * 16777216 + e * 4294967296 + f * 1099511627776 + g * 281474976710656 + h * 72057594037927936
eight_bytes a b c d e f g h = omega arith

-- the number that is written low byte first is read
pub number_at-to_le_bytes_2 : (n : ℕ) → n < 2 ^ 16 → number_at 2 (to_le_bytes w16 n) 0 ≡ n
number_at-to_le_bytes_2 n h = two_bytes _ _ ∙ from_le_bytes-to_le_bytes_2 n h

pub number_at-to_le_bytes_4 : (n : ℕ) → n < 2 ^ 32 → number_at 4 (to_le_bytes w32 n) 0 ≡ n
number_at-to_le_bytes_4 n h = four_bytes _ _ _ _ ∙ from_le_bytes-to_le_bytes_4 n h

pub number_at-to_le_bytes_8 : (n : ℕ) → n < 2 ^ 64 → number_at 8 (to_le_bytes w64 n) 0 ≡ n
number_at-to_le_bytes_8 n h = eight_bytes _ _ _ _ _ _ _ _ ∙ from_le_bytes-to_le_bytes_8 n h

-- a byte in the place of a zero adds its value to the sum
pub sum-cell : (front back : List ℕ) (c : ℕ) → sum (front ++ (c ∷ back)) ≡ sum (front ++ (0 ∷ back)) + c
sum-cell front back c =
    let id : ℕ → ℕ = λ x. x in
    omega (arith, sum_by-append id front (c ∷ back), sum_by-append id front (0 ∷ back), sum_by-cons id c back, sum_by-cons id 0 back)

-- a checksum in the place of a zero makes the sum a multiple of 256
pub sealed : (s t c : ℕ) → t ≡ s + c → c ≡ (256 - s % 256) % 256 → t % 256 ≡ 0
sealed s t c more seal = omega arith

-- so many zeros are so many bytes
pub zeros : (n : ℕ) → (length {A = ℕ} (replicate n 0) ≡ n) × IsByteList (replicate n 0)
zeros n = (length-replicate n 0, λ i. zero_at n i)
  where
    zero_at : (n i : ℕ) → slice_index (replicate n 0) i < 256
    zero_at zero i = omega arith
    zero_at (suc n) zero = omega arith
    zero_at (suc n) (suc i) = zero_at n i
