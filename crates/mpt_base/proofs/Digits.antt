-- The laws of the numbers in bytes.
use Rattle.std.proofs.Common.{◌≡◌, ℕ, zero, suc, ◌+◌, ◌*◌, ◌^◌, ◌<◌, [], ◌∷◌, get_or, take, refl, sym, ap, ◌∙◌, arith}
use Rattle.std.proofs.Math.Nat.{pow-suc}
use Rattle.std.proofs.Math.Seq.{drop-cons}
use Rattle.mpt_base.specs.Bytes.{le_number, number_at}
use Rattle.mpt_base.specs.NumberLaws.{HasOneSpelling, IsNumberOfItsPart, IsBelowPower}

-- the low byte of two equal numbers, and what is above it
same_digit : (x y m n : ℕ) → x < 256 → y < 256 → x + 256 * m ≡ y + 256 * n → x ≡ y
same_digit x y m n below_x below_y e = omega arith

same_rest : (x y m n : ℕ) → x < 256 → y < 256 → x + 256 * m ≡ y + 256 * n → m ≡ n
same_rest x y m n below_x below_y e = omega arith

-- a number has one spelling in bytes of each length
pub one_spelling : HasOneSpelling
one_spelling [] [] h k l e = refl
one_spelling [] (y ∷ b) h k l e = absurd (omega arith)
one_spelling (x ∷ a) [] h k l e = absurd (omega arith)
one_spelling (x ∷ a) (y ∷ b) h k l e =
    let below_x : x < 256 = h 0 in
    let below_y : y < 256 = k 0 in
    let first : x ≡ y = same_digit x y (le_number a) (le_number b) below_x below_y e in
    let rest : a ≡ b = one_spelling a b (λ i. h (suc i)) (λ i. k (suc i)) (omega arith) (same_rest x y (le_number a) (le_number b) below_x below_y e) in
    λ i. first i ∷ rest i

-- the number at a place is that of the bytes there
pub number_at-part : IsNumberOfItsPart
number_at-part zero bytes at h = refl
number_at-part (suc n) bytes at h =
    ap (λ m. get_or bytes at 0 + 256 * m) (number_at-part n bytes (suc at) (omega arith))
    ∙ ap (λ rest. le_number (take (suc n) rest)) (sym (drop-cons bytes at 0 (omega arith)))

more_digits : (b m p : ℕ) → b < 256 → m < p → b + 256 * m < p * 256
more_digits b m p h k = omega arith

-- the number in n bytes is below 256 to the n
pub number_at-below : IsBelowPower
number_at-below zero bytes at h = omega arith
number_at-below (suc n) bytes at h =
    rw (pow-suc 256 n) (more_digits (get_or bytes at 0) (number_at n bytes (suc at)) (256 ^ n) (h at) (number_at-below n bytes (suc at) h))
