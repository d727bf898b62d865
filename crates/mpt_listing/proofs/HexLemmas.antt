-- The upper case text of bytes by the crate `hex` is two digits for each byte.
use Rattle.std.proofs.Common.{◌≡◌, ℕ, zero, suc, ◌/◌, ◌%◌, ◌<◌, Bool, true, List, [], ◌∷◌, slice_index, inl, inr, refl, ap, ◌∙◌, arith}
use Rattle.std.specs.Prelude.{◌==◌, ◌&&◌}
use Rattle.std.proofs.lemmas.Bool.{and_parts, cases_lt, eqb-true}
use Rattle.hex.specs.Hex.{encode_with, encode_upper, upper_digits}
use Rattle.mpt_base.specs.Bytes.{IsByteList}
use Rattle.mpt_listing.specs.Listing.{hex, hex_digit, hex_bytes}

-- the digits below n are those of a listing, which computes
abbrev are_digits : ℕ → Bool
are_digits zero = true
are_digits (suc n) = (slice_index upper_digits n == hex_digit n) && are_digits n

digit_below : (n d : ℕ) → are_digits n ≡ true → d < n → slice_index upper_digits d ≡ hex_digit d
digit_below zero d h l = absurd (omega arith)
digit_below (suc n) d h l =
    let parts = and_parts (slice_index upper_digits n == hex_digit n) (are_digits n) h in
    elim (cases_lt d n) [
      | inl below ↦ digit_below n d parts.1 below
      | inr top ↦
          let e : d ≡ n = omega arith in
          rw e (eqb-true (slice_index upper_digits n) (hex_digit n) parts.0)
    ]

pub upper_digit : (d : ℕ) → d < 16 → slice_index upper_digits d ≡ hex_digit d
upper_digit d l = digit_below 16 d refl l

pub encode_upper-hex_bytes : (bytes : List ℕ) → IsByteList bytes → encode_upper bytes ≡ hex_bytes bytes
unfolding encode_with hex_bytes hex
encode_upper-hex_bytes [] h = refl
encode_upper-hex_bytes (b ∷ bytes) h =
    let fits : b < 256 = h 0 in
    let within : b / 16 ≡ b / 16 % 16 = omega arith in
    let high : slice_index upper_digits (b / 16) ≡ hex_digit (b / 16 % 16) = upper_digit (b / 16) (omega arith) ∙ ap hex_digit within in
    let low : slice_index upper_digits (b % 16) ≡ hex_digit (b % 16) = upper_digit (b % 16) (omega arith) in
    let more = encode_upper-hex_bytes bytes (λ k. h (suc k)) in
    λ i. high i ∷ low i ∷ more i
