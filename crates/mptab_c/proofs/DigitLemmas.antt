-- Hexadecimal digits are text.
use Rattle.std.proofs.Common.{ℕ, zero, suc, ◌<◌, ◌%◌, ◌/◌, ◌+◌, Bool, true, false, nat_lt, [], ◌∷◌, if◌then◌else◌, arith}
use Rattle.std.specs.Prelude.{All, IsUtf8}
use Rattle.std.proofs.lemmas.List.Elements.{All-nil, All-cons, All-append}
use Rattle.std.proofs.lemmas.Str.{IsUtf8-from_ascii}
use Rattle.std.proofs.lemmas.Str.Ascii.{IsAscii-from_all}
use Rattle.mpt_listing.specs.Listing.{hex, hex_digit}

if_below : (b : Bool) (x y : ℕ) → x < 128 → y < 128 → (if b then x else y) < 128
if_below true x y p q = p
if_below false x y p q = q

digit_low : (n : ℕ) → n < 16 → hex_digit n < 128
digit_low n lt = if_below (nat_lt n 10) (48 + n) (55 + n) (omega arith) (omega arith)

hex_low : (k n : ℕ) → All (λ (b : ℕ). b < 128) (hex k n)
unfolding hex
hex_low zero n = All-nil (λ (b : ℕ). b < 128)
hex_low (suc k) n = All-append (λ (b : ℕ). b < 128) (hex k (n / 16)) (hex_digit (n % 16) ∷ []) (hex_low k (n / 16)) (All-cons (λ (b : ℕ). b < 128) (hex_digit (n % 16)) [] (digit_low (n % 16) (omega arith)) (All-nil (λ (b : ℕ). b < 128)))

pub IsUtf8-hex : (k n : ℕ) → IsUtf8 (hex k n)
IsUtf8-hex k n = IsUtf8-from_ascii (hex k n) (IsAscii-from_all (hex k n) (hex_low k n))
