-- The digits of a byte and of a mask of pins, one by one.
use Rattle.std.proofs.Common.{◌≡◌, ℕ, ◌/◌, ◌%◌, List, [], ◌∷◌, ◌++◌, codes, if◌then◌else◌, Result, Ok, Err, is_ok, OnOk, refl, ◌∙◌, arith}
use Rattle.std.specs.List.{concat}
use Rattle.mpt_listing.specs.Listing.{hex, hex_digit}

pub two_digits : (n : ℕ) → hex 2 n ≡ hex_digit (n / 16 % 16) ∷ hex_digit (n % 16) ∷ []
unfolding hex
two_digits n = refl

pub six_digits : (n : ℕ) → hex 6 n ≡ hex_digit (n / 1048576 % 16) ∷ hex_digit (n / 65536 % 16) ∷ hex_digit (n / 4096 % 16) ∷ hex_digit (n / 256 % 16) ∷ hex_digit (n / 16 % 16) ∷ hex_digit (n % 16) ∷ []
unfolding hex
six_digits n =
    let two : n / 16 / 16 ≡ n / 256 = omega arith in
    let three : n / 16 / 16 / 16 ≡ n / 4096 = omega arith in
    let four : n / 16 / 16 / 16 / 16 ≡ n / 65536 = omega arith in
    let five : n / 16 / 16 / 16 / 16 / 16 ≡ n / 1048576 = omega arith in
    rw (← five, ← four, ← three, ← two) refl

-- a processor between spaces, a target behind one, and two bytes behind a name, each in one piece
pub cpu_piece : (id a b : ℕ) → a ≡ hex_digit (id / 16 % 16) → b ≡ hex_digit (id % 16) → 32 ∷ 99 ∷ 112 ∷ 117 ∷ 32 ∷ a ∷ b ∷ 32 ∷ [] ≡ codes " cpu " ++ (hex 2 id ++ codes " ")
cpu_piece id a b high low = rw (two_digits id, high, low) refl

pub target_piece : (id a b : ℕ) → a ≡ hex_digit (id / 16 % 16) → b ≡ hex_digit (id % 16) → 32 ∷ a ∷ b ∷ 61 ∷ [] ≡ codes " " ++ (hex 2 id ++ codes "=")
target_piece id a b high low = rw (two_digits id, high, low) refl

pub pair_piece : (name : List ℕ) (one other a b c d : ℕ) → a ≡ hex_digit (one / 16 % 16) → b ≡ hex_digit (one % 16) → c ≡ hex_digit (other / 16 % 16) → d ≡ hex_digit (other % 16)
    → name ++ (a ∷ b ∷ 32 ∷ c ∷ d ∷ []) ≡ concat (name ∷ hex 2 one ∷ codes " " ∷ hex 2 other ∷ [])
pair_piece name one other a b c d p q r s = rw (two_digits one, two_digits other, p, q, r, s) refl

-- what was extended, in other words
pub extended : {T E : Type 0} (r : Result T E) (new old more wanted : List ℕ) → new ≡ (if is_ok r then old ++ more else old) → old ++ more ≡ wanted → OnOk r (new ≡ wanted)
extended (Ok _) new old more wanted is same = is ∙ same
extended (Err _) new old more wanted is same = tt
