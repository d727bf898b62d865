-- A number's digits, one more at a time, and a line's parts end to end.
use Rattle.std.proofs.Common.{◌≡◌, ℕ, zero, suc, ◌-◌, ◌/◌, ◌%◌, ◌<◌, [], ◌∷◌, ◌++◌, ◌∙◌, ap, List, map, refl, sym, append_assoc, arith}
use Rattle.std.proofs.lemmas.List.{append-nil}
use Rattle.std.specs.List.{flat_map}
use Rattle.mpt_listing.specs.Listing.{line, hex, hex_digit}

pub append_hex_none : (text : List ℕ) (digits n : ℕ) → digits ≡ 0 → text ++ hex digits n ≡ text
unfolding hex
append_hex_none text digits n h = rw h (append-nil text)

pub hex_more : (digits n : ℕ) → 0 < digits → hex digits n ≡ hex (digits - 1) (n / 16) ++ hex_digit (n % 16) ∷ []
unfolding hex
hex_more zero n h = absurd (omega arith)
hex_more (suc k) n h = let e : suc k - 1 ≡ k = omega arith in rw e refl

-- A line is its parts, end to end, and a line feed.
pub line_of_parts : {T : Type 0} (text : T → List ℕ) (parts : List T) → line (map text parts) ≡ flat_map text parts ++ 10 ∷ []
line_of_parts text [] = refl
line_of_parts text (part ∷ parts) =
    ap (λ t. text part ++ t) (line_of_parts text parts) ∙ sym (append_assoc (text part) (flat_map text parts) (10 ∷ []))
