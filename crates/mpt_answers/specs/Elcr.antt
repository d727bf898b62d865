-- The ELCR as a word of the command line: four hexadecimal digits of either case, this project's own.
--     digit_of b          the value of a digit
--     elcr_of word        the number that the word spells, none where it isn't four digits
--     IsElcrWord word n   the word, in upper case, is the four digits of the number
use Rattle.std.specs.Prelude.{◌≡◌, ℕ, ◌+◌, ◌*◌, ◌-◌, ◌^◌, ◌<◌, ◌&&◌, nat_le, if◌then◌else◌, List, [], ◌∷◌, map, Option, Some, None}
use Rattle.mpt_listing.specs.Listing.{hex}

-- the value of a digit: `0` to `9`, `A` to `F`, `a` to `f`
abbrev pub digit_of : ℕ → Option ℕ
digit_of b =
    if nat_le 48 b && nat_le b 57 then Some (b - 48)
    else (if nat_le 65 b && nat_le b 70 then Some (b - 55)
    else (if nat_le 97 b && nat_le b 102 then Some (b - 87) else None))

-- the number of four digits, the highest first
abbrev pub joined : Option ℕ → Option ℕ → Option ℕ → Option ℕ → Option ℕ
joined (Some a) (Some b) (Some c) (Some d) = Some (4096 * a + 256 * b + 16 * c + d)
joined _ _ _ _ = None

-- the number that a word spells
abbrev pub elcr_of : List ℕ → Option ℕ
elcr_of (a ∷ b ∷ c ∷ d ∷ []) = joined (digit_of a) (digit_of b) (digit_of c) (digit_of d)
elcr_of _ = None

-- a digit in upper case
abbrev pub upper_of : ℕ → ℕ
upper_of b = if nat_le 97 b && nat_le b 102 then b - 32 else b

-- the word, in upper case, is the four digits of the number
abbrev pub IsElcrWord : List ℕ → ℕ → Type 0
IsElcrWord word n = (n < 2 ^ 16) × (map upper_of word ≡ hex 4 n)
