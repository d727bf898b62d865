-- The lines of the walk itself: what the program prints in place of a text. They are this project's own.
use Rattle.std.specs.Prelude.{ℕ, List, [], ◌∷◌, codes, decimal}
use Rattle.mpt_listing.specs.Listing.{line}

-- the words are no listed form (status 2)
abbrev pub usage_line : List ℕ
usage_line = line (codes "mptab: usage" ∷ [])

-- a file isn't there (status 3)
abbrev pub no_file_line : List ℕ → List ℕ
no_file_line name = line (codes "mptab: no file " ∷ name ∷ [])

-- the shelf failed (status 4)
abbrev pub cannot_read_line : List ℕ → List ℕ
cannot_read_line name = line (codes "mptab: cannot read " ∷ name ∷ [])

-- memory ran out (status 9)
abbrev pub no_memory_line : List ℕ
no_memory_line = line (codes "mptab: no memory" ∷ [])

-- a file passes its limit (status 10): its name and its length in bytes
abbrev pub too_large_line : List ℕ → ℕ → List ℕ
too_large_line name size = line (codes "mptab: too large " ∷ name ∷ codes " " ∷ decimal size ∷ [])
