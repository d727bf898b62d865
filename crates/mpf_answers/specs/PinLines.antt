-- The text of where a PCI IRQ routing table and a platform differ, this project's own.
--     pin_line d                 the line of a difference
--     pin_differences_text ds    all lines, in order, and the last with their number
use Rattle.std.specs.Prelude.{ℕ, ◌==◌, if◌then◌else◌, List, [], ◌∷◌, ◌++◌, length, codes, decimal}
use Rattle.std.specs.List.{flat_map}
use Rattle.mpt_listing.specs.Listing.{line, hex}
use Rattle.mpf_pir.specs.declared.comparing.Odd.{Odd}
use Rattle.mpf_pir.specs.declared.comparing.Odd.TheVariants as odd
use Rattle.mpf_pir.specs.declared.comparing.Difference.{Difference}

-- the letter of INTA# to INTD#
abbrev pub pin_name : ℕ → List ℕ
pin_name n = if n == 0 then codes "A" else (if n == 1 then codes "B" else (if n == 2 then codes "C" else codes "D"))

-- why a pin is odd
abbrev pub odd_name : Odd → List ℕ
odd_name odd.OnlyPir = codes "onlypir"
odd_name odd.OnlyMp = codes "onlymp"
odd_name odd.Link = codes "link"

-- the line of a difference
abbrev pub pin_line : Difference → List ℕ
pin_line d = line (codes "bus " ∷ hex 2 d.bus ∷ codes " device " ∷ hex 2 d.device ∷ codes " pin " ∷ pin_name d.pin ∷ codes " " ∷ odd_name d.why ∷ [])

-- the lines of the differences, and the last with their number
abbrev pub pin_differences_text : List Difference → List ℕ
pin_differences_text ds = flat_map pin_line ds ++ line (codes "differs " ∷ decimal (length ds) ∷ [])
