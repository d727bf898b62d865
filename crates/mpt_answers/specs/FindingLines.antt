-- The text of findings: a line for each, and their number last, this project's own.
--     finding_line f     the line of a finding
--     findings_text fs   all lines, in order, and the last
use Rattle.std.specs.Prelude.{ℕ, ◌==◌, if◌then◌else◌, List, [], ◌∷◌, ◌++◌, length, codes, decimal}
use Rattle.std.specs.List.{flat_map}
use Rattle.mpt_listing.specs.Listing.{line}
use Rattle.mpt_rules.specs.declared.rule.Finding.{Finding}
use Rattle.mpt_rules.specs.Places.{nowhere}

-- a place in decimal, `-` where a finding names none
abbrev pub place_text : ℕ → List ℕ
place_text n = if n == nowhere then codes "-" else decimal n

-- the line of a finding
abbrev pub finding_line : Finding → List ℕ
finding_line f = line (codes "rule " ∷ decimal f.rule ∷ codes " entry " ∷ place_text f.entry ∷ codes " other " ∷ place_text f.other ∷ [])

-- the lines of the findings, and the last with their number
abbrev pub findings_text : List Finding → List ℕ
findings_text fs = flat_map finding_line fs ++ line (codes "findings " ∷ decimal (length fs) ∷ [])
