-- Where a MADT says another line of an ISA interrupt than the routes of a platform, and the text of that, this project's own.
--     line_differences_of p answers m    each such interrupt, with both lines, ascending
--     line_differences_text ds           a line for each, and their number last
use Rattle.std.specs.Prelude.{ℕ, ◌==◌, ◌&&◌, not, Bool, true, false, if◌then◌else◌, List, [], ◌∷◌, ◌++◌, length, filter_map, codes, decimal, Option, Some, None}
use Rattle.std.specs.List.{flat_map, range_with_len}
use Rattle.mpt_listing.specs.Listing.{line}
use Rattle.mpt_route.specs.declared.platform.Platform.{Platform}
use Rattle.mpt_route.specs.declared.route.Answer.{Answer}
use Rattle.mpf_madt.specs.declared.line.Line.{Line}
use Rattle.mpf_madt.specs.declared.madt.Madt.{Madt}
use Rattle.mpf_madt.specs.Lines.{source_of, isa_of}
use Rattle.mpf_answers.specs.declared.differing_lines.LineDifference.{LineDifference}

abbrev pub same_bool : Bool → Bool → Bool
same_bool true b = b
same_bool false b = not b

-- two lines are one: interrupt, trigger and polarity
abbrev pub is_line : Line → Line → Bool
is_line a b = (a.gsi == b.gsi) && same_bool a.level b.level && same_bool a.low b.low

-- the difference of an interrupt: the routes give it a line, and the MADT says another
abbrev pub difference_of : ℕ → Option Line → Line → Option LineDifference
difference_of irq None own = None
difference_of irq (Some l) own = if is_line l own then None else Some (record { irq = irq; mp = l; madt = own })

abbrev pub difference_at : Platform → List Answer → Madt → ℕ → Option LineDifference
difference_at p answers m irq = difference_of irq (source_of p answers irq) (isa_of m irq)

-- those of the 16 ISA interrupts, ascending
abbrev pub line_differences_of : Platform → List Answer → Madt → List LineDifference
line_differences_of p answers m = filter_map (difference_at p answers m) (range_with_len 0 16)

-- how a line is triggered, and its polarity
abbrev pub trigger_name : Bool → List ℕ
trigger_name true = codes "level"
trigger_name false = codes "edge"

abbrev pub polarity_name : Bool → List ℕ
polarity_name true = codes "low"
polarity_name false = codes "high"

-- the line of a difference: the interrupt, then interrupt, trigger and polarity of both
abbrev pub difference_line : LineDifference → List ℕ
difference_line d =
    line (codes "irq " ∷ decimal d.irq ∷ codes " mp " ∷ decimal d.mp.gsi ∷ codes " " ∷ trigger_name d.mp.level ∷ codes " " ∷ polarity_name d.mp.low
    ∷ codes " madt " ∷ decimal d.madt.gsi ∷ codes " " ∷ trigger_name d.madt.level ∷ codes " " ∷ polarity_name d.madt.low ∷ [])

-- the lines of the differences, and the last with their number
abbrev pub line_differences_text : List LineDifference → List ℕ
line_differences_text ds = flat_map difference_line ds ++ line (codes "differs " ∷ decimal (length ds) ∷ [])
