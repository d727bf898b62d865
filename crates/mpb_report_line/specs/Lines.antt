-- The lines of a report over the values that they say. Those of entries, logs and the interrupt mode register are the printed ones.
--     entry_count_line n   the line that says how many entries there are
--     cpu_text p           the line of a processor
--     io_text a x          the line of the I/O APIC at place a
use Rattle.std.specs.Prelude.{ℕ, List, [], ◌∷◌, codes, decimal}
use Rattle.mpt_listing.specs.Listing.{line, hex}
use Rattle.mpb_report_spec.specs.StateLines.{life_text, vectors_text}
use Rattle.mpb_report_line.specs.declared.report.CpuLine.{CpuLine}
use Rattle.mpb_report_line.specs.declared.report.IoLine.{IoLine}
use Rattle.mpb_report_line.specs.Numerals.{numeral}
use Rattle.std.specs.List.{concat}

-- how many entries there are
abbrev pub entry_count_line : ℕ → List ℕ
entry_count_line n = line (codes "entries " ∷ numeral n ∷ [])

-- a processor: its id, its life, its task priority, and its vectors that are requested, in service and level-triggered
abbrev pub cpu_text : CpuLine → List ℕ
cpu_text p =
    line (codes "state cpu " ∷ hex 2 p.id ∷ codes " " ∷ life_text p.life ∷ codes " tpr " ∷ hex 2 p.tpr
    ∷ concat (codes " irr " ∷ vectors_text p.irr ∷ codes " isr " ∷ vectors_text p.isr ∷ codes " tmr " ∷ vectors_text p.tmr ∷ []) ∷ [])

-- the I/O APIC at a place: the pins whose line is asserted, that are due, and that have remote IRR set, bit n for pin n
abbrev pub io_text : ℕ → IoLine → List ℕ
io_text a x = line (codes "state io " ∷ decimal a ∷ codes " line " ∷ hex 6 x.line ∷ codes " due " ∷ hex 6 x.due ∷ codes " remote " ∷ hex 6 x.remote ∷ [])
