-- The lines of a state (this project's own).
--     StateLine         a line: of the interrupt mode register, of a processor, of an I/O APIC
--     lines_in r        those of a report
--     lines_of s        those of a board's state
use Rattle.std.specs.Prelude.{ℕ, List, ◌∷◌, ◌++◌, map}
use Rattle.mpb_spec.specs.declared.config.Life.{Life}
use Rattle.mpb_spec.specs.declared.config.Imcr.{Imcr}
use Rattle.mpb_spec.specs.IoApic.{mask_by}
use Rattle.mpb_spec.specs.State.{Processor, Place, BoardState}
use Rattle.mpb_report_spec.specs.StateLines.{members}
use Rattle.mpb_report_line.specs.declared.report.CpuLine.{CpuLine}
use Rattle.mpb_report_line.specs.declared.report.IoLine.{IoLine}
use Rattle.mpb_report_line.specs.declared.report.Report.{Report}

-- what a line says: the register; a processor's id, life, task priority, and its vectors that are requested, in service and
-- level-triggered; an I/O APIC's pins whose line is asserted, that are due, and that have remote IRR, bit n for pin n
pub data StateLine : Type 0 where
  RegisterLine : Imcr → StateLine
  ProcessorLine : (id : ℕ) → Life → (tpr : ℕ) → (irr isr tmr : List ℕ) → StateLine
  PlaceLine : (line due remote : ℕ) → StateLine

abbrev pub cpu_line_in : CpuLine → StateLine
cpu_line_in l = ProcessorLine l.id l.life l.tpr l.irr l.isr l.tmr

abbrev pub io_line_in : IoLine → StateLine
io_line_in l = PlaceLine l.line l.due l.remote

-- the lines of a report
abbrev pub lines_in : Report → List StateLine
lines_in r = RegisterLine r.imcr ∷ (map cpu_line_in r.cpus ++ map io_line_in r.ios)

abbrev pub line_of_processor : Processor → StateLine
line_of_processor p = ProcessorLine p.id p.life p.apic.tpr (members p.apic.irr) (members p.apic.isr) (members p.apic.tmr)

abbrev pub line_of_place : Place → StateLine
line_of_place p = PlaceLine (mask_by (λ q. q.line) p.chip.pins) (mask_by (λ q. q.due) p.chip.pins) (mask_by (λ q. q.remote) p.chip.pins)

-- the lines of a board's state: processors ascending by id, and I/O APICs by place
abbrev pub lines_of : BoardState → List StateLine
lines_of s = RegisterLine s.imcr ∷ (map line_of_processor s.processors ++ map line_of_place s.places)
