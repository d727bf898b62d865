-- What is printed of a processor or an I/O APIC that is looked for. Only private functions cite it.
--     Register, register_of r a   one of the three registers of a local APIC, and its set of vectors
--     found_cpu id o              the line of the processor that is found by this id
--     found_io a o                the line of the I/O APIC that is found at this place
use Rattle.std.specs.Prelude.{ℕ, List, [], Option, None, Some}
use Rattle.mpb_report.specs.declared.vectors.Register.{Register}
use Rattle.mpb_report.specs.declared.vectors.Register.TheVariants.{Irr, Isr, Tmr}
use Rattle.mpb_spec.specs.LocalApic.{LocalApic}
use Rattle.mpb_spec.specs.State.{Processor, Place}
use Rattle.mpb_report_spec.specs.StateLines.{cpu_line, io_line}

-- the vectors of a register
abbrev pub register_of : Register → LocalApic → List ℕ
register_of Irr a = a.irr
register_of Isr a = a.isr
register_of Tmr a = a.tmr

-- the line of the processor, nothing where there is none
abbrev pub found_cpu : ℕ → Option Processor → List ℕ
found_cpu id None = []
found_cpu id (Some p) = cpu_line id p.life p.apic

-- the line of the I/O APIC, nothing where there is none
abbrev pub found_io : ℕ → Option Place → List ℕ
found_io a None = []
found_io a (Some p) = io_line a p.chip.pins
