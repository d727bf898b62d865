-- The MADT that says what a platform and its routes say (MultiProcessor Specification 1.4, section 4.3; ACPI Specification,
-- section 5.2.12). The names in its header are this project's own.
--     madt_of p answers     the table
use Rattle.std.specs.Prelude.{ℕ, ◌==◌, ◌&&◌, not, ◌+◌, ◌*◌, ◌%◌, Bool, if◌then◌else◌, List, ◌++◌, map, filter, filter_map, position, codes, Option, Some, None, option_map}
use Rattle.std.specs.List.{enumerate_from, range_with_len}
use Rattle.mpt_spec.specs.declared.entry.Processor.{Processor}
use Rattle.mpt_spec.specs.declared.entry.IoApic.{IoApic}
use Rattle.mpt_spec.specs.declared.entry.IntEntry.{IntEntry}
use Rattle.mpt_route.specs.declared.platform.Platform.{Platform}
use Rattle.mpt_route.specs.declared.route.Answer.{Answer}
use Rattle.mpt_route.specs.Routes.{is_enabled}
use Rattle.mpf_madt.specs.declared.line.Line.{Line}
use Rattle.mpf_madt.specs.declared.madt.Madt.{Madt}
use Rattle.mpf_madt.specs.declared.madt.MadtEntry.{MadtEntry}
use Rattle.mpf_madt.specs.declared.madt.MadtEntry.TheVariants as entry
use Rattle.mpf_madt.specs.Lines.{source_of}

-- a processor at its place, which is its UID; bit 0 of its flags is EN
abbrev pub local_of : ℕ × Processor → MadtEntry
local_of (uid, e) = entry.Local uid e.apic (e.flags % 2)

-- an I/O APIC at its place; its interrupts follow those of the 24 pins of each before it
abbrev pub io_of : ℕ × IoApic → MadtEntry
io_of (place, io) = entry.Io io.id 0 io.address (24 * place)

-- the line is that which an interrupt has without an override
abbrev pub is_plain : ℕ → Line → Bool
is_plain irq l = (l.gsi == irq) && (not l.level && not l.low)

-- polarity 11 for low and 01 for high, trigger mode 11 for level and 01 for edge
abbrev pub flags_of : Line → ℕ
flags_of l = (if l.low then 3 else 1) + 4 * (if l.level then 3 else 1)

-- the override of an ISA interrupt with this line: none where there is no line, or where it needs none
abbrev pub override_for : ℕ → Option Line → Option MadtEntry
override_for irq None = None
override_for irq (Some l) = if is_plain irq l then None else Some (entry.Override 0 irq l.gsi (flags_of l))

-- the UID of a destination: FFh for all, else the place of the first processor with the id
abbrev pub uid_of : List Processor → ℕ → Option ℕ
uid_of processors dest = if dest == 255 then Some 255 else position (λ x. x.apic == dest) processors

-- the NMI of a local interrupt entry of kind NMI that goes to a processor, with the polarity and the trigger mode of the entry
abbrev pub nmi_of : List Processor → IntEntry → Option MadtEntry
nmi_of processors e = if e.kind == 1 then option_map (λ uid. entry.Nmi uid (e.flags % 16) e.pin) (uid_of processors e.dest) else None

-- each processor
abbrev pub locals_of : List Processor → List MadtEntry
locals_of processors = map local_of (enumerate_from 0 processors)

-- each enabled I/O APIC
abbrev pub ios_of : List IoApic → List MadtEntry
ios_of ios = map io_of (enumerate_from 0 (filter is_enabled ios))

-- an override for each ISA interrupt that needs one
abbrev pub overrides_of : Platform → List Answer → List MadtEntry
overrides_of p answers = filter_map (λ irq. override_for irq (source_of p answers irq)) (range_with_len 0 16)

-- each local NMI to a processor
abbrev pub nmis_of : List Processor → List IntEntry → List MadtEntry
nmis_of processors lints = filter_map (nmi_of processors) lints

-- the APICs, and the interrupts
abbrev pub apics_of : Platform → List MadtEntry
apics_of p = locals_of p.processors ++ ios_of p.ios

abbrev pub interrupts_of : Platform → List Answer → List MadtEntry
interrupts_of p answers = overrides_of p answers ++ nmis_of p.processors p.lints

-- the table of a platform and its routes
abbrev pub madt_of : Platform → List Answer → Madt
madt_of p answers = record {
  revision = 1;
  oem = codes "MPTAB ";
  table = codes "MPTABLE ";
  oem_revision = 1;
  creator = codes "MPTB";
  creator_revision = 1;
  local_address = p.local_address;
  flags = 1;
  entries = apics_of p ++ interrupts_of p answers;
}
