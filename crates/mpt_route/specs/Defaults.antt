-- The default configurations (MultiProcessor Specification 1.4, chapter 5) as entries. The exact rows are this project's own.
use Rattle.std.specs.Prelude.{ℕ, ◌==◌, ◌&&◌, ◌||◌, not, Bool, true, false, if◌then◌else◌, List, [], ◌∷◌, map, filter, codes}
use Rattle.std.specs.List.{range_with_len}
use Rattle.mpt_spec.specs.declared.entry.Processor.{Processor}
use Rattle.mpt_spec.specs.declared.entry.Bus.{Bus}
use Rattle.mpt_spec.specs.declared.entry.IoApic.{IoApic}
use Rattle.mpt_spec.specs.declared.entry.IntEntry.{IntEntry}
use Rattle.mpt_route.specs.declared.defaults.DefaultRow.{DefaultRow}

-- a row: the name of bus 0, whether bus 1 is PCI, and the versions of local and I/O APICs
abbrev pub row : List ℕ → Bool → ℕ → ℕ → DefaultRow
row name pci local io = record { bus = name; pci = pci; local = local; io = io }

-- the rows of the table of default configurations; the numbers are 1 to 7
abbrev pub default_row : ℕ → DefaultRow
default_row n =
    if n == 1 then row (codes "ISA   ") false 0x01 0x01
    else (if n == 2 then row (codes "EISA  ") false 0x01 0x01
    else (if n == 3 then row (codes "EISA  ") false 0x01 0x01
    else (if n == 4 then row (codes "MCA   ") false 0x01 0x01
    else (if n == 5 then row (codes "ISA   ") true 0x10 0x11
    else (if n == 6 then row (codes "EISA  ") true 0x10 0x11
    else row (codes "MCA   ") true 0x10 0x11)))))

-- a processor of an id, a local APIC version and flags; all else is 0
abbrev pub processor : ℕ → ℕ → ℕ → Processor
processor id version flags = record { apic = id; version = version; flags = flags; signature = 0; features = 0; reserved = 0 ∷ 0 ∷ 0 ∷ 0 ∷ 0 ∷ 0 ∷ 0 ∷ 0 ∷ [] }

-- two processors, the first of which boots
abbrev pub default_processors : DefaultRow → List Processor
default_processors r = processor 0 r.local 0x03 ∷ processor 1 r.local 0x01 ∷ []

-- bus 0, and PCI as bus 1 where there is one
abbrev pub default_buses : DefaultRow → List Bus
default_buses r = record { id = 0; name = r.bus } ∷ (if r.pci then record { id = 1; name = codes "PCI   " } ∷ [] else [])

-- one I/O APIC with id 2, at its usual address
abbrev pub default_ios : DefaultRow → List IoApic
default_ios r = record { id = 2; version = r.io; flags = 0x01; address = 0xFEC00000 } ∷ []

-- an interrupt of bus 0 that conforms to it
abbrev pub interrupt : ℕ → ℕ → ℕ → ℕ → IntEntry
interrupt kind irq dest pin = record { kind = kind; flags = 0; bus = 0; irq = irq; dest = dest; pin = pin }

-- the IRQs with an INT row: not 2, and in number 2 neither 0 nor 13
abbrev pub is_connected : ℕ → ℕ → Bool
is_connected n irq = not (irq == 2) && not ((n == 2) && ((irq == 0) || (irq == 13)))

-- an INT row: IRQ 0 is at INTIN 2, each other at its own
abbrev pub int_row : ℕ → IntEntry
int_row irq = interrupt 0 irq 2 (if irq == 0 then 2 else irq)

-- ExtINT at INTIN 0, then the INT rows
abbrev pub default_ints : ℕ → List IntEntry
default_ints n = interrupt 3 0 2 0 ∷ map int_row (filter (is_connected n) (range_with_len 0 16))

-- ExtINT at LINTIN 0, NMI at LINTIN 1
abbrev pub default_lints : List IntEntry
default_lints = interrupt 3 0 0xFF 0 ∷ interrupt 1 0 0xFF 1 ∷ []
