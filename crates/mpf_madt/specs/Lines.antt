-- The lines of the ISA interrupts: what a MADT says of them (ACPI Specification, section 5.2.12.5), and what the tables of
-- MultiProcessor Specification 1.4 say (sections 4.3.2 and 4.3.4).
--     isa_of m irq              the line of an ISA interrupt in a MADT
--     source_of p answers irq   its line by the routes of a platform, where it has one
--     Differs p answers m irq   it has one, and the MADT says another
use Rattle.std.specs.Prelude.{◌≡◌, ◌≢◌, ℕ, ◌==◌, ◌&&◌, ◌+◌, ◌*◌, ◌/◌, ◌%◌, ◌^◌, Bool, true, false, if◌then◌else◌, List, [], ◌∷◌, Option, Some, None, unwrap_or, slice_get}
use Rattle.std.specs.Option.{option_or}
use Rattle.mpt_spec.specs.declared.entry.IntEntry.{IntEntry}
use Rattle.mpt_route.specs.declared.bus.BusKind.{BusKind}
use Rattle.mpt_route.specs.declared.bus.BusKind.TheVariants as bus
use Rattle.mpt_route.specs.declared.platform.Platform.{Platform}
use Rattle.mpt_route.specs.declared.route.Route.{Route}
use Rattle.mpt_route.specs.declared.route.Answer.{Answer}
use Rattle.mpt_route.specs.declared.route.Answer.TheVariants as answer
use Rattle.mpt_route.specs.Routes.{bus_kind_in}
use Rattle.mpf_madt.specs.declared.line.Line.{Line}
use Rattle.mpf_madt.specs.declared.madt.Madt.{Madt}
use Rattle.mpf_madt.specs.declared.madt.MadtEntry.{MadtEntry}
use Rattle.mpf_madt.specs.declared.madt.MadtEntry.TheVariants as entry

-- what a function gives of the first member of which it gives something
abbrev pub first_some : {A B : Type 0} → (A → Option B) → List A → Option B
first_some f [] = None
first_some f (x ∷ xs) = option_or (f x) (first_some f xs)

-- the line of an override of an ISA interrupt: low exactly for polarity 11, level exactly for trigger mode 11
abbrev pub override_of : ℕ → MadtEntry → Option Line
override_of irq (entry.Override bus source gsi flags) = if (bus == 0) && (source == irq) then Some (record { gsi = gsi; level = flags / 4 % 4 == 3; low = flags % 4 == 3 }) else None
override_of irq _ = None

-- the line of an interrupt without an override: of its own number, edge and high
abbrev pub plain_line : ℕ → Line
plain_line irq = record { gsi = irq; level = false; low = false }

-- the line of an ISA interrupt in a MADT: that of its first override
abbrev pub isa_of : Madt → ℕ → Line
isa_of m irq = unwrap_or (first_some (override_of irq) m.entries) (plain_line irq)

-- the bus is ISA or EISA
abbrev pub is_isa : Option BusKind → Bool
is_isa (Some bus.Isa) = true
is_isa (Some bus.Eisa) = true
is_isa _ = false

-- the entry is one of kind INT of an ISA or EISA bus with this IRQ
abbrev pub is_isa_int : Platform → ℕ → IntEntry → Bool
is_isa_int p irq e = (e.kind == 0) && ((e.irq == irq) && is_isa (bus_kind_in p.buses e.bus))

-- the line of a row of a redirection table: 24 interrupts for each I/O APIC, bit 15 of the low word level, bit 13 low
abbrev pub line_of : Route → Line
line_of r = record { gsi = 24 * r.io + r.pin; level = r.low / 2 ^ 15 % 2 == 1; low = r.low / 2 ^ 13 % 2 == 1 }

-- the line of an answer to such an entry, where there is one
abbrev pub line_for : Platform → ℕ → Option IntEntry → Route → Option Line
line_for p irq None r = None
line_for p irq (Some e) r = if is_isa_int p irq e then Some (line_of r) else None

-- the line of an answer, where it is a row and its entry is such a one
abbrev pub source_by : Platform → ℕ → Answer → Option Line
source_by p irq (answer.Routed r) = line_for p irq (slice_get p.ints r.entry) r
source_by p irq _ = None

-- the line of an ISA interrupt by the routes of a platform: that of the first routed entry of kind INT of an ISA or EISA bus with
-- this IRQ
abbrev pub source_of : Platform → List Answer → ℕ → Option Line
source_of p answers irq = first_some (source_by p irq) answers

-- the routes give the interrupt a line, and the MADT says another
abbrev pub Differs : Platform → List Answer → Madt → ℕ → Type 0
Differs p answers m irq = (l : Line) × (source_of p answers irq ≡ Some l) × (l ≢ isa_of m irq)
