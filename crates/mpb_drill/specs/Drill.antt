-- A drill: a board of the number n, by which runs of many sizes are made without any file (this project's own).
--     drill_processors n, drill_ioapics n, drill_devices n, drill_pauses n    its sizes
--     drill_tables n    the tables
--     drill_script n    the script
use Rattle.std.specs.Prelude.{ℕ, ◌+◌, ◌-◌, ◌*◌, ◌/◌, ◌%◌, ◌==◌, if◌then◌else◌, List, [], ◌∷◌, ◌++◌, map, filter, replicate, codes, None}
use Rattle.std.specs.List.{range_with_len, flat_map}
use Rattle.mpt_spec.specs.declared.entry.Processor.{Processor}
use Rattle.mpt_spec.specs.declared.entry.Base.{Base}
use Rattle.mpt_spec.specs.declared.entry.Base.TheVariants as base
use Rattle.mpt_spec.specs.declared.tables.Body.TheVariants as body
use Rattle.mpt_spec.specs.declared.tables.Tables.{Tables}
use Rattle.mpb_spec.specs.declared.agent.Op.{Op}
use Rattle.mpb_spec.specs.declared.agent.Op.TheVariants as op
use Rattle.mpb_spec.specs.declared.config.DevWord.{DevWord}
use Rattle.mpb_spec.specs.declared.config.DevWord.TheVariants as word
use Rattle.mpb_script.specs.declared.script.CpuScript.{CpuScript}
use Rattle.mpb_script.specs.declared.script.Script.{Script}

-- ---- the sizes

-- 2 to 8 processors
abbrev pub drill_processors : ℕ → ℕ
drill_processors n = 2 + n % 7

-- 1 to 4 I/O APICs
abbrev pub drill_ioapics : ℕ → ℕ
drill_ioapics n = 1 + n % 4

-- 1 to 4 devices
abbrev pub drill_devices : ℕ → ℕ
drill_devices n = 1 + n / 4 % 4

-- at most 999 pauses of each processor but the first
abbrev pub drill_pauses : ℕ → ℕ
drill_pauses n = n % 1000

-- ---- the tables

-- a processor; the first is the boot processor
abbrev pub processor_entry : ℕ → Processor
processor_entry id = record { apic = id; version = 0x10; flags = if id == 0 then 0x03 else 0x01; signature = 0; features = 0; reserved = 0 ∷ 0 ∷ 0 ∷ 0 ∷ 0 ∷ 0 ∷ 0 ∷ 0 ∷ [] }

abbrev pub processor : ℕ → Base
processor id = base.Processor (processor_entry id)

-- bus 0
abbrev pub isa_bus : Base
isa_bus = base.Bus (record { id = 0; name = codes "ISA   " })

-- an I/O APIC
abbrev pub ioapic : ℕ → Base
ioapic id = base.IoApic (record { id = id; version = 0x11; flags = 0x01; address = 0xFEC00000 })

-- an edge at a pin of the I/O APIC with the id, whose place is a; each has an IRQ of its own
abbrev pub interrupt : ℕ → ℕ → ℕ → Base
interrupt id a pin = base.IoInt (record { kind = 0; flags = 0x0005; bus = 0; irq = 24 * a + pin; dest = id; pin = pin })

-- all entries: c processors, the bus, i I/O APICs with the ids behind those of the processors, and an interrupt at each of their pins
abbrev pub entries : ℕ → ℕ → List Base
entries c i =
    map processor (range_with_len 0 c)
    ++ (isa_bus ∷ (map (λ a. ioapic (c + a)) (range_with_len 0 i) ++ flat_map (λ a. map (interrupt (c + a) a) (range_with_len 0 24)) (range_with_len 0 i)))

-- the tables of so many processors and I/O APICs
abbrev pub tables_of : ℕ → ℕ → Tables
tables_of c i = record {
  at = 0xF0000;
  pointer = record { address = 0xF0010; revision = 4; features = 0 ∷ 0 ∷ 0 ∷ 0 ∷ 0 ∷ [] };
  body = body.Listed (record {
    revision = 4;
    oem = codes "MPTAB   ";
    product = codes "BOARD       ";
    oem_table = 0;
    oem_size = 0;
    local_address = 0xFEE00000;
    reserved = 0;
    old = 0 ∷ 0 ∷ 0 ∷ 0 ∷ [];
    base = entries c i;
    ext = [];
  });
}

-- the tables of a drill
abbrev pub drill_tables : ℕ → Tables
drill_tables n = tables_of (drill_processors n) (drill_ioapics n)

-- ---- the script

-- processor 0 takes so many interrupts
abbrev pub takes : ℕ → List Op
takes count = flat_map (λ _. op.Take ∷ op.Eoi ∷ []) (range_with_len 0 count)

-- each other sends it one of its own, and pauses
abbrev pub sends : ℕ → ℕ → List Op
sends pauses id = op.Ipi 0 (0x80 + id) ∷ replicate pauses (op.Pause 1)

-- the processors' words: processor 0 takes the interrupts of all pins and those of the others
abbrev pub cpus_of : ℕ → ℕ → ℕ → List CpuScript
cpus_of c i pauses =
    record { id = 0; words = takes (24 * i + c - 1) }
    ∷ map (λ k. record { id = 1 + k; words = sends pauses (1 + k) }) (range_with_len 0 (c - 1))

-- device j of d pulses each pin whose number among all is j, modulo d
abbrev pub pulses_of : ℕ → ℕ → ℕ → List DevWord
pulses_of i d j = map (λ k. word.Pulse (k / 24) (k % 24)) (filter (λ k. k % d == j) (range_with_len 0 (24 * i)))

-- the script of a board of such sizes
abbrev pub script_of : ℕ → ℕ → ℕ → ℕ → Script
script_of c i d pauses = record {
  page = 0x9F;
  elcr = 0;
  present = None;
  cpus = cpus_of c i pauses;
  devices = map (pulses_of i d) (range_with_len 0 d);
}

-- the script of a drill
abbrev pub drill_script : ℕ → Script
drill_script n = script_of (drill_processors n) (drill_ioapics n) (drill_devices n) (drill_pauses n)
