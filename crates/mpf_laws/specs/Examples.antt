-- The firmware tables of a usual board, written out by hand: two processors, a PCI and an ISA bus, an I/O APIC.
--     board                         its platform; board_answers its routes with ELCR 0
--     board_madt                    the bytes of its MADT; level_madt and its bytes: IRQ 0 level and low
--     board_pir                     the bytes of its PCI IRQ routing table; moved_pir and its bytes: device 3 for device 2
use Rattle.std.specs.Prelude.{ℕ, Bool, List, [], ◌∷◌, ◌++◌, codes, replicate}
use Rattle.mpt_route.specs.declared.platform.Platform.{Platform}
use Rattle.mpt_route.specs.declared.route.Answer.{Answer}
use Rattle.mpt_route.specs.Platform.{platform_of}
use Rattle.mpt_route.specs.Routes.{routes_of}
use Rattle.mpt_laws.specs.Examples.{board_tables}
use Rattle.mpf_madt.specs.declared.line.Line.{Line}
use Rattle.mpf_madt.specs.declared.madt.Madt.{Madt}
use Rattle.mpf_madt.specs.declared.madt.MadtEntry.TheVariants as entry
use Rattle.mpf_pir.specs.declared.table.Pir.{Pir}
use Rattle.mpf_pir.specs.declared.comparing.Odd.{Odd}
use Rattle.mpf_pir.specs.declared.comparing.Difference.{Difference}

abbrev pub board : Platform
board = platform_of board_tables

abbrev pub board_answers : List Answer
board_answers = routes_of board 0

abbrev pub line : ℕ → Bool → Bool → Line
line gsi level low = record { gsi = gsi; level = level; low = low }

-- the table with this checksum and these flags of its override
abbrev pub madt_bytes_with : ℕ → ℕ → List ℕ
madt_bytes_with checksum flags =
    0x41 ∷ 0x50 ∷ 0x49 ∷ 0x43 ∷ 0x58 ∷ 0x00 ∷ 0x00 ∷ 0x00 ∷ 0x01 ∷ checksum ∷ 0x4D ∷ 0x50 ∷ 0x54 ∷ 0x41 ∷ 0x42 ∷ 0x20 ∷ 0x4D ∷ 0x50 ∷ 0x54 ∷ 0x41 ∷ 0x42 ∷ 0x4C ∷ 0x45 ∷ 0x20
    ∷ 0x01 ∷ 0x00 ∷ 0x00 ∷ 0x00 ∷ 0x4D ∷ 0x50 ∷ 0x54 ∷ 0x42 ∷ 0x01 ∷ 0x00 ∷ 0x00 ∷ 0x00 ∷ 0x00 ∷ 0x00 ∷ 0xE0 ∷ 0xFE ∷ 0x01 ∷ 0x00 ∷ 0x00 ∷ 0x00
    ∷ 0x00 ∷ 0x08 ∷ 0x00 ∷ 0x00 ∷ 0x01 ∷ 0x00 ∷ 0x00 ∷ 0x00 ∷ 0x00 ∷ 0x08 ∷ 0x01 ∷ 0x01 ∷ 0x01 ∷ 0x00 ∷ 0x00 ∷ 0x00
    ∷ 0x01 ∷ 0x0C ∷ 0x00 ∷ 0x00 ∷ 0x00 ∷ 0x00 ∷ 0xC0 ∷ 0xFE ∷ 0x00 ∷ 0x00 ∷ 0x00 ∷ 0x00
    ∷ 0x02 ∷ 0x0A ∷ 0x00 ∷ 0x00 ∷ 0x02 ∷ 0x00 ∷ 0x00 ∷ 0x00 ∷ flags ∷ 0x00 ∷ 0x04 ∷ 0x06 ∷ 0xFF ∷ 0x00 ∷ 0x00 ∷ 0x01 ∷ []

abbrev pub board_madt : List ℕ
board_madt = madt_bytes_with 0xC1 0x05

-- IRQ 0 is level and low
abbrev pub level_madt : Madt
level_madt = record {
  revision = 1;
  oem = codes "MPTAB ";
  table = codes "MPTABLE ";
  oem_revision = 1;
  creator = codes "MPTB";
  creator_revision = 1;
  local_address = 0xFEE00000;
  flags = 1;
  entries = entry.Local 0 0 1 ∷ entry.Local 1 1 1 ∷ entry.Io 0 0 0xFEC00000 0 ∷ entry.Override 0 0 2 0x0F ∷ entry.Nmi 0xFF 0 1 ∷ [];
}

-- the table with this first byte, this checksum and this device byte
abbrev pub pir_bytes_with : ℕ → ℕ → ℕ → List ℕ
pir_bytes_with first checksum device =
    first ∷ 0x50 ∷ 0x49 ∷ 0x52 ∷ 0x00 ∷ 0x01 ∷ 0x30 ∷ 0x00 ∷ 0 ∷ 0 ∷ 0 ∷ 0 ∷ 0 ∷ 0 ∷ 0 ∷ 0 ∷ 0 ∷ 0 ∷ 0 ∷ 0 ∷ 0 ∷ 0 ∷ 0 ∷ 0 ∷ 0 ∷ 0 ∷ 0 ∷ 0 ∷ 0 ∷ 0 ∷ 0 ∷ checksum
    ∷ 0x00 ∷ device ∷ 0x01 ∷ 0 ∷ 0 ∷ 0 ∷ 0 ∷ 0 ∷ 0 ∷ 0 ∷ 0 ∷ 0 ∷ 0 ∷ 0 ∷ 0 ∷ 0 ∷ []

abbrev pub board_pir : List ℕ
board_pir = pir_bytes_with 0x24 0xAF 0x10

-- the slot is that of device 3
abbrev pub moved_pir : Pir
moved_pir = record {
  router_bus = 0;
  router_function = 0;
  exclusive = 0;
  compatible = 0;
  miniport = 0;
  reserved = replicate 11 0;
  slots = record { bus = 0; device = 0x18; links = 1 ∷ 0 ∷ 0 ∷ 0 ∷ []; irqs = 0 ∷ 0 ∷ 0 ∷ 0 ∷ []; number = 0; reserved = 0 } ∷ [];
}

-- INTA# of a device on bus 0 is odd
abbrev pub odd_device : ℕ → Odd → Difference
odd_device device why = record { bus = 0; device = device; pin = 0; why = why }
