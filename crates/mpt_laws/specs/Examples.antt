-- Worked examples: small tables and images, written out by hand after MultiProcessor Specification 1.4, figures 4-2 to 4-11.
--     one_processor, one_processor_bytes       a table with one processor, and its 64 bytes
--     small_pointer, small_pointer_bytes       the floating pointer that names it in the small image
--     small_image                              1,360 bytes: the EBDA segment 0050h, the pointer at 500h, the table at 510h
--     old_image, old_tables                    the same at revision 1, with 11h 22h 33h 44h in bytes 40 to 43 of the header
--     image_with ebda pointer table            the same with another segment, other bytes at 500h and other bytes from 510h on
--     placed at address                        a floating pointer at a place that names a block of 64 bytes at an address
--     board_tables                             a usual board: two processors, a PCI and an ISA bus, an I/O APIC, 19 interrupts
use Rattle.std.specs.Prelude.{ℕ, List, [], ◌∷◌, ◌++◌, map, replicate, codes}
use Rattle.std.specs.Int.{to_le_bytes, w16}
use Rattle.mpt_spec.specs.declared.pointer.Pointer.{Pointer}
use Rattle.mpt_spec.specs.declared.entry.Base.{Base}
use Rattle.mpt_spec.specs.declared.entry.Base.TheVariants as base
use Rattle.mpt_spec.specs.declared.entry.Ext.TheVariants as ext
use Rattle.mpt_spec.specs.declared.tables.Table.{Table}
use Rattle.mpt_spec.specs.declared.tables.Body.TheVariants as body
use Rattle.mpt_spec.specs.declared.tables.Tables.{Tables}

-- a table with these entries
abbrev pub table_of : List Base → Table
table_of entries = record {
  revision = 4;
  oem = codes "MPTAB   ";
  product = codes "BOARD       ";
  oem_table = 0;
  oem_size = 0;
  local_address = 0xFEE00000;
  reserved = 0;
  old = replicate 4 0;
  base = entries;
  ext = [];
}

-- a processor without reserved bytes
abbrev pub processor : ℕ → ℕ → ℕ → ℕ → ℕ → Base
processor id version flags signature features =
    base.Processor (record { apic = id; version = version; flags = flags; signature = signature; features = features; reserved = replicate 8 0 })

-- a table with one processor
abbrev pub one_processor : Table
one_processor = table_of (processor 0 0x10 3 0x520 0x1BF ∷ [])

-- the header of its bytes with these values of revision, base length, checksum, entry count and bytes 40 to 43
abbrev pub header_of : ℕ → ℕ → ℕ → ℕ → List ℕ → List ℕ
header_of revision base_length checksum count end =
    0x50 ∷ 0x43 ∷ 0x4D ∷ 0x50 ∷ base_length ∷ 0x00 ∷ revision ∷ checksum
    ∷ 0x4D ∷ 0x50 ∷ 0x54 ∷ 0x41 ∷ 0x42 ∷ 0x20 ∷ 0x20 ∷ 0x20
    ∷ 0x42 ∷ 0x4F ∷ 0x41 ∷ 0x52 ∷ 0x44 ∷ 0x20 ∷ 0x20 ∷ 0x20 ∷ 0x20 ∷ 0x20 ∷ 0x20 ∷ 0x20
    ∷ 0x00 ∷ 0x00 ∷ 0x00 ∷ 0x00 ∷ 0x00 ∷ 0x00 ∷ count ∷ 0x00 ∷ 0x00 ∷ 0x00 ∷ 0xE0 ∷ 0xFE ∷ end

-- the header of revision 4 with these values of base length, checksum, entry count, extended length and extended checksum
abbrev pub header_with : ℕ → ℕ → ℕ → ℕ → ℕ → List ℕ
header_with base_length checksum count ext_length ext_checksum = header_of 4 base_length checksum count (ext_length ∷ 0x00 ∷ ext_checksum ∷ 0x00 ∷ [])

-- its entry with this type byte
abbrev pub entry_with : ℕ → List ℕ
entry_with type_byte =
    type_byte ∷ 0x00 ∷ 0x10 ∷ 0x03 ∷ 0x20 ∷ 0x05 ∷ 0x00 ∷ 0x00 ∷ 0xBF ∷ 0x01 ∷ 0x00 ∷ 0x00
    ∷ 0x00 ∷ 0x00 ∷ 0x00 ∷ 0x00 ∷ 0x00 ∷ 0x00 ∷ 0x00 ∷ 0x00 ∷ []

-- its 64 bytes
abbrev pub one_processor_bytes : List ℕ
one_processor_bytes = header_with 0x40 0x99 1 0 0 ++ entry_with 0

-- the floating pointer of the small image
abbrev pub small_pointer : Pointer
small_pointer = record { address = 0x510; revision = 4; features = replicate 5 0 }

-- a floating pointer's bytes with these values of the address's low word, revision, checksum and feature byte 1
abbrev pub pointer_bytes_of : ℕ → ℕ → ℕ → ℕ → List ℕ
pointer_bytes_of address revision checksum feature =
    0x5F ∷ 0x4D ∷ 0x50 ∷ 0x5F ∷ (to_le_bytes w16 address ++ 0x00 ∷ 0x00 ∷ 0x01 ∷ revision ∷ checksum ∷ feature ∷ 0x00 ∷ 0x00 ∷ 0x00 ∷ 0x00 ∷ [])

-- those of revision 4
abbrev pub pointer_bytes_with : ℕ → ℕ → ℕ → List ℕ
pointer_bytes_with address checksum feature = pointer_bytes_of address 4 checksum feature

-- its sixteen bytes
abbrev pub small_pointer_bytes : List ℕ
small_pointer_bytes = pointer_bytes_with 0x510 0x8B 0

-- an image with this EBDA segment, these sixteen bytes at 500h and these bytes from 510h on
abbrev pub image_with : ℕ → List ℕ → List ℕ → List ℕ
image_with ebda pointer table = replicate 0x40E 0 ++ to_le_bytes w16 ebda ++ replicate 0xF0 0 ++ pointer ++ table

-- the small image with these bytes from 510h on
abbrev pub small_image_with : List ℕ → List ℕ
small_image_with table = image_with 0x50 small_pointer_bytes table

-- the small image
abbrev pub small_image : List ℕ
small_image = small_image_with one_processor_bytes

-- what it describes
abbrev pub small_tables : Tables
small_tables = record { at = 0x500; pointer = small_pointer; body = body.Listed one_processor }

-- the same with an opaque extended entry of type C8h
abbrev pub extended_tables : Tables
extended_tables = record {
  at = 0x500;
  pointer = small_pointer;
  body = body.Listed (record one_processor { ext = ext.Opaque (record { kind = 0xC8; rest = [] }) ∷ [] });
}

-- the table with one processor at revision 1, with 11h 22h 33h 44h in bytes 40 to 43
abbrev pub old_table : Table
old_table = record one_processor { revision = 1; old = 0x11 ∷ 0x22 ∷ 0x33 ∷ 0x44 ∷ [] }

-- its 64 bytes
abbrev pub old_table_bytes : List ℕ
old_table_bytes = header_of 1 0x40 0xF2 1 (0x11 ∷ 0x22 ∷ 0x33 ∷ 0x44 ∷ []) ++ entry_with 0

-- a floating pointer of revision 1 that names it
abbrev pub old_pointer : Pointer
old_pointer = record small_pointer { revision = 1 }

-- the small image with both; as lengths, bytes 40 and 41 would pass it
abbrev pub old_image : List ℕ
old_image = image_with 0x50 (pointer_bytes_of 0x510 1 0x8E 0) old_table_bytes

-- what it describes
abbrev pub old_tables : Tables
old_tables = record { at = 0x500; pointer = old_pointer; body = body.Listed old_table }

-- the image of a default configuration of this number
abbrev pub default_image : ℕ → ℕ → List ℕ
default_image number checksum = image_with 0x50 (pointer_bytes_with 0 checksum number) []

-- what it describes
abbrev pub default_tables : ℕ → Tables
default_tables number = record {
  at = 0x500;
  pointer = record { address = 0; revision = 4; features = number ∷ 0 ∷ 0 ∷ 0 ∷ 0 ∷ [] };
  body = body.Default number;
}

-- the table with one processor at an address, with the floating pointer at a place
abbrev pub placed : ℕ → ℕ → Tables
placed at address = record { at = at; pointer = record small_pointer { address = address }; body = body.Listed one_processor }

-- a floating pointer of which one byte is wrong at 500h, a right one at 510h, and its table at 520h
abbrev pub second_place_image : List ℕ
second_place_image = image_with 0x50 (pointer_bytes_with 0x520 0x7A 0) (pointer_bytes_with 0x520 0x7B 0 ++ one_processor_bytes)

-- what it describes
abbrev pub second_place_tables : Tables
second_place_tables = record { at = 0x510; pointer = record small_pointer { address = 0x520 }; body = body.Listed one_processor }

-- an I/O interrupt of the board, to its I/O APIC
abbrev pub io_interrupt : ℕ → ℕ → ℕ → ℕ → Base
io_interrupt kind bus irq pin = base.IoInt (record { kind = kind; flags = 0; bus = bus; irq = irq; dest = 0; pin = pin })

-- a local interrupt of the board
abbrev pub local_interrupt : ℕ → ℕ → ℕ → Base
local_interrupt kind dest pin = base.LocalInt (record { kind = kind; flags = 0; bus = 1; irq = 0; dest = dest; pin = pin })

-- the entries of the board
abbrev pub board_entries : List Base
board_entries =
    processor 0 0x14 3 0x600 0x201 ∷ processor 1 0x14 1 0x600 0x201
    ∷ base.Bus (record { id = 0; name = codes "PCI   " }) ∷ base.Bus (record { id = 1; name = codes "ISA   " })
    ∷ base.IoApic (record { id = 0; version = 0x11; flags = 1; address = 0xFEC00000 })
    ∷ io_interrupt 0 0 8 0x10 ∷ io_interrupt 3 1 0 0 ∷ io_interrupt 0 1 0 2 ∷ io_interrupt 0 1 1 1
    ∷ (map (λ irq. io_interrupt 0 1 irq irq) (3 ∷ 4 ∷ 5 ∷ 6 ∷ 7 ∷ 8 ∷ 9 ∷ 10 ∷ 11 ∷ 12 ∷ 13 ∷ 14 ∷ 15 ∷ [])
    ++ local_interrupt 3 0 0 ∷ local_interrupt 1 0xFF 1 ∷ [])

-- the tables of the board, with the floating pointer at F0000h and the table at F0010h
abbrev pub board_tables : Tables
board_tables = record {
  at = 0xF0000;
  pointer = record { address = 0xF0010; revision = 4; features = replicate 5 0 };
  body = body.Listed (table_of board_entries);
}

-- the sixteen bytes of its floating pointer
abbrev pub board_pointer_bytes : List ℕ
board_pointer_bytes = 0x5F ∷ 0x4D ∷ 0x50 ∷ 0x5F ∷ 0x10 ∷ 0x00 ∷ 0x0F ∷ 0x00 ∷ 0x01 ∷ 0x04 ∷ 0x81 ∷ 0x00 ∷ 0x00 ∷ 0x00 ∷ 0x00 ∷ 0x00 ∷ []
