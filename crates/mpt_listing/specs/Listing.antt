-- The listing of tables: a text of lines, this project's own.
--     hex k n               k digits of a number, upper case
--     quoted bytes          bytes in double quotes, with escapes
--     line parts            the parts of a line, and its line feed
--     base_line, ext_line   the line of an entry
--     listing_of tables     the whole text
use Rattle.std.specs.Prelude.{ℕ, zero, suc, ◌+◌, ◌/◌, ◌%◌, ◌&&◌, not, nat_le, nat_lt, Bool, ◌==◌, if◌then◌else◌, List, [], ◌∷◌, ◌++◌, codes}
use Rattle.std.specs.List.{flat_map}
use Rattle.mpt_spec.specs.declared.entry.IntEntry.{IntEntry}
use Rattle.mpt_spec.specs.declared.entry.Base.{Base}
use Rattle.mpt_spec.specs.declared.entry.Base.TheVariants as base
use Rattle.mpt_spec.specs.declared.entry.Ext.{Ext}
use Rattle.mpt_spec.specs.declared.entry.Ext.TheVariants as ext
use Rattle.mpt_spec.specs.declared.tables.Table.{Table}
use Rattle.mpt_spec.specs.declared.tables.Body.{Body}
use Rattle.mpt_spec.specs.declared.tables.Body.TheVariants as body
use Rattle.mpt_spec.specs.declared.tables.Tables.{Tables}
use Rattle.mpt_spec.specs.Revision.{by_revision}

-- the digit of a number below 16: `0` to `9`, `A` to `F`
abbrev pub hex_digit : ℕ → ℕ
hex_digit n = if nat_lt n 10 then 48 + n else 55 + n

-- the lowest k hexadecimal digits of a number, the highest of them first
unfoldable pub hex : ℕ → ℕ → List ℕ
hex zero n = []
hex (suc k) n = hex k (n / 16) ++ hex_digit (n % 16) ∷ []

-- two digits for each byte
unfoldable pub hex_bytes : List ℕ → List ℕ
hex_bytes bytes = flat_map (hex 2) bytes

-- a byte stands for itself in quotes: from 20h to 7Eh, but neither `"` nor `\`
abbrev pub is_plain_byte : ℕ → Bool
is_plain_byte b = nat_le 0x20 b && nat_le b 0x7E && not (b == 34) && not (b == 92)

-- a byte in quotes: itself, or `\x` and two digits
abbrev pub quoted_byte : ℕ → List ℕ
quoted_byte b = if is_plain_byte b then (b ∷ []) else (92 ∷ 120 ∷ hex 2 b)

-- bytes in double quotes
unfoldable pub quoted : List ℕ → List ℕ
quoted bytes = 34 ∷ flat_map quoted_byte bytes ++ 34 ∷ []

-- a line: its parts, end to end, and a line feed
abbrev pub line : List (List ℕ) → List ℕ
line [] = 10 ∷ []
line (part ∷ parts) = part ++ line parts

-- where the floating pointer is, and what it says
abbrev pub pointer_line : Tables → List ℕ
pointer_line tables =
    let p = tables.pointer in
    line (codes "pointer at " ∷ hex 8 tables.at ∷ codes " table " ∷ hex 8 p.address ∷ codes " revision " ∷ hex 2 p.revision ∷ codes " features " ∷ hex_bytes p.features ∷ [])

-- the fields of the header that the entries don't determine; the last is the reserved byte, or at revision 1 the bytes 40 to 43
abbrev pub header_line : Table → List ℕ
header_line t =
    line (codes "header revision " ∷ hex 2 t.revision ∷ codes " oem " ∷ quoted t.oem ∷ codes " product " ∷ quoted t.product
    ∷ codes " oemtable " ∷ hex 8 t.oem_table ∷ codes " oemsize " ∷ hex 4 t.oem_size ∷ codes " local " ∷ hex 8 t.local_address
    ∷ by_revision t.revision (codes " old ") (codes " reserved ") ∷ by_revision t.revision (hex_bytes t.old) (hex 2 t.reserved) ∷ [])

-- the line of an interrupt entry, after a word that says whether it is I/O or local
abbrev pub interrupt_line : List ℕ → IntEntry → List ℕ
interrupt_line word e =
    line (word ∷ codes " kind " ∷ hex 2 e.kind ∷ codes " flags " ∷ hex 4 e.flags ∷ codes " bus " ∷ hex 2 e.bus ∷ codes " irq " ∷ hex 2 e.irq
    ∷ codes " dest " ∷ hex 2 e.dest ∷ codes " pin " ∷ hex 2 e.pin ∷ [])

-- the line of a base entry
abbrev pub base_line : Base → List ℕ
base_line (base.Processor e) =
    line (codes "processor id " ∷ hex 2 e.apic ∷ codes " version " ∷ hex 2 e.version ∷ codes " flags " ∷ hex 2 e.flags
    ∷ codes " signature " ∷ hex 8 e.signature ∷ codes " features " ∷ hex 8 e.features ∷ codes " reserved " ∷ hex_bytes e.reserved ∷ [])
base_line (base.Bus e) = line (codes "bus id " ∷ hex 2 e.id ∷ codes " name " ∷ quoted e.name ∷ [])
base_line (base.IoApic e) = line (codes "ioapic id " ∷ hex 2 e.id ∷ codes " version " ∷ hex 2 e.version ∷ codes " flags " ∷ hex 2 e.flags ∷ codes " address " ∷ hex 8 e.address ∷ [])
base_line (base.IoInt e) = interrupt_line (codes "ioint") e
base_line (base.LocalInt e) = interrupt_line (codes "localint") e

-- the bytes of an opaque entry, `-` where there are none
abbrev pub rest_field : List ℕ → List ℕ
rest_field [] = codes "-"
rest_field (b ∷ bytes) = hex_bytes (b ∷ bytes)

-- the line of an extended entry
abbrev pub ext_line : Ext → List ℕ
ext_line (ext.Space e) = line (codes "space bus " ∷ hex 2 e.bus ∷ codes " kind " ∷ hex 2 e.kind ∷ codes " base " ∷ hex 16 e.base ∷ codes " length " ∷ hex 16 e.length ∷ [])
ext_line (ext.Hierarchy e) = line (codes "hierarchy bus " ∷ hex 2 e.bus ∷ codes " info " ∷ hex 2 e.info ∷ codes " parent " ∷ hex 2 e.parent ∷ codes " reserved " ∷ hex_bytes e.reserved ∷ [])
ext_line (ext.Modifier e) = line (codes "modifier bus " ∷ hex 2 e.bus ∷ codes " flags " ∷ hex 2 e.flags ∷ codes " ranges " ∷ hex 8 e.ranges ∷ [])
ext_line (ext.Opaque e) = line (codes "opaque kind " ∷ hex 2 e.kind ∷ codes " rest " ∷ rest_field e.rest ∷ [])

-- the lines of a body: none for a default configuration; else the header, the base entries and the extended entries in table order
abbrev pub body_lines : Body → List ℕ
body_lines (body.Default n) = []
body_lines (body.Listed t) = header_line t ++ flat_map base_line t.base ++ flat_map ext_line t.ext

-- the listing of the tables
abbrev pub listing_of : Tables → List ℕ
listing_of tables = line (codes "mptable 1" ∷ []) ++ pointer_line tables ++ body_lines tables.body ++ line (codes "end" ∷ [])
