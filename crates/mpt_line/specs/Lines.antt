-- The lines of a listing with the values that they say, and the line with which a text begins.
--     IsRightPointer v, pointer_text v   the line of a floating pointer and its place is right; the line
--     IsRightHeader h, header_text h     the same of a header
--     IsRightExt e                       the line of an extended entry is right
--     BeginsWith line Right text a rest  the text begins with the line of a right value
--     BeginsWithNone line Right text     it begins with the line of none
use Rattle.std.specs.Prelude.{◌≡◌, ◌≢◌, ℕ, ◌^◌, ◌<◌, ◌≤◌, List, [], ◌++◌, length, replicate}
use Rattle.mpt_base.specs.Bytes.{IsByteList}
use Rattle.mpt_spec.specs.declared.entry.Base.{Base}
use Rattle.mpt_spec.specs.declared.entry.Ext.{Ext}
use Rattle.mpt_spec.specs.declared.tables.Table.{Table}
use Rattle.mpt_spec.specs.declared.tables.Body.TheVariants as body
use Rattle.mpt_spec.specs.Revision.{IsKnownRevision}
use Rattle.mpt_spec.specs.Table.{default_number}
use Rattle.mpt_spec.specs.Canonical.{IsLawfulExt}
use Rattle.mpt_spec.specs.Values.{IsPointerValue, IsExtValue}
use Rattle.mpt_listing.specs.Listing.{pointer_line, header_line}
use Rattle.mpt_line.specs.declared.heads.PointerLine.{PointerLine}
use Rattle.mpt_line.specs.declared.heads.HeaderLine.{HeaderLine}
use Rattle.mpt_line.specs.declared.heads.HeaderEnd.{HeaderEnd}
use Rattle.mpt_line.specs.declared.heads.HeaderEnd.TheVariants as end

-- eight digits hold the place, the fields fit, the revision is 1 or 4, and feature byte 1 is the number of a default configuration, or
-- 0 with the address of a table
pub record IsRightPointer (v : PointerLine) : Type 0 where
  pub at : v.at < 2 ^ 32
  pub fields : IsPointerValue v.pointer
  pub revision : IsKnownRevision v.pointer.revision
  pub number : default_number v.pointer ≤ 7
  pub address : default_number v.pointer ≡ 0 → v.pointer.address ≢ 0

-- the line of a floating pointer: no body has a part in it
abbrev pub pointer_text : PointerLine → List ℕ
pointer_text v = pointer_line (record { at = v.at; pointer = v.pointer; body = body.Default 0 })

-- the last field of a header is that of its revision, and fits
abbrev pub IsRightEnd : HeaderEnd → ℕ → Type 0
IsRightEnd (end.Reserved byte) revision = (revision ≡ 4) × (byte < 256)
IsRightEnd (end.Old bytes) revision = (revision ≡ 1) × (length bytes ≡ 4) × IsByteList bytes

-- the fields of a header fit, and the last is that of its revision
pub record IsRightHeader (h : HeaderLine) : Type 0 where
  pub oem : (length h.oem ≡ 8) × IsByteList h.oem
  pub product : (length h.product ≡ 12) × IsByteList h.product
  pub oem_table : h.oem_table < 2 ^ 32
  pub oem_size : h.oem_size < 2 ^ 16
  pub local_address : h.local_address < 2 ^ 32
  pub end : IsRightEnd h.end h.revision

-- the reserved byte and the bytes 40 to 43 that the last field says, zero where it says the other
abbrev pub reserved_of : HeaderEnd → ℕ
reserved_of (end.Reserved byte) = byte
reserved_of (end.Old bytes) = 0

abbrev pub old_of : HeaderEnd → List ℕ
old_of (end.Reserved byte) = replicate 4 0
old_of (end.Old bytes) = bytes

-- the table of a header and entries
abbrev pub table_with : HeaderLine → List Base → List Ext → Table
table_with h bs es = record {
  revision = h.revision;
  oem = h.oem;
  product = h.product;
  oem_table = h.oem_table;
  oem_size = h.oem_size;
  local_address = h.local_address;
  reserved = reserved_of h.end;
  old = old_of h.end;
  base = bs;
  ext = es;
}

-- the line of a header: no entry has a part in it
abbrev pub header_text : HeaderLine → List ℕ
header_text h = header_line (table_with h [] [])

-- the fields of an extended entry fit, and an opaque one has a lawful type and at most 253 bytes
abbrev pub IsRightExt : Ext → Type 0
IsRightExt e = IsExtValue e × IsLawfulExt e

-- the text begins with the line of a right value, and the rest follows it
pub record BeginsWith {A : Type 0} (line : A → List ℕ) (Right : A → Type 0) (text : List ℕ) (a : A) (rest : List ℕ) : Type 0 where
  pub right : Right a
  pub whole : text ≡ line a ++ rest

-- it begins with the line of no right value
abbrev pub BeginsWithNone : {A : Type 0} → (A → List ℕ) → (A → Type 0) → List ℕ → Type 0
BeginsWithNone {A} line Right text = (a : A) (rest : List ℕ) → Right a → text ≢ line a ++ rest
