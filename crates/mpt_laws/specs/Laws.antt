-- The words in which laws are said of the definitions. What works with tables cites the other files.
--     IsPlaceOf area place     a place of an area: a multiple of 16 inside it, with 16 bytes before its end
--     HasEndOf1_4, HasEndOf1_1 t image at      what a table of revision 4 and one of revision 1 has from byte 40 of the header on
--     IsDescribed image, HasFirstFault image   there are tables that it describes, there is a first fault
use Rattle.std.specs.Prelude.{◌≡◌, ℕ, ◌+◌, ◌%◌, ◌≤◌, List, [], ◌∷◌, length, replicate, slice_index, ⊤}
use Rattle.mpt_base.specs.Bytes.{number_at, part, SumsToZero}
use Rattle.mpt_base.specs.declared.fault.Reason.{Reason}
use Rattle.mpt_base.specs.declared.fault.Reason.TheVariants as why
use Rattle.mpt_spec.specs.declared.pointer.Area.{Area}
use Rattle.mpt_spec.specs.declared.tables.Tables.{Tables}
use Rattle.mpt_spec.specs.declared.tables.Table.{Table}
use Rattle.mpt_spec.specs.Extended.{AreExtEntries}
use Rattle.mpt_spec.specs.Table.{base_end, Describes}
use Rattle.mpt_spec.specs.Faults.{IsFirstFault}

-- a multiple of 16 inside the area that has 16 bytes before the area's end
pub record IsPlaceOf (area : Area) (place : ℕ) : Type 0 where
  pub boundary : place % 16 ≡ 0
  pub after_start : area.from ≤ place
  pub whole : place + 16 ≤ area.to

-- at revision 4 bytes 40 and 41 have the length of the extended part, which follows the base table and sums to zero with byte
-- 42, and byte 43 is kept
pub record HasEndOf1_4 (t : Table) (image : List ℕ) (at : ℕ) : Type 0 where
  pub revision : slice_index image (at + 6) ≡ 4
  pub same : t.revision ≡ 4
  pub inside : base_end image at + number_at 2 image (at + 40) ≤ length image
  pub checksum : SumsToZero (slice_index image (at + 42) ∷ part image (base_end image at) (number_at 2 image (at + 40)))
  pub entries : AreExtEntries t.ext image (base_end image at) (base_end image at + number_at 2 image (at + 40))
  pub reserved : t.reserved ≡ slice_index image (at + 43)
  pub old : t.old ≡ replicate 4 0

-- at revision 1 bytes 40 to 43 are kept, and there are no extended entries
pub record HasEndOf1_1 (t : Table) (image : List ℕ) (at : ℕ) : Type 0 where
  pub revision : slice_index image (at + 6) ≡ 1
  pub same : t.revision ≡ 1
  pub old : t.old ≡ part image (at + 40) 4
  pub reserved : t.reserved ≡ 0
  pub entries : t.ext ≡ []

-- the reasons that speak of the extended part
abbrev pub IsOfExtPart : Reason → Type 0
IsOfExtPart why.ExtOutside = ⊤
IsOfExtPart why.BadExtSum = ⊤
IsOfExtPart why.BadExtType = ⊤
IsOfExtPart why.BadExtLength = ⊤
IsOfExtPart why.CutExtEntry = ⊤
IsOfExtPart _ = ⊥

-- there are tables that the image describes
abbrev pub IsDescribed : List ℕ → Type 0
IsDescribed image = (tables : Tables) × Describes image tables

-- there is a first fault
abbrev pub HasFirstFault : List ℕ → Type 0
HasFirstFault image = (k : ℕ) × (why : Reason) × IsFirstFault image k why
