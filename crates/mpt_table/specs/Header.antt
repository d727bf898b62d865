-- What the reader has found right so far. Only private functions of the crate cite it.
use Rattle.std.specs.Prelude.{◌≡◌, ◌≢◌, ℕ, ◌+◌, ◌≤◌, ◌<◌, List, length, codes}
use Rattle.mpt_base.specs.Bytes.{part}
use Rattle.mpt_base.specs.declared.fault.Reason.{Reason}
use Rattle.mpt_base.specs.declared.fault.Reason.TheVariants as why
use Rattle.mpt_spec.specs.declared.pointer.Pointer.{Pointer}
use Rattle.mpt_spec.specs.declared.entry.Base.{Base}
use Rattle.mpt_spec.specs.Entries.{AreBaseEntries}
use Rattle.mpt_spec.specs.Revision.{IsKnownRevision}
use Rattle.mpt_spec.specs.Table.{count_at, revision_at, base_end, HasBaseInside, HasExtInside, HasChecksum, HasExtChecksum, default_number}

-- the floating pointer is right in an image of this size: it names a default configuration from 1 to 7, or a table whose header lies inside
pub record HasRightPointer (p : Pointer) (size : ℕ) : Type 0 where
  pub body : default_number p ≡ 0 → p.address ≢ 0
  pub inside : default_number p ≡ 0 → p.address + 44 ≤ size
  pub revision : IsKnownRevision p.revision
  pub low : default_number p ≤ 7

-- a fault of the floating pointer that stands at a place of an image of this size: it rests on nothing else
abbrev pub IsPointerFault : Pointer → ℕ → ℕ → ℕ → Reason → Type 0
IsPointerFault p size at k why.NoTable = (k ≡ at + 4) × (default_number p ≡ 0) × (p.address ≡ 0)
IsPointerFault p size at k why.TableOutside = (k ≡ at + 4) × (default_number p ≡ 0) × (p.address ≢ 0) × (size < p.address + 44)
IsPointerFault p size at k why.BadRevision = (k ≡ at + 9) × (¬ IsKnownRevision p.revision)
IsPointerFault p size at k why.BadDefault = (k ≡ at + 11) × (7 < default_number p)
IsPointerFault p size at k _ = ⊥

-- the header is right up to the checksum: signature, base length, revision and the sum of the base table
pub record HasRightHeader (image : List ℕ) (at : ℕ) : Type 0 where
  pub signature : part image at 4 ≡ codes "PCMP"
  pub inside : HasBaseInside image at
  pub revision : IsKnownRevision (revision_at image at)
  pub checksum : HasChecksum image at

-- the extended part, which revision 1 hasn't, lies inside and has a right checksum
pub record HasRightExtPart (image : List ℕ) (at : ℕ) : Type 0 where
  pub inside : HasExtInside image at
  pub checksum : HasExtChecksum image at

-- base entries that fill the base table are as many as the count says
abbrev pub HasRightCount : List ℕ → ℕ → Type 0
HasRightCount image at = (es : List Base) → AreBaseEntries es image (at + 44) (base_end image at) → length es ≡ count_at image at
