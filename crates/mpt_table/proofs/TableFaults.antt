-- The faults of the table from left to right: once a row doesn't stand, no fault is before the next row.
use Rattle.std.proofs.Common.{◌≡◌, ℕ, ◌+◌, ◌≤◌, List, arith}
use Rattle.mpt_base.specs.declared.fault.Reason.{Reason}
use Rattle.mpt_base.specs.declared.fault.Reason.TheVariants as why
use Rattle.std.specs.Prelude.{codes}
use Rattle.mpt_base.specs.Bytes.{part}
use Rattle.mpt_spec.specs.Revision.{IsKnownRevision}
use Rattle.mpt_spec.specs.Table.{revision_at, base_end, ext_end, HasBaseInside, HasExtInside}
use Rattle.mpt_spec.specs.Entries.{IsBaseFaultIn}
use Rattle.mpt_spec.specs.Extended.{IsExtFaultIn}
use Rattle.mpt_spec.specs.Faults.{fault_order, HasTableFaultAt}
use Rattle.mpt_spec.proofs.FirstFaultLemmas.{HasTableFaultAt-offset, HasSoundHeader}
use Rattle.mpt_table.specs.Header.{HasRightHeader, HasRightCount, HasRightExtPart}

-- no fault of the table is before this one
abbrev pub NoneBefore : List ℕ → ℕ → ℕ → Reason → Type 0
NoneBefore image at k r = (j : ℕ) (other : Reason) → HasTableFaultAt image at j other → fault_order k r ≤ fault_order j other

pub none_before_signature : (image : List ℕ) (at : ℕ) → NoneBefore image at at why.BadSignature
none_before_signature image at j why.BadSignature h = omega arith
none_before_signature image at j other h = omega (arith, HasTableFaultAt-offset image at j other h)

pub none_before_revision : (image : List ℕ) (at : ℕ) → part image at 4 ≡ codes "PCMP" → HasBaseInside image at → NoneBefore image at (at + 6) why.BadRevision
none_before_revision image at signature inside j why.BadSignature h = absurd (h.1 signature)
none_before_revision image at signature inside j why.ShortLength h = absurd (omega arith)
none_before_revision image at signature inside j why.LengthOutside h = absurd (omega arith)
none_before_revision image at signature inside j other h = omega (arith, HasTableFaultAt-offset image at j other h)

pub none_before_checksum : (image : List ℕ) (at : ℕ) → part image at 4 ≡ codes "PCMP" → HasBaseInside image at → IsKnownRevision (revision_at image at) → NoneBefore image at (at + 7) why.BadSum
none_before_checksum image at signature inside revision j why.BadSignature h = absurd (h.1 signature)
none_before_checksum image at signature inside revision j why.ShortLength h = absurd (omega arith)
none_before_checksum image at signature inside revision j why.LengthOutside h = absurd (omega arith)
none_before_checksum image at signature inside revision j why.BadRevision h = absurd (h.1 revision)
none_before_checksum image at signature inside revision j other h = omega (arith, HasTableFaultAt-offset image at j other h)

pub none_before_count : (image : List ℕ) (at : ℕ) → HasRightHeader image at → NoneBefore image at (at + 34) why.BadCount
none_before_count image at right j why.BadSum h = absurd (h.2 right.checksum)
none_before_count image at right j other h = omega (arith, HasTableFaultAt-offset image at j other h, none_before_checksum image at right.signature right.inside right.revision j other h)

pub none_before_ext_outside : (image : List ℕ) (at : ℕ) → HasRightHeader image at → HasRightCount image at → NoneBefore image at (at + 40) why.ExtOutside
none_before_ext_outside image at right count j why.BadCount h = absurd (h.4 (count h.2 h.3))
none_before_ext_outside image at right count j other h = omega (arith, HasTableFaultAt-offset image at j other h, none_before_count image at right j other h)

pub none_before_ext_checksum : (image : List ℕ) (at : ℕ) → HasRightHeader image at → HasRightCount image at → HasExtInside image at → NoneBefore image at (at + 42) why.BadExtSum
none_before_ext_checksum image at right count inside j why.ExtOutside h = absurd (omega (arith, inside.inside))
none_before_ext_checksum image at right count inside j other h = omega (arith, HasTableFaultAt-offset image at j other h, none_before_ext_outside image at right count j other h)

-- what the reader has found right is a sound header
pub HasRightHeader-sound : (image : List ℕ) (at : ℕ) → HasRightHeader image at → HasRightExtPart image at → HasSoundHeader image at
HasRightHeader-sound image at right ext = record {
  signature = right.signature;
  inside = ext.inside;
  revision = right.revision;
  checksum = right.checksum;
  ext_checksum = ext.checksum;
}

-- a fault of the base entries is one of the table
pub stands_of_base_fault : (image : List ℕ) (at k : ℕ) (w : Reason) → HasBaseInside image at → IsBaseFaultIn image (at + 44) (base_end image at) k w → HasTableFaultAt image at k w
stands_of_base_fault image at k why.UnknownEntry inside f = (inside, f)
stands_of_base_fault image at k why.CutEntry inside f = (inside, f)
stands_of_base_fault image at k _ inside f = absurd f

-- a fault of the extended entries is one of the table
pub stands_of_ext_fault : (image : List ℕ) (at k : ℕ) (w : Reason) → HasExtInside image at → IsExtFaultIn image (base_end image at) (ext_end image at) k w → HasTableFaultAt image at k w
stands_of_ext_fault image at k why.BadExtType inside f = (inside, f)
stands_of_ext_fault image at k why.BadExtLength inside f = (inside, f)
stands_of_ext_fault image at k why.CutExtEntry inside f = (inside, f)
stands_of_ext_fault image at k _ inside f = absurd f
