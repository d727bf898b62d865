-- The faults of the floating pointer from left to right: once a row doesn't stand, no fault is before the next row. They are
-- those of the image in which it stands.
use Rattle.std.proofs.Common.{◌≡◌, ◌≢◌, ℕ, ◌+◌, ◌≤◌, ◌<◌, List, length, sym, ◌∙◌, subst, arith}
use Rattle.mpt_base.specs.Bytes.{part}
use Rattle.mpt_spec.specs.declared.pointer.Pointer.{Pointer}
use Rattle.mpt_spec.specs.Pointer.{IsFloatingPointer}
use Rattle.mpt_spec.specs.Revision.{IsKnownRevision}
use Rattle.mpt_spec.specs.Table.{default_number}
use Rattle.mpt_spec.proofs.CallerLemmas.{IsFloatingPointer-fields}
use Rattle.mpt_table.specs.Header.{HasRightPointer, IsPointerFault}
use Rattle.mpt_base.specs.declared.fault.Reason.{Reason}
use Rattle.mpt_base.specs.declared.fault.Reason.TheVariants as why
use Rattle.mpt_spec.specs.Faults.{fault_order, HasPointerFaultAt, HasNoPointerFault, IsLeastFault}

-- no fault of the floating pointer is before this one
abbrev pub NoneBefore : Pointer → ℕ → ℕ → ℕ → Reason → Type 0
NoneBefore p size at k r = (j : ℕ) (other : Reason) → IsPointerFault p size at j other → fault_order k r ≤ fault_order j other

pub none_before_no_table : (p : Pointer) (size at : ℕ) → NoneBefore p size at (at + 4) why.NoTable
none_before_no_table p size at j why.NoTable h = omega arith
none_before_no_table p size at j why.TableOutside h = omega arith
none_before_no_table p size at j why.BadRevision h = omega arith
none_before_no_table p size at j why.BadDefault h = omega arith
none_before_no_table p size at j _ h = absurd h

-- there is a default configuration or an address
abbrev pub HasBody : Pointer → Type 0
HasBody p = default_number p ≡ 0 → p.address ≢ 0

pub none_before_table_outside : (p : Pointer) (size at : ℕ) → HasBody p → NoneBefore p size at (at + 4) why.TableOutside
none_before_table_outside p size at some j why.NoTable h = absurd (some h.1 h.2)
none_before_table_outside p size at some j why.TableOutside h = omega arith
none_before_table_outside p size at some j why.BadRevision h = omega arith
none_before_table_outside p size at some j why.BadDefault h = omega arith
none_before_table_outside p size at some j _ h = absurd h

-- where there is no default configuration, the header of the table lies inside
abbrev pub HasHeaderInside : Pointer → ℕ → Type 0
HasHeaderInside p size = default_number p ≡ 0 → p.address + 44 ≤ size

pub none_before_revision : (p : Pointer) (size at : ℕ) → HasBody p → HasHeaderInside p size → NoneBefore p size at (at + 9) why.BadRevision
none_before_revision p size at some inside j why.NoTable h = absurd (some h.1 h.2)
none_before_revision p size at some inside j why.TableOutside h = absurd (omega (arith, inside h.1, h.3))
none_before_revision p size at some inside j why.BadRevision h = omega arith
none_before_revision p size at some inside j why.BadDefault h = omega arith
none_before_revision p size at some inside j _ h = absurd h

pub none_before_default : (p : Pointer) (size at : ℕ) → HasBody p → HasHeaderInside p size → IsKnownRevision p.revision → NoneBefore p size at (at + 11) why.BadDefault
none_before_default p size at some inside revision j why.NoTable h = absurd (some h.1 h.2)
none_before_default p size at some inside revision j why.TableOutside h = absurd (omega (arith, inside h.1, h.3))
none_before_default p size at some inside revision j why.BadRevision h = absurd (h.1 revision)
none_before_default p size at some inside revision j why.BadDefault h = omega arith
none_before_default p size at some inside revision j _ h = absurd h

-- where the floating pointer is right, it has no fault
pub HasRightPointer-none : (p : Pointer) (size at j : ℕ) (w : Reason) → HasRightPointer p size → ¬ IsPointerFault p size at j w
HasRightPointer-none p size at j why.NoTable right h = right.body h.1 h.2
HasRightPointer-none p size at j why.TableOutside right h = absurd (omega (arith, right.inside h.1, h.3))
HasRightPointer-none p size at j why.BadRevision right h = h.1 right.revision
HasRightPointer-none p size at j why.BadDefault right h = absurd (omega (arith, right.low, h.1))
HasRightPointer-none p size at j _ right h = h

-- a fault of the floating pointer lies in its sixteen bytes
pub IsPointerFault-near : (p : Pointer) (size at k : ℕ) (w : Reason) → IsPointerFault p size at k w → k < at + 16
IsPointerFault-near p size at k why.NoTable h = omega (arith, h.0)
IsPointerFault-near p size at k why.TableOutside h = omega (arith, h.0)
IsPointerFault-near p size at k why.BadRevision h = omega (arith, h.0)
IsPointerFault-near p size at k why.BadDefault h = omega (arith, h.0)
IsPointerFault-near p size at k _ h = absurd h

-- the faults are those of the image in which the floating pointer stands
pub IsPointerFault-in : (p : Pointer) (image : List ℕ) (at k : ℕ) (w : Reason) → IsFloatingPointer p (part image at 16) → IsPointerFault p (length image) at k w → HasPointerFaultAt image at k w
IsPointerFault-in p image at k why.NoTable there h =
    let f = IsFloatingPointer-fields p image at there in (h.0, sym f.default ∙ h.1, sym f.address ∙ h.2)
IsPointerFault-in p image at k why.TableOutside there h =
    let f = IsFloatingPointer-fields p image at there in (h.0, sym f.default ∙ h.1, λ e. h.2 (f.address ∙ e), omega (arith, f.address, h.3))
IsPointerFault-in p image at k why.BadRevision there h =
    let f = IsFloatingPointer-fields p image at there in (h.0, λ known. h.1 (subst (λ (r : ℕ). IsKnownRevision r) (sym f.revision) known))
IsPointerFault-in p image at k why.BadDefault there h =
    let f = IsFloatingPointer-fields p image at there in (h.0, omega (arith, f.default, h.1))
IsPointerFault-in p image at k _ there h = absurd h

pub IsPointerFault-of : (p : Pointer) (image : List ℕ) (at k : ℕ) (w : Reason) → IsFloatingPointer p (part image at 16) → HasPointerFaultAt image at k w → IsPointerFault p (length image) at k w
IsPointerFault-of p image at k why.NoTable there h =
    let f = IsFloatingPointer-fields p image at there in (h.0, f.default ∙ h.1, f.address ∙ h.2)
IsPointerFault-of p image at k why.TableOutside there h =
    let f = IsFloatingPointer-fields p image at there in (h.0, f.default ∙ h.1, λ e. h.2 (sym f.address ∙ e), omega (arith, f.address, h.3))
IsPointerFault-of p image at k why.BadRevision there h =
    let f = IsFloatingPointer-fields p image at there in (h.0, λ known. h.1 (subst (λ (r : ℕ). IsKnownRevision r) f.revision known))
IsPointerFault-of p image at k why.BadDefault there h =
    let f = IsFloatingPointer-fields p image at there in (h.0, omega (arith, f.default, h.1))
IsPointerFault-of p image at k _ there h = absurd h

-- the first fault of the floating pointer is the first of those in the image
pub IsPointerFault-first : (p : Pointer) (image : List ℕ) (at k : ℕ) (w : Reason) → IsFloatingPointer p (part image at 16) → IsLeastFault (IsPointerFault p (length image) at) k w → IsLeastFault (HasPointerFaultAt image at) k w
IsPointerFault-first p image at k w there h = record {
  stands = IsPointerFault-in p image at k w there h.stands;
  least = λ j other g. h.least j other (IsPointerFault-of p image at j other there g);
}

-- where the floating pointer is right, no fault of it stands
pub HasRightPointer-no_fault : (p : Pointer) (image : List ℕ) (at : ℕ) → IsFloatingPointer p (part image at 16) → HasRightPointer p (length image) → HasNoPointerFault image at
HasRightPointer-no_fault p image at there right j w h = HasRightPointer-none p (length image) at j w right (IsPointerFault-of p image at j w there h)
