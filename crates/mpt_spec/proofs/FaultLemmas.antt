-- There is one first fault at most, and none where an image describes tables.
use Rattle.std.proofs.Common.{drop, ◌⊎◌, ◌≡◌, ℕ, ◌+◌, ◌*◌, ◌≤◌, ◌<◌, List, [], ◌∷◌, length, get_or, sym, refl, ap, ◌∙◌, subst, inl, inr, arith}
use Rattle.std.proofs.lemmas.List.{length-take, length-drop}
use Rattle.std.proofs.lemmas.Bool.{cases_lt}
use Rattle.mpt_base.specs.Bytes.{part}
use Rattle.mpt_base.specs.Reason.{reason_number}
use Rattle.mpt_base.specs.declared.fault.Reason.{Reason}
use Rattle.mpt_base.specs.declared.fault.Reason.TheVariants as why
use Rattle.mpt_spec.specs.declared.pointer.Pointer.{Pointer}
use Rattle.mpt_spec.specs.declared.tables.Table.{Table}
use Rattle.mpt_spec.specs.declared.tables.Body.{Body}
use Rattle.mpt_spec.specs.declared.tables.Body.TheVariants as body
use Rattle.mpt_spec.specs.declared.tables.Tables.{Tables}
use Rattle.mpt_spec.specs.Revision.{IsKnownRevision}
use Rattle.mpt_spec.specs.Search.{search_places, HasPointerAt}
use Rattle.mpt_spec.specs.Table.{base_end, ext_end, IsConfigurationTable, IsBodyOf, Describes}
use Rattle.mpt_spec.specs.Faults.{address_at, default_at, HasPointerFaultAt, HasTableFaultAt, HasNoPointerFault, HasFaultAt, fault_order, IsFirstFault}
use Rattle.mpt_spec.proofs.SearchLemmas.{IsFirst-unique}
use Rattle.mpt_spec.proofs.CallerLemmas.{HasPointerFieldsAt, IsFloatingPointer-fields}
use Rattle.mpt_spec.proofs.EntryLemmas.{AreBaseEntries-unique, IsBaseFaultIn-bounds, IsExtFaultIn-bounds, IsBaseFaultIn-no_entries, IsExtFaultIn-no_entries}

-- reasons by their numbers
reasons : List Reason
reasons =
    why.BadRevision ∷ why.BadRevision ∷ why.BadDefault ∷ why.NoTable ∷ why.TableOutside ∷ why.BadSignature ∷ why.ShortLength ∷ why.LengthOutside ∷ why.BadSum
    ∷ why.BadCount ∷ why.UnknownEntry ∷ why.CutEntry ∷ why.ExtOutside ∷ why.BadExtSum ∷ why.BadExtType ∷ why.BadExtLength ∷ why.CutExtEntry ∷ []

reason_of : ℕ → Reason
reason_of n = get_or reasons n why.BadRevision

-- a number is small, and is that of one reason
record IsNumbered (w : Reason) : Type 0 where
  small : reason_number w < 32
  back : reason_of (reason_number w) ≡ w

numbered : (w : Reason) → IsNumbered w
unfolding reason_of reasons
numbered why.BadRevision = record { small = omega arith; back = refl }
numbered why.BadDefault = record { small = omega arith; back = refl }
numbered why.NoTable = record { small = omega arith; back = refl }
numbered why.TableOutside = record { small = omega arith; back = refl }
numbered why.BadSignature = record { small = omega arith; back = refl }
numbered why.ShortLength = record { small = omega arith; back = refl }
numbered why.LengthOutside = record { small = omega arith; back = refl }
numbered why.BadSum = record { small = omega arith; back = refl }
numbered why.BadCount = record { small = omega arith; back = refl }
numbered why.UnknownEntry = record { small = omega arith; back = refl }
numbered why.CutEntry = record { small = omega arith; back = refl }
numbered why.ExtOutside = record { small = omega arith; back = refl }
numbered why.BadExtSum = record { small = omega arith; back = refl }
numbered why.BadExtType = record { small = omega arith; back = refl }
numbered why.BadExtLength = record { small = omega arith; back = refl }
numbered why.CutExtEntry = record { small = omega arith; back = refl }

pub reason_number-small : (w : Reason) → reason_number w < 32
reason_number-small w = (numbered w).small

-- the order tells offset and reason apart
same_fault : (k j m n : ℕ) → m < 32 → n < 32 → 32 * k + m ≤ 32 * j + n → 32 * j + n ≤ 32 * k + m → (k ≡ j) × (m ≡ n)
same_fault k j m n small other one two = (omega arith, omega arith)

pub fault_order-unique : (k j : ℕ) (w v : Reason) → fault_order k w ≤ fault_order j v → fault_order j v ≤ fault_order k w → (k ≡ j) × (w ≡ v)
fault_order-unique k j w v one two =
    let same : (k ≡ j) × (reason_number w ≡ reason_number v) = same_fault k j (reason_number w) (reason_number v) (numbered w).small (numbered v).small one two in
    (same.0, sym (numbered w).back ∙ ap reason_of same.1 ∙ (numbered v).back)

-- there is one first fault at most
pub IsFirstFault-unique : (image : List ℕ) (k j : ℕ) (w v : Reason) → IsFirstFault image k w → IsFirstFault image j v → (k ≡ j) × (w ≡ v)
IsFirstFault-unique image k j w v f g =
    let places : f.at ≡ g.at = IsFirst-unique (HasPointerAt image) (search_places image) f.at g.at f.first g.first in
    let other : HasFaultAt image g.at k w = subst (λ x. HasFaultAt image x k w) places f.fault.stands in
    let one : HasFaultAt image f.at j v = subst (λ x. HasFaultAt image x j v) (sym places) g.fault.stands in
    fault_order-unique k j w v (f.fault.least j v one) (g.fault.least k w other)

-- where a table stands, none of its faults does
table_stands : (t : Table) (image : List ℕ) (at k : ℕ) (w : Reason) → IsConfigurationTable t image at → HasTableFaultAt image at k w → ⊥
table_stands t image at k why.BadSignature c h = h.1 c.header.signature
table_stands t image at k why.ShortLength c h = omega (arith, c.inside.base.header, h.1)
table_stands t image at k why.LengthOutside c h = omega (arith, c.inside.base.inside, h.2)
table_stands t image at k why.BadRevision c h = h.1 (subst (λ (r : ℕ). IsKnownRevision r) c.header.revision c.revision)
table_stands t image at k why.BadSum c h = h.2 c.checksum
table_stands t image at k why.BadCount c h =
    let same : h.2 ≡ t.base = AreBaseEntries-unique h.2 t.base image (at + 44) (base_end image at) h.3 c.base in
    h.4 (ap length same ∙ c.count)
table_stands t image at k why.ExtOutside c h = omega (arith, c.inside.inside, h.2)
table_stands t image at k why.BadExtSum c h = h.3 (c.ext_checksum h.2)
table_stands t image at k why.UnknownEntry c h = IsBaseFaultIn-no_entries t.base image (at + 44) (base_end image at) k why.UnknownEntry h.1 c.base
table_stands t image at k why.CutEntry c h = IsBaseFaultIn-no_entries t.base image (at + 44) (base_end image at) k why.CutEntry h.1 c.base
table_stands t image at k why.BadExtType c h = IsExtFaultIn-no_entries t.ext image (base_end image at) (ext_end image at) k why.BadExtType h.1 c.ext
table_stands t image at k why.BadExtLength c h = IsExtFaultIn-no_entries t.ext image (base_end image at) (ext_end image at) k why.BadExtLength h.1 c.ext
table_stands t image at k why.CutExtEntry c h = IsExtFaultIn-no_entries t.ext image (base_end image at) (ext_end image at) k why.CutExtEntry h.1 c.ext
table_stands t image at k _ c h = h

-- where a floating pointer of a known revision names a body, no fault of the pointer stands
pointer_stands : (b : Body) (p : Pointer) (image : List ℕ) (at k : ℕ) (w : Reason) → HasPointerFieldsAt p image at → IsKnownRevision p.revision → IsBodyOf b p image → HasPointerFaultAt image at k w → ⊥
pointer_stands (body.Default n) p image at k why.NoTable f r b h = omega (arith, f.default, b.0, b.1, h.1)
pointer_stands (body.Listed t) p image at k why.NoTable f r b h = b.1 (f.address ∙ h.2)
pointer_stands (body.Default n) p image at k why.TableOutside f r b h = omega (arith, f.default, b.0, b.1, h.1)
pointer_stands (body.Listed t) p image at k why.TableOutside f r b h = omega (arith, f.address, b.2.inside.base.header, b.2.inside.base.inside, h.3)
pointer_stands b p image at k why.BadRevision f r c h = h.1 (subst (λ (n : ℕ). IsKnownRevision n) f.revision r)
pointer_stands (body.Default n) p image at k why.BadDefault f r b h = omega (arith, f.default, b.0, b.2, h.1)
pointer_stands (body.Listed t) p image at k why.BadDefault f r b h = omega (arith, f.default, b.0, h.1)
pointer_stands b p image at k _ f r c h = h

-- where it names a body, no fault of the table at its address stands
body_stands : (b : Body) (p : Pointer) (image : List ℕ) (at k : ℕ) (w : Reason) → HasPointerFieldsAt p image at → IsBodyOf b p image → default_at image at ≡ 0 → HasTableFaultAt image (address_at image at) k w → ⊥
body_stands (body.Default n) p image at k w f b zero_there h = omega (arith, f.default, b.0, b.1)
body_stands (body.Listed t) p image at k w f b zero_there h = table_stands t image p.address k w b.2 (subst (λ x. HasTableFaultAt image x k w) (sym f.address) h)

-- where an image describes tables, no fault stands
pub Describes-no_fault : (image : List ℕ) (t : Tables) (k : ℕ) (w : Reason) → Describes image t → HasFaultAt image t.at k w → ⊥
Describes-no_fault image t k w d (inl h) =
    pointer_stands t.body t.pointer image t.at k w (IsFloatingPointer-fields t.pointer image t.at d.tables_there.pointer) d.tables_there.revision d.tables_there.body h
Describes-no_fault image t k w d (inr h) =
    body_stands t.body t.pointer image t.at k w (IsFloatingPointer-fields t.pointer image t.at d.tables_there.pointer) d.tables_there.body h.1 h.2

pub Describes-no_first_fault : (image : List ℕ) (t : Tables) (k : ℕ) (w : Reason) → Describes image t → IsFirstFault image k w → ⊥
Describes-no_first_fault image t k w d f =
    let places : f.at ≡ t.at = IsFirst-unique (HasPointerAt image) (search_places image) f.at t.at f.first d.first in
    Describes-no_fault image t k w d (subst (λ x. HasFaultAt image x k w) places f.fault.stands)

-- a fault of the table lies in the image, where the header does
pub table_fault_inside : (image : List ℕ) (at k : ℕ) (w : Reason) → at + 44 ≤ length image → HasTableFaultAt image at k w → k < length image
table_fault_inside image at k why.BadSignature i h = omega (arith, h.0)
table_fault_inside image at k why.ShortLength i h = omega (arith, h.0)
table_fault_inside image at k why.LengthOutside i h = omega (arith, h.0)
table_fault_inside image at k why.BadRevision i h = omega (arith, h.0)
table_fault_inside image at k why.BadSum i h = omega (arith, h.0)
table_fault_inside image at k why.BadCount i h = omega (arith, h.0)
table_fault_inside image at k why.ExtOutside i h = omega (arith, h.0)
table_fault_inside image at k why.BadExtSum i h = omega (arith, h.0)
table_fault_inside image at k why.UnknownEntry i h = omega (arith, (IsBaseFaultIn-bounds image (at + 44) (base_end image at) k why.UnknownEntry h.1).1, h.0.inside)
table_fault_inside image at k why.CutEntry i h = omega (arith, (IsBaseFaultIn-bounds image (at + 44) (base_end image at) k why.CutEntry h.1).1, h.0.inside)
table_fault_inside image at k why.BadExtType i h = omega (arith, (IsExtFaultIn-bounds image (base_end image at) (ext_end image at) k why.BadExtType h.1).1, h.0.inside)
table_fault_inside image at k why.BadExtLength i h = omega (arith, (IsExtFaultIn-bounds image (base_end image at) (ext_end image at) k why.BadExtLength h.1).1, h.0.inside)
table_fault_inside image at k why.CutExtEntry i h = omega (arith, (IsExtFaultIn-bounds image (base_end image at) (ext_end image at) k why.CutExtEntry h.1).1, h.0.inside)
table_fault_inside image at k _ i h = absurd h

pointer_fault_inside : (image : List ℕ) (at k : ℕ) (w : Reason) → at + 16 ≤ length image → HasPointerFaultAt image at k w → k < length image
pointer_fault_inside image at k why.NoTable i h = omega (arith, h.0)
pointer_fault_inside image at k why.TableOutside i h = omega (arith, h.0)
pointer_fault_inside image at k why.BadRevision i h = omega (arith, h.0)
pointer_fault_inside image at k why.BadDefault i h = omega (arith, h.0)
pointer_fault_inside image at k _ i h = absurd h

-- where no fault of the pointer stands, the header of its table lies in the image
header_inside : (image : List ℕ) (at : ℕ) → HasNoPointerFault image at → default_at image at ≡ 0 → address_at image at + 44 ≤ length image
header_inside image at none listed = by_size (cases_lt (length image) (address_at image at + 44))
  where
    by_size : (length image < address_at image at + 44) ⊎ (address_at image at + 44 ≤ length image) → address_at image at + 44 ≤ length image
    by_size (inl outside) = absurd (none (at + 4) why.TableOutside (refl, listed, λ e. none (at + 4) why.NoTable (refl, listed, e), outside))
    by_size (inr inside) = inside

-- the first fault lies in the image
pub IsFirstFault-inside : (image : List ℕ) (k : ℕ) (w : Reason) → IsFirstFault image k w → k < length image
IsFirstFault-inside image k w f = by_side f.fault.stands
  where
    by_side : HasFaultAt image f.at k w → k < length image
    by_side (inl h) =
        let size : length (part image f.at 16) ≡ 16 = f.first.holds.1.size in
        pointer_fault_inside image f.at k w (omega (arith, size, length-take 16 (drop f.at image), length-drop f.at image)) h
    by_side (inr h) = table_fault_inside image (address_at image f.at) k w (header_inside image f.at h.0 h.1) h.2
