-- What a table has from byte 40 of its header on, by its revision.
use Rattle.std.proofs.Common.{◌≡◌, ◌≢◌, ℕ, ◌+◌, ◌≤◌, ◌⊎◌, List, [], ◌∷◌, ◌++◌, length, replicate, sym, refl, ap, ◌∙◌, subst, inl, inr, arith, append-nil}
use Rattle.std.specs.Prelude.{slice_index}
use Rattle.mpt_base.specs.Bytes.{number_at, part, SumsToZero}
use Rattle.mpt_base.specs.declared.fault.Reason.{Reason}
use Rattle.mpt_base.specs.declared.fault.Reason.TheVariants as why
use Rattle.mpt_spec.specs.declared.tables.Table.{Table}
use Rattle.mpt_spec.specs.Revision.{IsKnownRevision}
use Rattle.mpt_spec.specs.Extended.{AreExtEntries, IsExtFaultIn}
use Rattle.mpt_spec.specs.Table.{ext_length_at, revision_at, base_end, ext_end, IsConfigurationTable}
use Rattle.mpt_spec.specs.Faults.{HasTableFaultAt}
use Rattle.mpt_spec.specs.Canonical.{IsWellFormedTable}
use Rattle.mpt_spec.specs.Image.{table_bytes}
use Rattle.mpt_spec.specs.Values.{IsTableValue}
use Rattle.mpt_base.specs.Bytes.{IsByteList}
use Rattle.mpt_spec.proofs.RevisionLemmas.{by_revision-old, by_revision-new}
use Rattle.mpt_spec.proofs.EntryLemmas.{IsExtFaultIn-bounds}
use Rattle.mpt_spec.proofs.WellFormedLemmas.{no_ext_entries, IsConfigurationTable-well_formed}
use Rattle.mpt_spec.proofs.ValueLemmas.{IsConfigurationTable-value}
use Rattle.mpt_spec.proofs.WrittenTableLemmas.{IsConfigurationTable-written}
use Rattle.mpt_laws.specs.Laws.{HasEndOf1_4, HasEndOf1_1, IsOfExtPart}

-- a table is one of revision 4 or of revision 1
pub IsConfigurationTable-end : (t : Table) (image : List ℕ) (at : ℕ) → IsConfigurationTable t image at → HasEndOf1_4 t image at ⊎ HasEndOf1_1 t image at
IsConfigurationTable-end t image at c = by_case c.revision
  where
    by_case : IsKnownRevision t.revision → HasEndOf1_4 t image at ⊎ HasEndOf1_1 t image at
    by_case (inl one) =
        let there : revision_at image at ≡ 1 = sym c.header.revision ∙ one in
        let none : ext_length_at image at ≡ 0 = by_revision-old (revision_at image at) 0 (number_at 2 image (at + 40)) there in
        inr (record {
          revision = there;
          same = one;
          old = c.header.old ∙ by_revision-old (revision_at image at) (part image (at + 40) 4) (replicate 4 0) there;
          reserved = c.header.reserved ∙ by_revision-old (revision_at image at) 0 (slice_index image (at + 43)) there;
          entries = no_ext_entries t.ext image (base_end image at) (ext_end image at) c.ext (omega (arith, none));
        })
    by_case (inr four) =
        let there : revision_at image at ≡ 4 = sym c.header.revision ∙ four in
        let new : revision_at image at ≢ 1 = λ one. omega (arith, there, one) in
        let size : ext_length_at image at ≡ number_at 2 image (at + 40) = by_revision-new (revision_at image at) 0 (number_at 2 image (at + 40)) new in
        inl (record {
          revision = there;
          same = four;
          inside = subst (λ (n : ℕ). base_end image at + n ≤ length image) size c.inside.inside;
          checksum = subst (λ (n : ℕ). SumsToZero (slice_index image (at + 42) ∷ part image (base_end image at) n)) size (c.ext_checksum new);
          entries = subst (λ (n : ℕ). AreExtEntries t.ext image (base_end image at) (base_end image at + n)) size c.ext;
          reserved = c.header.reserved ∙ by_revision-new (revision_at image at) 0 (slice_index image (at + 43)) new;
          old = c.header.old ∙ by_revision-new (revision_at image at) (part image (at + 40) 4) (replicate 4 0) new;
        })

-- an extended part of no bytes has no fault
no_fault : (image : List ℕ) (at k : ℕ) (w : Reason) → IsExtFaultIn image (base_end image at) (ext_end image at) k w → revision_at image at ≢ 1
no_fault image at k w f one =
    let none : ext_length_at image at ≡ 0 = by_revision-old (revision_at image at) 0 (number_at 2 image (at + 40)) one in
    let bounds = IsExtFaultIn-bounds image (base_end image at) (ext_end image at) k w f in
    omega (arith, none, bounds.0, bounds.1)

-- a fault of the extended part stands at another revision than 1 alone
pub IsOfExtPart-new : (image : List ℕ) (at k : ℕ) (w : Reason) → IsOfExtPart w → HasTableFaultAt image at k w → revision_at image at ≢ 1
IsOfExtPart-new image at k why.ExtOutside i h =
    λ one. omega (arith, by_revision-old (revision_at image at) 0 (number_at 2 image (at + 40)) one, h.1.inside, h.2)
IsOfExtPart-new image at k why.BadExtSum i h = h.2
IsOfExtPart-new image at k why.BadExtType i h = no_fault image at k why.BadExtType h.1
IsOfExtPart-new image at k why.BadExtLength i h = no_fault image at k why.BadExtLength h.1
IsOfExtPart-new image at k why.CutExtEntry i h = no_fault image at k why.CutExtEntry h.1
IsOfExtPart-new image at k _ i h = absurd i

-- a table of revision 1 has its bytes 40 to 43 where it stands
old_there : (t : Table) (image : List ℕ) (at : ℕ) → IsConfigurationTable t image at → t.revision ≡ 1 → t.old ≡ part image (at + 40) 4
old_there t image at c one = c.header.old ∙ by_revision-old (revision_at image at) (part image (at + 40) 4) (replicate 4 0) (sym c.header.revision ∙ one)

-- and in the bytes that are written for it
pub table_bytes-old : (t : Table) → IsTableValue t → IsWellFormedTable t → t.revision ≡ 1 → part (table_bytes t) 40 4 ≡ t.old
table_bytes-old t v w one =
    let image : List ℕ = table_bytes t ++ [] in
    let c : IsConfigurationTable t image 0 = IsConfigurationTable-written t [] [] image 0 v w refl refl in
    ap (λ (xs : List ℕ). part xs 40 4) (sym (append-nil (table_bytes t))) ∙ sym (old_there t image 0 c one)

pub table_bytes-old_back : (t : Table) (image : List ℕ) (at : ℕ) → IsByteList image → IsConfigurationTable t image at → t.revision ≡ 1 → part (table_bytes t) 40 4 ≡ part image (at + 40) 4
table_bytes-old_back t image at b c one =
    table_bytes-old t (IsConfigurationTable-value t image at b c) (IsConfigurationTable-well_formed t image at b c) one ∙ old_there t image at c one
