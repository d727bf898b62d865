-- Every image of bytes has no floating pointer, describes tables, or has a first fault.
use Rattle.std.proofs.Common.{◌≡◌, ◌≢◌, ℕ, ◌+◌, ◌%◌, ◌<◌, ◌≤◌, ◌⊎◌, List, [], ◌∷◌, length, sum, sym, refl, ap, ◌∙◌, subst, inl, inr, arith}
use Rattle.std.specs.Prelude.{slice_index, codes}
use Rattle.std.proofs.lemmas.Bool.{cases_lt}
use Rattle.mpt_base.specs.Bytes.{part, number_at, SumsToZero}
use Rattle.mpt_base.specs.declared.fault.Reason.{Reason}
use Rattle.mpt_base.specs.declared.fault.Reason.TheVariants as why
use Rattle.mpt_spec.specs.declared.pointer.Pointer.{Pointer}
use Rattle.mpt_spec.specs.declared.entry.Base.{Base}
use Rattle.mpt_spec.specs.declared.entry.Ext.{Ext}
use Rattle.mpt_spec.specs.declared.tables.Table.{Table}
use Rattle.mpt_spec.specs.declared.tables.Body.TheVariants as body
use Rattle.mpt_spec.specs.Pointer.{IsFloatingPointer}
use Rattle.mpt_spec.specs.Search.{search_places, HasPointerAt, IsFirst, HoldsAtNone, IsFirstPointerAt, HasNoPointer}
use Rattle.mpt_spec.specs.Entries.{AreBaseEntries, IsBaseFaultIn}
use Rattle.mpt_spec.specs.Extended.{AreExtEntries, IsExtFaultIn}
use Rattle.mpt_spec.specs.Revision.{IsKnownRevision}
use Rattle.mpt_spec.specs.Table.{default_number, base_length_at, ext_length_at, count_at, revision_at, reserved_at, old_at, base_end, ext_end, HasBaseInside, HasExtInside, HasChecksum, SumsWithExtChecksum, IsConfigurationTable}
use Rattle.mpt_spec.specs.Faults.{address_at, default_at, HasPointerFaultAt, HasBadCountAt, HasTableFaultAt, fault_order, IsLeastFault}
use Rattle.mpt_laws.specs.Laws.{IsDescribed, HasFirstFault}
use Rattle.mpt_spec.proofs.EntryLemmas.{AreBaseEntries-unique, IsBaseFaultIn-no_entries}
use Rattle.mpt_laws.proofs.EntryJudgment.{Decided, decided-eq, decided-list, AreJudgedBase, AreJudgedExt, AreBaseEntries-judged, AreExtEntries-judged}
use Rattle.mpt_laws.proofs.Decisions.{either}
use Rattle.mpt_spec.proofs.CallerLemmas.{HasPointerFieldsAt, IsFloatingPointer-fields}
use Rattle.mpt_spec.proofs.FirstFaultLemmas.{HasTableFaultAt-offset, HasSoundHeader, IsBaseFaultIn-first, IsExtFaultIn-first, IsFirstFault-of_table, IsFirstFault-of_pointer}

-- a revision is known or isn't
known_decided : (r : ℕ) → Decided (IsKnownRevision r)
known_decided r = either (decided-eq r 1) (decided-eq r 4)

-- a place has a floating pointer or has none
pointer_decided : (bytes : List ℕ) → Decided ((p : Pointer) × IsFloatingPointer p bytes)
pointer_decided bytes = by_parts (decided-eq (length bytes) 16) (decided-list (part bytes 0 4) (codes "_MP_")) (decided-eq (slice_index bytes 8) 1) (decided-eq (sum bytes % 256) 0)
  where
    by_parts : Decided (length bytes ≡ 16) → Decided (part bytes 0 4 ≡ codes "_MP_") → Decided (slice_index bytes 8 ≡ 1) → Decided (SumsToZero bytes) → Decided ((p : Pointer) × IsFloatingPointer p bytes)
    by_parts (inl size) (inl signature) (inl paragraphs) (inl checksum) =
        inl (
          record { address = number_at 4 bytes 4; revision = slice_index bytes 9; features = part bytes 11 5 },
          record { size = size; signature = signature; address = refl; paragraphs = paragraphs; revision = refl; features = refl; checksum = checksum },
        )
    by_parts (inr n) _ _ _ = inr (λ h. n h.1.size)
    by_parts (inl _) (inr n) _ _ = inr (λ h. n h.1.signature)
    by_parts (inl _) (inl _) (inr n) _ = inr (λ h. n h.1.paragraphs)
    by_parts (inl _) (inl _) (inl _) (inr n) = inr (λ h. n h.1.checksum)

-- a list has a first member at which a decided fact holds, or has none
first_decided : (P : ℕ → Type 0) → ((x : ℕ) → Decided (P x)) → (xs : List ℕ) → HoldsAtNone P xs ⊎ ((x : ℕ) × IsFirst P xs x)
first_decided P d [] = inl tt
first_decided P d (x ∷ xs) = by_head (d x) (first_decided P d xs)
  where
    by_head : Decided (P x) → HoldsAtNone P xs ⊎ ((y : ℕ) × IsFirst P xs y) → HoldsAtNone P (x ∷ xs) ⊎ ((y : ℕ) × IsFirst P (x ∷ xs) y)
    by_head (inl p) _ = inr (x, record { before = []; after = xs; split = refl; none_before = tt; holds = p })
    by_head (inr n) (inl none) = inl (n, none)
    by_head (inr n) (inr f) = inr (f.0, record { before = x ∷ f.1.before; after = f.1.after; split = ap (λ ys. x ∷ ys) f.1.split; none_before = (n, f.1.none_before); holds = f.1.holds })

-- there is a least of these faults
abbrev HasLeast : (ℕ → Reason → Type 0) → Type 0
HasLeast Stands = (k : ℕ) × (reason : Reason) × IsLeastFault Stands k reason

no_table_least : (image : List ℕ) (at j : ℕ) (v : Reason) → HasPointerFaultAt image at j v → fault_order (at + 4) why.NoTable ≤ fault_order j v
no_table_least image at j why.NoTable h = omega (arith, h.0)
no_table_least image at j why.TableOutside h = omega (arith, h.0)
no_table_least image at j why.BadRevision h = omega (arith, h.0)
no_table_least image at j why.BadDefault h = omega (arith, h.0)
no_table_least image at j _ h = absurd h

table_outside_least : (image : List ℕ) (at j : ℕ) (v : Reason) → address_at image at ≢ 0 → HasPointerFaultAt image at j v → fault_order (at + 4) why.TableOutside ≤ fault_order j v
table_outside_least image at j why.NoTable n h = absurd (n h.2)
table_outside_least image at j why.TableOutside n h = omega (arith, h.0)
table_outside_least image at j why.BadRevision n h = omega (arith, h.0)
table_outside_least image at j why.BadDefault n h = omega (arith, h.0)
table_outside_least image at j _ n h = absurd h

-- where feature byte 1 is 0 there is an address with room for a header
IsNamedInside : List ℕ → ℕ → Type 0
IsNamedInside image at = default_at image at ≡ 0 → (address_at image at ≢ 0) × (address_at image at + 44 ≤ length image)

revision_least : (image : List ℕ) (at j : ℕ) (v : Reason) → IsNamedInside image at → HasPointerFaultAt image at j v → fault_order (at + 9) why.BadRevision ≤ fault_order j v
unfolding IsNamedInside
revision_least image at j why.NoTable i h = absurd ((i h.1).0 h.2)
revision_least image at j why.TableOutside i h = absurd (omega (arith, (i h.1).1, h.3))
revision_least image at j why.BadRevision i h = omega (arith, h.0)
revision_least image at j why.BadDefault i h = omega (arith, h.0)
revision_least image at j _ i h = absurd h

default_least : (image : List ℕ) (at j : ℕ) (v : Reason) → IsNamedInside image at → IsKnownRevision (slice_index image (at + 9)) → HasPointerFaultAt image at j v → fault_order (at + 11) why.BadDefault ≤ fault_order j v
unfolding IsNamedInside
default_least image at j why.NoTable i r h = absurd ((i h.1).0 h.2)
default_least image at j why.TableOutside i r h = absurd (omega (arith, (i h.1).1, h.3))
default_least image at j why.BadRevision i r h = absurd (h.1 r)
default_least image at j why.BadDefault i r h = omega (arith, h.0)
default_least image at j _ i r h = absurd h

no_pointer_fault : (image : List ℕ) (at k : ℕ) (v : Reason) → IsNamedInside image at → IsKnownRevision (slice_index image (at + 9)) → default_at image at ≤ 7 → HasPointerFaultAt image at k v → ⊥
unfolding IsNamedInside
no_pointer_fault image at k why.NoTable i r d h = (i h.1).0 h.2
no_pointer_fault image at k why.TableOutside i r d h = omega (arith, (i h.1).1, h.3)
no_pointer_fault image at k why.BadRevision i r d h = h.1 r
no_pointer_fault image at k why.BadDefault i r d h = omega (arith, d, h.1)
no_pointer_fault image at k _ i r d h = h

-- the fields of a floating pointer without a fault
record IsSoundPointer (image : List ℕ) (at : ℕ) : Type 0 where
  named : IsNamedInside image at
  revision : IsKnownRevision (slice_index image (at + 9))
  default : default_at image at ≤ 7

pointer_judged : (image : List ℕ) (at : ℕ) → HasLeast (HasPointerFaultAt image at) ⊎ IsSoundPointer image at
unfolding IsNamedInside
pointer_judged image at = by_default (decided-eq (default_at image at) 0)
  where
    by_rest : IsNamedInside image at → Decided (IsKnownRevision (slice_index image (at + 9))) → (7 < default_at image at) ⊎ (default_at image at ≤ 7) → HasLeast (HasPointerFaultAt image at) ⊎ IsSoundPointer image at
    by_rest i (inr n) _ = inl ((at + 9, why.BadRevision, record { stands = (refl, n); least = λ j v h. revision_least image at j v i h }))
    by_rest i (inl r) (inl d) = inl ((at + 11, why.BadDefault, record { stands = (refl, d); least = λ j v h. default_least image at j v i r h }))
    by_rest i (inl r) (inr d) = inr (record { named = i; revision = r; default = d })

    by_room : default_at image at ≡ 0 → address_at image at ≢ 0 → (length image < address_at image at + 44) ⊎ (address_at image at + 44 ≤ length image) → HasLeast (HasPointerFaultAt image at) ⊎ IsSoundPointer image at
    by_room z n (inl out) = inl ((at + 4, why.TableOutside, record { stands = (refl, z, n, out); least = λ j v h. table_outside_least image at j v n h }))
    by_room z n (inr inside) = by_rest (λ e. (n, inside)) (known_decided (slice_index image (at + 9))) (cases_lt 7 (default_at image at))

    by_address : default_at image at ≡ 0 → Decided (address_at image at ≡ 0) → HasLeast (HasPointerFaultAt image at) ⊎ IsSoundPointer image at
    by_address z (inl e) = inl ((at + 4, why.NoTable, record { stands = (refl, z, e); least = λ j v h. no_table_least image at j v h }))
    by_address z (inr n) = by_room z n (cases_lt (length image) (address_at image at + 44))

    by_default : Decided (default_at image at ≡ 0) → HasLeast (HasPointerFaultAt image at) ⊎ IsSoundPointer image at
    by_default (inl z) = by_address z (decided-eq (address_at image at) 0)
    by_default (inr n) = by_rest (λ e. absurd (n e)) (known_decided (slice_index image (at + 9))) (cases_lt 7 (default_at image at))

-- the rows of the table before which nothing is refused
signature_least : (image : List ℕ) (at j : ℕ) (v : Reason) → HasTableFaultAt image at j v → fault_order at why.BadSignature ≤ fault_order j v
signature_least image at j why.BadSignature h = omega (arith, h.0)
signature_least image at j v h = omega (arith, HasTableFaultAt-offset image at j v h)

short_least : (image : List ℕ) (at j : ℕ) (v : Reason) → part image at 4 ≡ codes "PCMP" → HasTableFaultAt image at j v → fault_order (at + 4) why.ShortLength ≤ fault_order j v
short_least image at j why.BadSignature s h = absurd (h.1 s)
short_least image at j v s h = omega (arith, HasTableFaultAt-offset image at j v h)

outside_least : (image : List ℕ) (at j : ℕ) (v : Reason) → part image at 4 ≡ codes "PCMP" → 44 ≤ base_length_at image at → HasTableFaultAt image at j v → fault_order (at + 4) why.LengthOutside ≤ fault_order j v
outside_least image at j why.BadSignature s b h = absurd (h.1 s)
outside_least image at j why.ShortLength s b h = absurd (omega (arith, b, h.1))
outside_least image at j v s b h = omega (arith, HasTableFaultAt-offset image at j v h)

header_revision_least : (image : List ℕ) (at j : ℕ) (v : Reason) → part image at 4 ≡ codes "PCMP" → HasBaseInside image at → HasTableFaultAt image at j v → fault_order (at + 6) why.BadRevision ≤ fault_order j v
header_revision_least image at j why.BadSignature s b h = absurd (h.1 s)
header_revision_least image at j why.ShortLength s b h = absurd (omega (arith, b.header, h.1))
header_revision_least image at j why.LengthOutside s b h = absurd (omega (arith, b.inside, h.2))
header_revision_least image at j v s b h = omega (arith, HasTableFaultAt-offset image at j v h)

-- what the rows up to the revision leave
record PassesRevision (image : List ℕ) (at : ℕ) : Type 0 where
  signature : part image at 4 ≡ codes "PCMP"
  inside : HasBaseInside image at
  revision : IsKnownRevision (revision_at image at)

sum_least : (image : List ℕ) (at j : ℕ) (v : Reason) → PassesRevision image at → HasTableFaultAt image at j v → fault_order (at + 7) why.BadSum ≤ fault_order j v
sum_least image at j why.BadSignature p h = absurd (h.1 p.signature)
sum_least image at j why.ShortLength p h = absurd (omega (arith, p.inside.header, h.1))
sum_least image at j why.LengthOutside p h = absurd (omega (arith, p.inside.inside, h.2))
sum_least image at j why.BadRevision p h = absurd (h.1 p.revision)
sum_least image at j v p h = omega (arith, HasTableFaultAt-offset image at j v h)

count_least : (image : List ℕ) (at j : ℕ) (v : Reason) → PassesRevision image at → HasChecksum image at → HasTableFaultAt image at j v → fault_order (at + 34) why.BadCount ≤ fault_order j v
count_least image at j why.BadSignature p c h = absurd (h.1 p.signature)
count_least image at j why.ShortLength p c h = absurd (omega (arith, p.inside.header, h.1))
count_least image at j why.LengthOutside p c h = absurd (omega (arith, p.inside.inside, h.2))
count_least image at j why.BadRevision p c h = absurd (h.1 p.revision)
count_least image at j why.BadSum p c h = absurd (h.2 c)
count_least image at j v p c h = omega (arith, HasTableFaultAt-offset image at j v h)

ext_outside_least : (image : List ℕ) (at j : ℕ) (v : Reason) → PassesRevision image at → HasChecksum image at → ((k : ℕ) → ¬ HasBadCountAt image at k) → HasTableFaultAt image at j v → fault_order (at + 40) why.ExtOutside ≤ fault_order j v
ext_outside_least image at j why.BadSignature p c n h = absurd (h.1 p.signature)
ext_outside_least image at j why.ShortLength p c n h = absurd (omega (arith, p.inside.header, h.1))
ext_outside_least image at j why.LengthOutside p c n h = absurd (omega (arith, p.inside.inside, h.2))
ext_outside_least image at j why.BadRevision p c n h = absurd (h.1 p.revision)
ext_outside_least image at j why.BadSum p c n h = absurd (h.2 c)
ext_outside_least image at j why.BadCount p c n h = absurd (n j h)
ext_outside_least image at j v p c n h = omega (arith, HasTableFaultAt-offset image at j v h)

ext_sum_least : (image : List ℕ) (at j : ℕ) (v : Reason) → PassesRevision image at → HasChecksum image at → ((k : ℕ) → ¬ HasBadCountAt image at k) → HasExtInside image at → HasTableFaultAt image at j v → fault_order (at + 42) why.BadExtSum ≤ fault_order j v
ext_sum_least image at j why.BadSignature p c n e h = absurd (h.1 p.signature)
ext_sum_least image at j why.ShortLength p c n e h = absurd (omega (arith, p.inside.header, h.1))
ext_sum_least image at j why.LengthOutside p c n e h = absurd (omega (arith, p.inside.inside, h.2))
ext_sum_least image at j why.BadRevision p c n e h = absurd (h.1 p.revision)
ext_sum_least image at j why.BadSum p c n e h = absurd (h.2 c)
ext_sum_least image at j why.BadCount p c n e h = absurd (n j h)
ext_sum_least image at j why.ExtOutside p c n e h = absurd (omega (arith, e.inside, h.2))
ext_sum_least image at j v p c n e h = omega (arith, HasTableFaultAt-offset image at j v h)

-- a fault of base entries and one of extended entries are faults of the table
base_fault_stands : (image : List ℕ) (at k : ℕ) (w : Reason) → HasBaseInside image at → IsBaseFaultIn image (at + 44) (base_end image at) k w → HasTableFaultAt image at k w
base_fault_stands image at k why.UnknownEntry i h = (i, h)
base_fault_stands image at k why.CutEntry i h = (i, h)
base_fault_stands image at k _ i h = absurd h

ext_fault_stands : (image : List ℕ) (at k : ℕ) (w : Reason) → HasExtInside image at → IsExtFaultIn image (base_end image at) (ext_end image at) k w → HasTableFaultAt image at k w
ext_fault_stands image at k why.BadExtType i h = (i, h)
ext_fault_stands image at k why.BadExtLength i h = (i, h)
ext_fault_stands image at k why.CutExtEntry i h = (i, h)
ext_fault_stands image at k _ i h = absurd h

-- the table at a place, or the first of its faults
IsJudgedTable : List ℕ → ℕ → Type 0
IsJudgedTable image at = HasLeast (HasTableFaultAt image at) ⊎ ((t : Table) × IsConfigurationTable t image at)

table_of_parts : (image : List ℕ) (at : ℕ) (es : List Base) (xs : List Ext) → HasSoundHeader image at → AreBaseEntries es image (at + 44) (base_end image at) → length es ≡ count_at image at
    → AreExtEntries xs image (base_end image at) (ext_end image at) → (t : Table) × IsConfigurationTable t image at
table_of_parts image at es xs s tiles count exts = (
  record {
    revision = revision_at image at;
    oem = part image (at + 8) 8;
    product = part image (at + 16) 12;
    oem_table = number_at 4 image (at + 28);
    oem_size = number_at 2 image (at + 32);
    local_address = number_at 4 image (at + 36);
    reserved = reserved_at image at;
    old = old_at image at;
    base = es;
    ext = xs;
  },
  record {
    inside = s.inside;
    header = record { signature = s.signature; revision = refl; oem = refl; product = refl; oem_table = refl; oem_size = refl; local_address = refl; reserved = refl; old = refl };
    revision = s.revision;
    checksum = s.checksum;
    count = count;
    base = tiles;
    ext_checksum = s.ext_checksum;
    ext = exts;
  },
)

-- where the base entries are told, the rows from the extended length on
judged_behind : (image : List ℕ) (at : ℕ) → PassesRevision image at → HasChecksum image at → ((k : ℕ) → ¬ HasBadCountAt image at k) → (HasSoundHeader image at → IsJudgedTable image at) → IsJudgedTable image at
unfolding IsJudgedTable
judged_behind image at p c n go = by_room (cases_lt (length image) (ext_end image at))
  where
    by_sum : HasExtInside image at → Decided (revision_at image at ≡ 1) → Decided (SumsWithExtChecksum image at) → HasLeast (HasTableFaultAt image at) ⊎ ((t : Table) × IsConfigurationTable t image at)
    by_sum e (inl one) _ = go (record { signature = p.signature; inside = e; revision = p.revision; checksum = c; ext_checksum = λ new. absurd (new one) })
    by_sum e (inr new) (inl s) = go (record { signature = p.signature; inside = e; revision = p.revision; checksum = c; ext_checksum = λ _. s })
    by_sum e (inr new) (inr x) = inl ((at + 42, why.BadExtSum, record { stands = (refl, e, new, x); least = λ j v h. ext_sum_least image at j v p c n e h }))

    by_room : (length image < ext_end image at) ⊎ (ext_end image at ≤ length image) → HasLeast (HasTableFaultAt image at) ⊎ ((t : Table) × IsConfigurationTable t image at)
    by_room (inl out) = inl ((at + 40, why.ExtOutside, record { stands = (refl, p.inside, out); least = λ j v h. ext_outside_least image at j v p c n h }))
    by_room (inr inside) = by_sum (record { base = p.inside; inside = inside }) (decided-eq (revision_at image at) 1) (decided-eq (sum (slice_index image (at + 42) ∷ part image (base_end image at) (ext_length_at image at)) % 256) 0)

-- the rows from the entries on
judged_entries : (image : List ℕ) (at : ℕ) → PassesRevision image at → HasChecksum image at → IsJudgedTable image at
unfolding IsJudgedTable
judged_entries image at p c = by_entries (AreBaseEntries-judged image (at + 44) (base_end image at) (omega (arith, p.inside.header)))
  where
    by_exts : (es : List Base) → AreBaseEntries es image (at + 44) (base_end image at) → length es ≡ count_at image at → HasSoundHeader image at → AreJudgedExt image (base_end image at) (ext_end image at) → HasLeast (HasTableFaultAt image at) ⊎ ((t : Table) × IsConfigurationTable t image at)
    by_exts es tiles count s (inl xs) = inr (table_of_parts image at es xs.0 s tiles count xs.1)
    by_exts es tiles count s (inr f) = inl ((f.0, f.1, record { stands = ext_fault_stands image at f.0 f.1 s.inside f.2; least = IsExtFaultIn-first image at f.0 f.1 es s tiles count f.2 }))

    by_count : (es : List Base) → AreBaseEntries es image (at + 44) (base_end image at) → Decided (length es ≡ count_at image at) → HasLeast (HasTableFaultAt image at) ⊎ ((t : Table) × IsConfigurationTable t image at)
    by_count es tiles (inl count) =
        judged_behind image at p c (λ k h. h.4 (ap length (AreBaseEntries-unique h.2 es image (at + 44) (base_end image at) h.3 tiles) ∙ count))
        (λ s. by_exts es tiles count s (AreExtEntries-judged image (base_end image at) (ext_end image at) s.inside.inside (omega arith)))
    by_count es tiles (inr n) = inl ((at + 34, why.BadCount, record { stands = (refl, p.inside, es, tiles, n); least = λ j v h. count_least image at j v p c h }))

    by_entries : AreJudgedBase image (at + 44) (base_end image at) → HasLeast (HasTableFaultAt image at) ⊎ ((t : Table) × IsConfigurationTable t image at)
    by_entries (inl es) = by_count es.0 es.1 (decided-eq (length es.0) (count_at image at))
    by_entries (inr f) =
        judged_behind image at p c (λ k h. IsBaseFaultIn-no_entries h.2 image (at + 44) (base_end image at) f.0 f.1 f.2 h.3)
        (λ s. inl ((f.0, f.1, record { stands = base_fault_stands image at f.0 f.1 p.inside f.2; least = IsBaseFaultIn-first image at f.0 f.1 s f.2 })))

-- a table or its first fault
table_judged : (image : List ℕ) (at : ℕ) → IsJudgedTable image at
unfolding IsJudgedTable
table_judged image at = by_signature (decided-list (part image at 4) (codes "PCMP"))
  where
    by_sum : PassesRevision image at → Decided (HasChecksum image at) → HasLeast (HasTableFaultAt image at) ⊎ ((t : Table) × IsConfigurationTable t image at)
    by_sum p (inl c) = judged_entries image at p c
    by_sum p (inr n) = inl ((at + 7, why.BadSum, record { stands = (refl, p.inside, n); least = λ j v h. sum_least image at j v p h }))

    by_revision : part image at 4 ≡ codes "PCMP" → HasBaseInside image at → Decided (IsKnownRevision (revision_at image at)) → HasLeast (HasTableFaultAt image at) ⊎ ((t : Table) × IsConfigurationTable t image at)
    by_revision s b (inl r) = by_sum (record { signature = s; inside = b; revision = r }) (decided-eq (sum (part image at (base_length_at image at)) % 256) 0)
    by_revision s b (inr n) = inl ((at + 6, why.BadRevision, record { stands = (refl, n); least = λ j v h. header_revision_least image at j v s b h }))

    by_room : part image at 4 ≡ codes "PCMP" → 44 ≤ base_length_at image at → (length image < base_end image at) ⊎ (base_end image at ≤ length image) → HasLeast (HasTableFaultAt image at) ⊎ ((t : Table) × IsConfigurationTable t image at)
    by_room s b (inl out) = inl ((at + 4, why.LengthOutside, record { stands = (refl, b, out); least = λ j v h. outside_least image at j v s b h }))
    by_room s b (inr i) = by_revision s (record { header = b; inside = i }) (known_decided (revision_at image at))

    by_length : part image at 4 ≡ codes "PCMP" → (base_length_at image at < 44) ⊎ (44 ≤ base_length_at image at) → HasLeast (HasTableFaultAt image at) ⊎ ((t : Table) × IsConfigurationTable t image at)
    by_length s (inl short) = inl ((at + 4, why.ShortLength, record { stands = (refl, short); least = λ j v h. short_least image at j v s h }))
    by_length s (inr b) = by_room s b (cases_lt (length image) (base_end image at))

    by_signature : Decided (part image at 4 ≡ codes "PCMP") → HasLeast (HasTableFaultAt image at) ⊎ ((t : Table) × IsConfigurationTable t image at)
    by_signature (inl s) = by_length s (cases_lt (base_length_at image at) 44)
    by_signature (inr n) = inl ((at, why.BadSignature, record { stands = (refl, n); least = λ j v h. signature_least image at j v h }))

-- an image with a first floating pointer describes tables or has a first fault
module _ (image : List ℕ) (at : ℕ) (first : IsFirstPointerAt image at) (p : Pointer) (there : IsFloatingPointer p (part image at 16)) (s : IsSoundPointer image at) where
  fields : HasPointerFieldsAt p image at
  fields = IsFloatingPointer-fields p image at there

  default_described : default_at image at ≢ 0 → IsDescribed image
  default_described n =
      let number : default_number p ≡ default_at image at = fields.default in
      let some : 1 ≤ default_number p = omega (arith, n) in
      let low : default_number p ≤ 7 = omega (arith, s.default) in (
        record { at = at; pointer = p; body = body.Default (default_number p) },
        record { first = first; tables_there = record { pointer = there; revision = subst (λ (r : ℕ). IsKnownRevision r) (sym fields.revision) s.revision; body = (refl, some, low) } },
      )

  table_described : default_at image at ≡ 0 → (t : Table) → IsConfigurationTable t image (address_at image at) → IsDescribed image
  unfolding IsNamedInside
  table_described z t c = (
    record { at = at; pointer = p; body = body.Listed t },
    record {
      first = first;
      tables_there = record {
        pointer = there;
        revision = subst (λ (r : ℕ). IsKnownRevision r) (sym fields.revision) s.revision;
        body = (fields.default ∙ z, λ e. (s.named z).0 (sym fields.address ∙ e), subst (λ x. IsConfigurationTable t image x) (sym fields.address) c);
      };
    },
  )

  table_refused : default_at image at ≡ 0 → HasLeast (HasTableFaultAt image (address_at image at)) → HasFirstFault image
  table_refused z l =
      (l.0, l.1, IsFirstFault-of_table image at l.0 l.1 first (λ k v h. no_pointer_fault image at k v s.named s.revision s.default h) z l.2.stands l.2.least)

  body_judged : Decided (default_at image at ≡ 0) → IsJudgedTable image (address_at image at) → IsDescribed image ⊎ HasFirstFault image
  unfolding IsJudgedTable
  body_judged (inr n) _ = inl (default_described n)
  body_judged (inl z) (inl l) = inr (table_refused z l)
  body_judged (inl z) (inr t) = inl (table_described z t.0 t.1)

-- every image has no floating pointer, describes tables, or has a first fault
pub image-judged : (image : List ℕ) → HasNoPointer image ⊎ (IsDescribed image ⊎ HasFirstFault image)
image-judged image = by_search (first_decided (HasPointerAt image) (λ at. pointer_decided (part image at 16)) (search_places image))
  where
    by_pointer : (at : ℕ) → IsFirstPointerAt image at → HasLeast (HasPointerFaultAt image at) ⊎ IsSoundPointer image at → IsDescribed image ⊎ HasFirstFault image
    by_pointer at f (inl l) = inr (l.0, l.1, IsFirstFault-of_pointer image at l.0 l.1 f l.2.stands l.2.least)
    by_pointer at f (inr s) = body_judged image at f f.holds.0 f.holds.1 s (decided-eq (default_at image at) 0) (table_judged image (address_at image at))

    by_search : HasNoPointer image ⊎ ((at : ℕ) × IsFirstPointerAt image at) → HasNoPointer image ⊎ (IsDescribed image ⊎ HasFirstFault image)
    by_search (inl none) = inl none
    by_search (inr f) = inr (by_pointer f.0 f.1 (pointer_judged image f.0))
