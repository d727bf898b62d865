-- How a fault is shown to be the first: no fault of the pointer stands, and each row of the table before it is refuted.
use Rattle.std.proofs.Common.{◌≡◌, ◌≢◌, ℕ, ◌+◌, ◌≤◌, ◌<◌, ◌⊎◌, List, length, ap, ◌∙◌, inl, inr, arith}
use Rattle.std.specs.Prelude.{slice_index, codes}
use Rattle.mpt_base.specs.Bytes.{part}
use Rattle.mpt_base.specs.Reason.{reason_number}
use Rattle.mpt_base.specs.declared.fault.Reason.{Reason}
use Rattle.mpt_base.specs.declared.fault.Reason.TheVariants as why
use Rattle.mpt_spec.specs.Search.{IsFirstPointerAt}
use Rattle.mpt_spec.specs.declared.entry.Base.{Base}
use Rattle.mpt_spec.specs.Entries.{AreBaseEntries, IsBaseFaultIn}
use Rattle.mpt_spec.specs.Extended.{IsExtFaultIn}
use Rattle.mpt_spec.specs.Revision.{IsKnownRevision}
use Rattle.mpt_spec.specs.Table.{base_end, ext_end, count_at, revision_at, HasExtInside, HasChecksum, HasExtChecksum}
use Rattle.mpt_spec.specs.Faults.{address_at, default_at, HasBadCountAt, HasPointerFaultAt, HasTableFaultAt, HasNoPointerFault, HasFaultAt, fault_order, IsFirstFault}
use Rattle.mpt_spec.proofs.EntryLemmas.{AreBaseEntries-unique, IsBaseFaultIn-no_entries, IsBaseFaultIn-unique, IsBaseFaultIn-bounds, IsExtFaultIn-unique, IsExtFaultIn-bounds}
use Rattle.mpt_spec.proofs.FaultLemmas.{reason_number-small}

pub no_pointer_fault : (image : List ℕ) (place : ℕ) → IsKnownRevision (slice_index image (place + 9)) → default_at image place ≡ 0 → address_at image place ≢ 0 → address_at image place + 44 ≤ length image → HasNoPointerFault image place
no_pointer_fault image place known none some inside k why.NoTable h = some h.2
no_pointer_fault image place known none some inside k why.TableOutside h = omega (arith, inside, h.3)
no_pointer_fault image place known none some inside k why.BadRevision h = h.1 known
no_pointer_fault image place known none some inside k why.BadDefault h = omega (arith, none, h.1)
no_pointer_fault image place known none some inside k _ h = h

-- a fault of the table before which no other of the table stands is the first, where none of the pointer stands
pub IsFirstFault-of_table : (image : List ℕ) (place k : ℕ) (w : Reason) → IsFirstPointerAt image place → HasNoPointerFault image place → default_at image place ≡ 0 → HasTableFaultAt image (address_at image place) k w
    → ((j : ℕ) (v : Reason) → HasTableFaultAt image (address_at image place) j v → fault_order k w ≤ fault_order j v) → IsFirstFault image k w
IsFirstFault-of_table image place k w first none listed stands least = record {
  at = place;
  first = first;
  fault = record { stands = inr (none, listed, stands); least = λ j v h. after j v h };
}
  where
    after : (j : ℕ) (v : Reason) → HasFaultAt image place j v → fault_order k w ≤ fault_order j v
    after j v (inl h) = absurd (none j v h)
    after j v (inr h) = least j v h.2

-- the offset from the table of what is refused
abbrev pub row_offset : Reason → ℕ
row_offset why.BadSignature = 0
row_offset why.ShortLength = 4
row_offset why.LengthOutside = 4
row_offset why.BadRevision = 6
row_offset why.BadSum = 7
row_offset why.BadCount = 34
row_offset why.ExtOutside = 40
row_offset why.BadExtSum = 42
row_offset _ = 44

-- a fault of the table stands at its row's offset or behind it
pub HasTableFaultAt-offset : (image : List ℕ) (at j : ℕ) (v : Reason) → HasTableFaultAt image at j v → at + row_offset v ≤ j
HasTableFaultAt-offset image at j why.BadSignature h = omega (arith, h.0)
HasTableFaultAt-offset image at j why.ShortLength h = omega (arith, h.0)
HasTableFaultAt-offset image at j why.LengthOutside h = omega (arith, h.0)
HasTableFaultAt-offset image at j why.BadRevision h = omega (arith, h.0)
HasTableFaultAt-offset image at j why.BadSum h = omega (arith, h.0)
HasTableFaultAt-offset image at j why.BadCount h = omega (arith, h.0)
HasTableFaultAt-offset image at j why.ExtOutside h = omega (arith, h.0)
HasTableFaultAt-offset image at j why.BadExtSum h = omega (arith, h.0)
HasTableFaultAt-offset image at j why.UnknownEntry h = (IsBaseFaultIn-bounds image (at + 44) (base_end image at) j why.UnknownEntry h.1).0
HasTableFaultAt-offset image at j why.CutEntry h = (IsBaseFaultIn-bounds image (at + 44) (base_end image at) j why.CutEntry h.1).0
HasTableFaultAt-offset image at j why.BadExtType h =
    let low : base_end image at ≤ j = (IsExtFaultIn-bounds image (base_end image at) (ext_end image at) j why.BadExtType h.1).0 in
    omega (arith, h.0.base.header, low)
HasTableFaultAt-offset image at j why.BadExtLength h =
    let low : base_end image at ≤ j = (IsExtFaultIn-bounds image (base_end image at) (ext_end image at) j why.BadExtLength h.1).0 in
    omega (arith, h.0.base.header, low)
HasTableFaultAt-offset image at j why.CutExtEntry h =
    let low : base_end image at ≤ j = (IsExtFaultIn-bounds image (base_end image at) (ext_end image at) j why.CutExtEntry h.1).0 in
    omega (arith, h.0.base.header, low)
HasTableFaultAt-offset image at j _ h = absurd h

-- the header of a table without a fault, but for its count
pub record HasSoundHeader (image : List ℕ) (at : ℕ) : Type 0 where
  pub signature : part image at 4 ≡ codes "PCMP"
  pub inside : HasExtInside image at
  pub revision : IsKnownRevision (revision_at image at)
  pub checksum : HasChecksum image at
  pub ext_checksum : HasExtChecksum image at

-- then a fault is that of the count, of a base entry or of an extended entry
pub HasSoundHeader-rest : (image : List ℕ) (at j : ℕ) (v : Reason) → HasSoundHeader image at → HasTableFaultAt image at j v
    → HasBadCountAt image at j ⊎ (IsBaseFaultIn image (at + 44) (base_end image at) j v ⊎ IsExtFaultIn image (base_end image at) (ext_end image at) j v)
HasSoundHeader-rest image at j why.BadSignature s h = absurd (h.1 s.signature)
HasSoundHeader-rest image at j why.ShortLength s h = absurd (omega (arith, s.inside.base.header, h.1))
HasSoundHeader-rest image at j why.LengthOutside s h = absurd (omega (arith, s.inside.base.inside, h.2))
HasSoundHeader-rest image at j why.BadRevision s h = absurd (h.1 s.revision)
HasSoundHeader-rest image at j why.BadSum s h = absurd (h.2 s.checksum)
HasSoundHeader-rest image at j why.BadCount s h = inl h
HasSoundHeader-rest image at j why.ExtOutside s h = absurd (omega (arith, s.inside.inside, h.2))
HasSoundHeader-rest image at j why.BadExtSum s h = absurd (h.3 (s.ext_checksum h.2))
HasSoundHeader-rest image at j why.UnknownEntry s h = inr (inl h.1)
HasSoundHeader-rest image at j why.CutEntry s h = inr (inl h.1)
HasSoundHeader-rest image at j why.BadExtType s h = inr (inr h.1)
HasSoundHeader-rest image at j why.BadExtLength s h = inr (inr h.1)
HasSoundHeader-rest image at j why.CutExtEntry s h = inr (inr h.1)
HasSoundHeader-rest image at j _ s h = absurd h

-- a fault at the place of another is before it only by its number
order_of_same : (k j : ℕ) (w v : Reason) → (k ≡ j) × (w ≡ v) → fault_order k w ≤ fault_order j v
order_of_same k j w v e =
    let numbers : reason_number w ≡ reason_number v = ap reason_number e.1 in
    omega (arith, e.0)

order_of_later : (k j : ℕ) (w v : Reason) → k < j → fault_order k w ≤ fault_order j v
order_of_later k j w v l = omega (arith, reason_number-small w)

-- behind a sound header the fault of the base entries is the first of the table
pub IsBaseFaultIn-first : (image : List ℕ) (at k : ℕ) (w : Reason) → HasSoundHeader image at → IsBaseFaultIn image (at + 44) (base_end image at) k w
    → (j : ℕ) (v : Reason) → HasTableFaultAt image at j v → fault_order k w ≤ fault_order j v
IsBaseFaultIn-first image at k w s f j v h = among (HasSoundHeader-rest image at j v s h)
  where
    among : HasBadCountAt image at j ⊎ (IsBaseFaultIn image (at + 44) (base_end image at) j v ⊎ IsExtFaultIn image (base_end image at) (ext_end image at) j v) → fault_order k w ≤ fault_order j v
    among (inl c) = absurd (IsBaseFaultIn-no_entries c.2 image (at + 44) (base_end image at) k w f c.3)
    among (inr (inl b)) = order_of_same k j w v (IsBaseFaultIn-unique image (at + 44) (base_end image at) k j w v f b)
    among (inr (inr x)) =
        let low : k < base_end image at = (IsBaseFaultIn-bounds image (at + 44) (base_end image at) k w f).1 in
        let high : base_end image at ≤ j = (IsExtFaultIn-bounds image (base_end image at) (ext_end image at) j v x).0 in
        order_of_later k j w v (omega arith)

-- behind a sound header and as many base entries as it counts the fault of the extended entries is the first of the table
pub IsExtFaultIn-first : (image : List ℕ) (at k : ℕ) (w : Reason) (es : List Base) → HasSoundHeader image at → AreBaseEntries es image (at + 44) (base_end image at) → length es ≡ count_at image at
    → IsExtFaultIn image (base_end image at) (ext_end image at) k w → (j : ℕ) (v : Reason) → HasTableFaultAt image at j v → fault_order k w ≤ fault_order j v
IsExtFaultIn-first image at k w es s tiles count f j v h = among (HasSoundHeader-rest image at j v s h)
  where
    among : HasBadCountAt image at j ⊎ (IsBaseFaultIn image (at + 44) (base_end image at) j v ⊎ IsExtFaultIn image (base_end image at) (ext_end image at) j v) → fault_order k w ≤ fault_order j v
    among (inl c) = absurd (c.4 (ap length (AreBaseEntries-unique c.2 es image (at + 44) (base_end image at) c.3 tiles) ∙ count))
    among (inr (inl b)) = absurd (IsBaseFaultIn-no_entries es image (at + 44) (base_end image at) j v b tiles)
    among (inr (inr x)) = order_of_same k j w v (IsExtFaultIn-unique image (base_end image at) (ext_end image at) k j w v f x)

-- a fault of the pointer before which no other of the pointer stands is the first
pub IsFirstFault-of_pointer : (image : List ℕ) (place k : ℕ) (w : Reason) → IsFirstPointerAt image place → HasPointerFaultAt image place k w
    → ((j : ℕ) (v : Reason) → HasPointerFaultAt image place j v → fault_order k w ≤ fault_order j v) → IsFirstFault image k w
IsFirstFault-of_pointer image place k w first stands least = record { at = place; first = first; fault = record { stands = inl stands; least = λ j v h. among j v h } }
  where
    among : (j : ℕ) (v : Reason) → HasFaultAt image place j v → fault_order k w ≤ fault_order j v
    among j v (inl h) = least j v h
    among j v (inr h) = absurd (h.0 k w stands)
