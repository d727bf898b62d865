-- The worked faults: each stands, and no other is before it.
use Rattle.std.proofs.Common.{◌≡◌, ℕ, ◌+◌, ◌≤◌, List, [], ◌∷◌, ◌++◌, length, refl, inl, inr, arith}
use Rattle.mpt_base.specs.declared.fault.Reason.{Reason}
use Rattle.mpt_base.specs.declared.fault.Reason.TheVariants as why
use Rattle.mpt_spec.specs.declared.entry.Base.{Base}
use Rattle.mpt_base.specs.Bytes.{part}
use Rattle.mpt_spec.specs.Search.{search_places, IsFirstPointerAt}
use Rattle.mpt_spec.specs.Pointer.{IsFloatingPointer}
use Rattle.mpt_spec.specs.Entries.{AreBaseEntries, IsUnknownEntryIn, IsCutEntryIn}
use Rattle.mpt_spec.specs.Extended.{IsBadExtTypeIn, IsCutExtEntryIn}
use Rattle.mpt_spec.specs.Faults.{HasTableFaultAt, HasPointerFaultAt, HasNoPointerFault, IsFirstFault, fault_order}
use Rattle.mpt_spec.specs.Revision.{IsKnownRevision}
use Rattle.mpt_laws.specs.Examples.{header_of, header_with, entry_with, processor, small_image_with, default_image, default_tables}
use Rattle.mpt_spec.proofs.FirstFaultLemmas.{no_pointer_fault, IsFirstFault-of_table, IsFirstFault-of_pointer, HasTableFaultAt-offset, HasSoundHeader, IsBaseFaultIn-first, IsExtFaultIn-first}
use Rattle.mpt_laws.proofs.ExampleLemmas.{small_pointer_first}

-- in the small image a fault of the table is the first, if no other of the table is before it
small_fault : (table rest : List ℕ) (k : ℕ) (w : Reason) → search_places (small_image_with table) ≡ 0x500 ∷ rest → 0x510 + 44 ≤ length (small_image_with table) → HasTableFaultAt (small_image_with table) 0x510 k w
    → ((j : ℕ) (v : Reason) → HasTableFaultAt (small_image_with table) 0x510 j v → fault_order k w ≤ fault_order j v) → IsFirstFault (small_image_with table) k w
small_fault table rest k w places inside stands least =
    let none : HasNoPointerFault (small_image_with table) 0x500 = no_pointer_fault (small_image_with table) 0x500 (inr refl) refl (omega arith) inside in
    IsFirstFault-of_table (small_image_with table) 0x500 k w (small_pointer_first table rest places) none refl stands least

abbrev short_length : List ℕ
short_length = header_with 43 0x99 1 0 0 ++ entry_with 0

short_length_least : (j : ℕ) (v : Reason) → HasTableFaultAt (small_image_with short_length) 0x510 j v → fault_order 0x514 why.ShortLength ≤ fault_order j v
short_length_least j why.BadSignature h = absurd (h.1 refl)
short_length_least j v h = omega (arith, HasTableFaultAt-offset (small_image_with short_length) 0x510 j v h)

pub IsFirstFault-short_length : IsFirstFault (small_image_with short_length) 0x514 why.ShortLength
unfolding search_places
IsFirstFault-short_length = small_fault short_length (0x510 ∷ 0x520 ∷ 0x530 ∷ 0x540 ∷ []) 0x514 why.ShortLength refl (omega arith) (refl, omega arith) short_length_least

-- a revision that is neither 1 nor 4
abbrev unknown_revision : List ℕ
unknown_revision = header_of 2 0x40 0x9B 1 (0 ∷ 0 ∷ 0 ∷ 0 ∷ []) ++ entry_with 0

unknown_revision_least : (j : ℕ) (v : Reason) → HasTableFaultAt (small_image_with unknown_revision) 0x510 j v → fault_order 0x516 why.BadRevision ≤ fault_order j v
unknown_revision_least j why.BadSignature h = absurd (h.1 refl)
unknown_revision_least j why.ShortLength h = absurd (omega (arith, h.1))
unknown_revision_least j why.LengthOutside h = absurd (omega (arith, h.2))
unknown_revision_least j v h = omega (arith, HasTableFaultAt-offset (small_image_with unknown_revision) 0x510 j v h)

two_unknown : IsKnownRevision 2 → ⊥
two_unknown (inl h) = omega (arith, h)
two_unknown (inr h) = omega (arith, h)

pub IsFirstFault-unknown_revision : IsFirstFault (small_image_with unknown_revision) 0x516 why.BadRevision
unfolding search_places
IsFirstFault-unknown_revision = small_fault unknown_revision (0x510 ∷ 0x520 ∷ 0x530 ∷ 0x540 ∷ []) 0x516 why.BadRevision refl (omega arith) (refl, two_unknown) unknown_revision_least

abbrev bad_sum : List ℕ
bad_sum = header_with 0x40 0x9A 1 0 0 ++ entry_with 0

bad_sum_least : (j : ℕ) (v : Reason) → HasTableFaultAt (small_image_with bad_sum) 0x510 j v → fault_order 0x517 why.BadSum ≤ fault_order j v
bad_sum_least j why.BadSignature h = absurd (h.1 refl)
bad_sum_least j why.ShortLength h = absurd (omega (arith, h.1))
bad_sum_least j why.LengthOutside h = absurd (omega (arith, h.2))
bad_sum_least j why.BadRevision h = absurd (h.1 (inr refl))
bad_sum_least j v h = omega (arith, HasTableFaultAt-offset (small_image_with bad_sum) 0x510 j v h)

pub IsFirstFault-bad_sum : IsFirstFault (small_image_with bad_sum) 0x517 why.BadSum
unfolding search_places
IsFirstFault-bad_sum =
    small_fault bad_sum (0x510 ∷ 0x520 ∷ 0x530 ∷ 0x540 ∷ []) 0x517 why.BadSum refl (omega arith) (refl, record { header = omega arith; inside = omega arith }, λ e. omega (arith, e)) bad_sum_least

abbrev bad_count : List ℕ
bad_count = header_with 0x40 0x98 2 0 0 ++ entry_with 0

bad_count_least : (j : ℕ) (v : Reason) → HasTableFaultAt (small_image_with bad_count) 0x510 j v → fault_order 0x532 why.BadCount ≤ fault_order j v
bad_count_least j why.BadSignature h = absurd (h.1 refl)
bad_count_least j why.ShortLength h = absurd (omega (arith, h.1))
bad_count_least j why.LengthOutside h = absurd (omega (arith, h.2))
bad_count_least j why.BadRevision h = absurd (h.1 (inr refl))
bad_count_least j why.BadSum h = absurd (h.2 refl)
bad_count_least j v h = omega (arith, HasTableFaultAt-offset (small_image_with bad_count) 0x510 j v h)

abbrev one_entry : List Base
one_entry = processor 0 0x10 3 0x520 0x1BF ∷ []

pub IsFirstFault-bad_count : IsFirstFault (small_image_with bad_count) 0x532 why.BadCount
unfolding search_places
IsFirstFault-bad_count =
    let tiles : AreBaseEntries one_entry (small_image_with bad_count) 0x53C 0x550 = (record { type_byte = refl; apic = refl; version = refl; flags = refl; signature = refl; features = refl; reserved = refl }, refl) in
    small_fault bad_count (0x510 ∷ 0x520 ∷ 0x530 ∷ 0x540 ∷ []) 0x532 why.BadCount refl (omega arith) (refl, record { header = omega arith; inside = omega arith }, one_entry, tiles, λ e. omega (arith, e)) bad_count_least

abbrev cut_entry : List ℕ
cut_entry = header_with 63 0x9A 1 0 0 ++ entry_with 0

pub IsFirstFault-cut_entry : IsFirstFault (small_image_with cut_entry) 0x53C why.CutEntry
unfolding search_places
IsFirstFault-cut_entry =
    let image : List ℕ = small_image_with cut_entry in
    let sound : HasSoundHeader image 0x510 = record {
      signature = refl;
      inside = record { base = record { header = omega arith; inside = omega arith }; inside = omega arith };
      revision = inr refl;
      checksum = refl;
      ext_checksum = λ _. refl;
    } in
    let stands : IsCutEntryIn image 0x53C 0x54F 0x53C = (record { entries = []; are_entries = refl; more = omega arith }, omega arith, omega arith) in
    small_fault cut_entry (0x510 ∷ 0x520 ∷ 0x530 ∷ 0x540 ∷ []) 0x53C why.CutEntry refl (omega arith) (sound.inside.base, stands) (IsBaseFaultIn-first image 0x510 0x53C why.CutEntry sound stands)

abbrev unknown_entry : List ℕ
unknown_entry = header_with 0x40 0x94 1 0 0 ++ entry_with 5

pub IsFirstFault-unknown_entry : IsFirstFault (small_image_with unknown_entry) 0x53C why.UnknownEntry
unfolding search_places
IsFirstFault-unknown_entry =
    let image : List ℕ = small_image_with unknown_entry in
    let sound : HasSoundHeader image 0x510 = record {
      signature = refl;
      inside = record { base = record { header = omega arith; inside = omega arith }; inside = omega arith };
      revision = inr refl;
      checksum = refl;
      ext_checksum = λ _. refl;
    } in
    let stands : IsUnknownEntryIn image 0x53C 0x550 0x53C = (record { entries = []; are_entries = refl; more = omega arith }, omega arith) in
    small_fault unknown_entry (0x510 ∷ 0x520 ∷ 0x530 ∷ 0x540 ∷ []) 0x53C why.UnknownEntry refl (omega arith) (sound.inside.base, stands) (IsBaseFaultIn-first image 0x510 0x53C why.UnknownEntry sound stands)

abbrev bad_ext_type : List ℕ
bad_ext_type = header_with 0x40 0x18 1 2 0x7F ++ entry_with 0 ++ 0x7F ∷ 2 ∷ []

pub IsFirstFault-bad_ext_type : IsFirstFault (small_image_with bad_ext_type) 0x550 why.BadExtType
unfolding search_places
IsFirstFault-bad_ext_type =
    let image : List ℕ = small_image_with bad_ext_type in
    let sound : HasSoundHeader image 0x510 = record {
      signature = refl;
      inside = record { base = record { header = omega arith; inside = omega arith }; inside = omega arith };
      revision = inr refl;
      checksum = refl;
      ext_checksum = λ _. refl;
    } in
    let tiles : AreBaseEntries one_entry image 0x53C 0x550 = (record { type_byte = refl; apic = refl; version = refl; flags = refl; signature = refl; features = refl; reserved = refl }, refl) in
    let stands : IsBadExtTypeIn image 0x550 0x552 0x550 = (record { entries = []; are_entries = refl; more = omega arith }, omega arith) in
    small_fault bad_ext_type (0x510 ∷ 0x520 ∷ 0x530 ∷ 0x540 ∷ []) 0x550 why.BadExtType refl (omega arith) (sound.inside, stands) (IsExtFaultIn-first image 0x510 0x550 why.BadExtType one_entry sound tiles refl stands)

abbrev cut_ext_entry : List ℕ
cut_ext_entry = header_with 0x40 0x60 1 1 0x38 ++ entry_with 0 ++ 0xC8 ∷ []

pub IsFirstFault-cut_ext_entry : IsFirstFault (small_image_with cut_ext_entry) 0x550 why.CutExtEntry
unfolding search_places
IsFirstFault-cut_ext_entry =
    let image : List ℕ = small_image_with cut_ext_entry in
    let sound : HasSoundHeader image 0x510 = record {
      signature = refl;
      inside = record { base = record { header = omega arith; inside = omega arith }; inside = omega arith };
      revision = inr refl;
      checksum = refl;
      ext_checksum = λ _. refl;
    } in
    let tiles : AreBaseEntries one_entry image 0x53C 0x550 = (record { type_byte = refl; apic = refl; version = refl; flags = refl; signature = refl; features = refl; reserved = refl }, refl) in
    let stands : IsCutExtEntryIn image 0x550 0x551 0x550 = (record { entries = []; are_entries = refl; more = omega arith }, omega arith, inl refl) in
    small_fault cut_ext_entry (0x510 ∷ 0x520 ∷ 0x530 ∷ 0x540 ∷ []) 0x550 why.CutExtEntry refl (omega arith) (sound.inside, stands) (IsExtFaultIn-first image 0x510 0x550 why.CutExtEntry one_entry sound tiles refl stands)

-- an image of a floating pointer alone
bad_default_least : (j : ℕ) (v : Reason) → HasPointerFaultAt (default_image 8 0x98) 0x500 j v → fault_order 0x50B why.BadDefault ≤ fault_order j v
bad_default_least j why.NoTable h = absurd (omega (arith, h.1))
bad_default_least j why.TableOutside h = absurd (omega (arith, h.1))
bad_default_least j why.BadRevision h = absurd (h.1 (inr refl))
bad_default_least j why.BadDefault h = omega (arith, h.0)
bad_default_least j _ h = absurd h

pub IsFirstFault-bad_default : IsFirstFault (default_image 8 0x98) 0x50B why.BadDefault
unfolding search_places
IsFirstFault-bad_default =
    let there : IsFloatingPointer (default_tables 8).pointer (part (default_image 8 0x98) 0x500 16) =
    record { size = refl; signature = refl; address = refl; paragraphs = refl; revision = refl; features = refl; checksum = refl } in
    let first : IsFirstPointerAt (default_image 8 0x98) 0x500 = record { before = []; after = []; split = refl; none_before = tt; holds = ((default_tables 8).pointer, there) } in
    IsFirstFault-of_pointer (default_image 8 0x98) 0x500 0x50B why.BadDefault first (refl, omega arith) bad_default_least

no_table_least : (j : ℕ) (v : Reason) → HasPointerFaultAt (default_image 0 0xA0) 0x500 j v → fault_order 0x504 why.NoTable ≤ fault_order j v
no_table_least j why.NoTable h = omega (arith, h.0)
no_table_least j why.TableOutside h = omega (arith, h.0)
no_table_least j why.BadRevision h = omega (arith, h.0)
no_table_least j why.BadDefault h = omega (arith, h.0)
no_table_least j _ h = absurd h

pub IsFirstFault-no_table : IsFirstFault (default_image 0 0xA0) 0x504 why.NoTable
unfolding search_places
IsFirstFault-no_table =
    let there : IsFloatingPointer (default_tables 0).pointer (part (default_image 0 0xA0) 0x500 16) =
    record { size = refl; signature = refl; address = refl; paragraphs = refl; revision = refl; features = refl; checksum = refl } in
    let first : IsFirstPointerAt (default_image 0 0xA0) 0x500 = record { before = []; after = []; split = refl; none_before = tt; holds = ((default_tables 0).pointer, there) } in
    IsFirstFault-of_pointer (default_image 0 0xA0) 0x500 0x504 why.NoTable first (refl, refl, refl) no_table_least
