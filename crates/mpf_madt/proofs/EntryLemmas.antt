-- The entries of a MADT that stand end to end.
--     IsMadtEntryAt-unique         a place has one entry
--     IsMadtEntryAt-head           what the first two bytes of an entry say
--     AreMadtEntries-unique        a range has one list of entries
--     AreMadtEntries-le            a range of entries ends at or behind its start
--     AreMadtEntries-push          entries, and one more behind them
--     IsEntryFaultIn-no_entries    where entries are at fault, none stand end to end
--     IsEntryFaultIn-unique        there is one fault
--     IsEntryFaultIn-bounds        the fault lies in the range
--     IsEntryFaultIn-after         the fault of the rest is that of the whole
use Rattle.std.proofs.Common.{◌≡◌, ℕ, ◌+◌, ◌≤◌, ◌<◌, List, [], ◌∷◌, ◌++◌, length, refl, sym, ap, ◌∙◌, subst, inl, inr, arith}
use Rattle.std.specs.Prelude.{slice_index, ◌⊎◌}
use Rattle.mpt_spec.specs.declared.entry.Opaque.{Opaque}
use Rattle.mpt_spec.proofs.EntryLemmas.{AreEntries, IsDetermined, AreEntries-le, AreEntries-append, AreEntries-unique, IsStoppedAt, stopped_no_entries, stopped_unique}
use Rattle.mpf_madt.specs.declared.madt.MadtEntry.{MadtEntry}
use Rattle.mpf_madt.specs.declared.madt.MadtEntry.TheVariants as entry
use Rattle.mpf_madt.specs.declared.refusal.MadtReason.{MadtReason}
use Rattle.mpf_madt.specs.declared.refusal.MadtReason.TheVariants as why
use Rattle.mpf_madt.specs.Entries.{IsOtherAt, IsMadtEntryAt, entry_length, AreMadtEntries, HasEntriesBefore, IsLengthOfType, IsEntryFaultIn}

same : {A : Type 0} {x y z : A} → x ≡ z → y ≡ z → x ≡ y
same p q = p ∙ sym q

IsOtherAt-unique : (e f : Opaque) (bytes : List ℕ) (at : ℕ) → IsOtherAt e bytes at → IsOtherAt f bytes at → e ≡ f
IsOtherAt-unique e f bytes at h g =
    let n : length e.rest ≡ length f.rest = omega arith in
    let rest : e.rest ≡ f.rest = cc in
    λ i. record { kind = same h.type_byte g.type_byte i; rest = rest i }

-- a type of its own isn't one that is left opaque
clash : {A : Type 0} (e : Opaque) (bytes : List ℕ) (at n : ℕ) → slice_index bytes at ≡ n → (e.kind ≡ n → ⊥) → IsOtherAt e bytes at → A
clash e bytes at n own other h = absurd (other (h.type_byte ∙ own))

-- a place has one entry
pub IsMadtEntryAt-unique : (e f : MadtEntry) (bytes : List ℕ) (at : ℕ) → IsMadtEntryAt e bytes at → IsMadtEntryAt f bytes at → e ≡ f
IsMadtEntryAt-unique (entry.Local u a f) (entry.Local v b g) bytes at h k =
    λ i. entry.Local (same h.uid_there k.uid_there i) (same h.apic_there k.apic_there i) (same h.flags_there k.flags_there i)
IsMadtEntryAt-unique (entry.Io a b c d) (entry.Io w x y z) bytes at h k =
    λ i. entry.Io (same h.id_there k.id_there i) (same h.reserved_there k.reserved_there i) (same h.address_there k.address_there i) (same h.base_there k.base_there i)
IsMadtEntryAt-unique (entry.Override a b c d) (entry.Override w x y z) bytes at h k =
    λ i. entry.Override (same h.bus_there k.bus_there i) (same h.source_there k.source_there i) (same h.gsi_there k.gsi_there i) (same h.flags_there k.flags_there i)
IsMadtEntryAt-unique (entry.Nmi u f l) (entry.Nmi v g m) bytes at h k =
    λ i. entry.Nmi (same h.uid_there k.uid_there i) (same h.flags_there k.flags_there i) (same h.lint_there k.lint_there i)
IsMadtEntryAt-unique (entry.Other e) (entry.Other f) bytes at h k = ap entry.Other (IsOtherAt-unique e f bytes at h k)
IsMadtEntryAt-unique (entry.Other e) (entry.Local v b g) bytes at h k = clash e bytes at 0 k.type_byte h.other.0 h
IsMadtEntryAt-unique (entry.Other e) (entry.Io w x y z) bytes at h k = clash e bytes at 1 k.type_byte h.other.1 h
IsMadtEntryAt-unique (entry.Other e) (entry.Override w x y z) bytes at h k = clash e bytes at 2 k.type_byte h.other.2 h
IsMadtEntryAt-unique (entry.Other e) (entry.Nmi v g m) bytes at h k = clash e bytes at 4 k.type_byte h.other.3 h
IsMadtEntryAt-unique (entry.Local u a f) (entry.Other e) bytes at h k = clash e bytes at 0 h.type_byte k.other.0 k
IsMadtEntryAt-unique (entry.Io a b c d) (entry.Other e) bytes at h k = clash e bytes at 1 h.type_byte k.other.1 k
IsMadtEntryAt-unique (entry.Override a b c d) (entry.Other e) bytes at h k = clash e bytes at 2 h.type_byte k.other.2 k
IsMadtEntryAt-unique (entry.Nmi u f l) (entry.Other e) bytes at h k = clash e bytes at 4 h.type_byte k.other.3 k
IsMadtEntryAt-unique _ _ bytes at h k = absurd (omega arith)

-- what stands where, with the place last
abbrev EntryAt : List ℕ → MadtEntry → ℕ → Type 0
EntryAt bytes e at = IsMadtEntryAt e bytes at

entry_length-ge_two : (e : MadtEntry) → 2 ≤ entry_length e
entry_length-ge_two (entry.Other e) = omega arith
entry_length-ge_two (entry.Local u a f) = omega arith
entry_length-ge_two (entry.Io a b c d) = omega arith
entry_length-ge_two (entry.Override a b c d) = omega arith
entry_length-ge_two (entry.Nmi u f l) = omega arith

determined : (bytes : List ℕ) → IsDetermined MadtEntry (EntryAt bytes) entry_length
determined bytes = record { one = λ e f at h g. IsMadtEntryAt-unique e f bytes at h g; longer = λ e. let n : 2 ≤ entry_length e = entry_length-ge_two e in omega arith }

of_madt : (es : List MadtEntry) (bytes : List ℕ) (from to : ℕ) → AreMadtEntries es bytes from to → AreEntries MadtEntry (EntryAt bytes) entry_length es from to
of_madt [] bytes from to h = h
of_madt (e ∷ es) bytes from to h = (h.0, of_madt es bytes (from + entry_length e) to h.1)

to_madt : (es : List MadtEntry) (bytes : List ℕ) (from to : ℕ) → AreEntries MadtEntry (EntryAt bytes) entry_length es from to → AreMadtEntries es bytes from to
to_madt [] bytes from to h = h
to_madt (e ∷ es) bytes from to h = (h.0, to_madt es bytes (from + entry_length e) to h.1)

-- a range has one list of entries
pub AreMadtEntries-unique : (es fs : List MadtEntry) (bytes : List ℕ) (from to : ℕ) → AreMadtEntries es bytes from to → AreMadtEntries fs bytes from to → es ≡ fs
AreMadtEntries-unique es fs bytes from to h g =
    AreEntries-unique MadtEntry (EntryAt bytes) entry_length (determined bytes) es fs from to (of_madt es bytes from to h) (of_madt fs bytes from to g)

pub AreMadtEntries-le : (es : List MadtEntry) (bytes : List ℕ) (from to : ℕ) → AreMadtEntries es bytes from to → from ≤ to
AreMadtEntries-le es bytes from to h = AreEntries-le MadtEntry (EntryAt bytes) entry_length es from to (of_madt es bytes from to h)

AreMadtEntries-append : (es fs : List MadtEntry) (bytes : List ℕ) (from mid to : ℕ) → AreMadtEntries es bytes from mid → AreMadtEntries fs bytes mid to → AreMadtEntries (es ++ fs) bytes from to
AreMadtEntries-append es fs bytes from mid to h g =
    to_madt (es ++ fs) bytes from to (AreEntries-append MadtEntry (EntryAt bytes) entry_length es fs from mid to (of_madt es bytes from mid h) (of_madt fs bytes mid to g))

-- one more entry at the end
pub AreMadtEntries-push : (es : List MadtEntry) (e : MadtEntry) (bytes : List ℕ) (from mid : ℕ) → AreMadtEntries es bytes from mid → IsMadtEntryAt e bytes mid → AreMadtEntries (es ++ e ∷ []) bytes from (mid + entry_length e)
AreMadtEntries-push es e bytes from mid h g = AreMadtEntries-append es (e ∷ []) bytes from mid (mid + entry_length e) h (g, refl)

-- what the first two bytes of an entry say
pub record IsHeadAt (e : MadtEntry) (bytes : List ℕ) (at : ℕ) : Type 0 where
  pub length_is : slice_index bytes (at + 1) ≡ entry_length e
  pub right : IsLengthOfType (slice_index bytes at) (slice_index bytes (at + 1))

pub IsMadtEntryAt-head : (e : MadtEntry) (bytes : List ℕ) (at : ℕ) → IsMadtEntryAt e bytes at → IsHeadAt e bytes at
IsMadtEntryAt-head (entry.Local u a f) bytes at h =
    record { length_is = h.length_byte; right = record { whole = omega (arith, h.length_byte); local = λ t. h.length_byte; io = λ t. absurd (omega (arith, h.type_byte)); override = λ t. absurd (omega (arith, h.type_byte)); nmi = λ t. absurd (omega (arith, h.type_byte)) } }
IsMadtEntryAt-head (entry.Io a b c d) bytes at h =
    record { length_is = h.length_byte; right = record { whole = omega (arith, h.length_byte); local = λ t. absurd (omega (arith, h.type_byte)); io = λ t. h.length_byte; override = λ t. absurd (omega (arith, h.type_byte)); nmi = λ t. absurd (omega (arith, h.type_byte)) } }
IsMadtEntryAt-head (entry.Override a b c d) bytes at h =
    record { length_is = h.length_byte; right = record { whole = omega (arith, h.length_byte); local = λ t. absurd (omega (arith, h.type_byte)); io = λ t. absurd (omega (arith, h.type_byte)); override = λ t. h.length_byte; nmi = λ t. absurd (omega (arith, h.type_byte)) } }
IsMadtEntryAt-head (entry.Nmi u f l) bytes at h =
    record { length_is = h.length_byte; right = record { whole = omega (arith, h.length_byte); local = λ t. absurd (omega (arith, h.type_byte)); io = λ t. absurd (omega (arith, h.type_byte)); override = λ t. absurd (omega (arith, h.type_byte)); nmi = λ t. h.length_byte } }
IsMadtEntryAt-head (entry.Other e) bytes at h = record {
  length_is = h.length_byte;
  right = record {
    whole = omega (arith, h.length_byte);
    local = λ t. absurd (h.other.0 (h.type_byte ∙ t));
    io = λ t. absurd (h.other.1 (h.type_byte ∙ t));
    override = λ t. absurd (h.other.2 (h.type_byte ∙ t));
    nmi = λ t. absurd (h.other.3 (h.type_byte ∙ t));
  };
}

-- what is wrong with the entry at a place, and where the fault is
abbrev IsBlameAt : List ℕ → ℕ → ℕ → ℕ → MadtReason → Type 0
IsBlameAt bytes to at k why.BadEntryLength = (k ≡ at + 1) × (at + 2 ≤ to) × (¬ IsLengthOfType (slice_index bytes at) (slice_index bytes (at + 1)))
IsBlameAt bytes to at k why.CutEntry = (k ≡ at) × ((at + 1 ≡ to) ⊎ (IsLengthOfType (slice_index bytes at) (slice_index bytes (at + 1)) × (to < at + slice_index bytes (at + 1))))
IsBlameAt bytes to at k _ = ⊥

-- entries end before the place, and there an entry is at fault
record IsBlame (bytes : List ℕ) (from to k : ℕ) (w : MadtReason) : Type 0 where
  place : ℕ
  before : HasEntriesBefore bytes from to place
  blame : IsBlameAt bytes to place k w

blame_of : (bytes : List ℕ) (from to k : ℕ) (w : MadtReason) → IsEntryFaultIn bytes from to k w → IsBlame bytes from to k w
blame_of bytes from to k why.BadEntryLength h = record { place = h.0; before = h.2; blame = (h.1, h.3, h.4) }
blame_of bytes from to k why.CutEntry h = record { place = k; before = h.0; blame = (refl, h.1) }
blame_of bytes from to k _ h = absurd h

fault_of : (bytes : List ℕ) (from to k : ℕ) (w : MadtReason) → IsBlame bytes from to k w → IsEntryFaultIn bytes from to k w
fault_of bytes from to k why.BadEntryLength h = (h.place, h.blame.0, h.before, h.blame.1, h.blame.2)
fault_of bytes from to k why.CutEntry h =
    let same_place : h.place ≡ k = sym h.blame.0 in (
      subst (HasEntriesBefore bytes from to) same_place h.before,
      subst (λ (n : ℕ). (n + 1 ≡ to) ⊎ (IsLengthOfType (slice_index bytes n) (slice_index bytes (n + 1)) × (to < n + slice_index bytes (n + 1)))) same_place h.blame.1,
    )
fault_of bytes from to k _ h = absurd h.blame

blame_stuck : (bytes : List ℕ) (to at k : ℕ) (w : MadtReason) → IsBlameAt bytes to at k w → (e : MadtEntry) → IsMadtEntryAt e bytes at → to < at + entry_length e
blame_stuck bytes to at k why.BadEntryLength b e g = absurd (b.2 (IsMadtEntryAt-head e bytes at g).right)
blame_stuck bytes to at k why.CutEntry b e g =
    let head : IsHeadAt e bytes at = IsMadtEntryAt-head e bytes at g in
    let two : 2 ≤ entry_length e = entry_length-ge_two e in
    elim b.1 [ inl last ↦ omega arith | inr cut ↦ omega (arith, cut.1, head.length_is) ]
blame_stuck bytes to at k _ b e g = absurd b

stopped : (bytes : List ℕ) (from to k : ℕ) (w : MadtReason) → (b : IsBlame bytes from to k w) → IsStoppedAt MadtEntry (EntryAt bytes) entry_length from to b.place
stopped bytes from to k w b =
    record { entries = b.before.entries; are_entries = of_madt b.before.entries bytes from b.place b.before.are_entries; more = b.before.more; stuck = blame_stuck bytes to b.place k w b.blame }

-- where entries are at fault, none stand end to end
pub IsEntryFaultIn-no_entries : (es : List MadtEntry) (bytes : List ℕ) (from to k : ℕ) (w : MadtReason) → IsEntryFaultIn bytes from to k w → AreMadtEntries es bytes from to → ⊥
IsEntryFaultIn-no_entries es bytes from to k w h g =
    let b = blame_of bytes from to k w h in
    stopped_no_entries MadtEntry (EntryAt bytes) entry_length (determined bytes) es from to b.place (stopped bytes from to k w b) (of_madt es bytes from to g)

blame_unique : (bytes : List ℕ) (to at k j : ℕ) (w v : MadtReason) → IsBlameAt bytes to at k w → IsBlameAt bytes to at j v → (k ≡ j) × (w ≡ v)
blame_unique bytes to at k j why.BadEntryLength why.BadEntryLength b c = (same b.0 c.0, refl)
blame_unique bytes to at k j why.CutEntry why.CutEntry b c = (same b.0 c.0, refl)
blame_unique bytes to at k j why.BadEntryLength why.CutEntry b c = absurd (elim c.1 [ inl last ↦ omega (arith, b.1) | inr cut ↦ b.2 cut.0 ])
blame_unique bytes to at k j why.CutEntry why.BadEntryLength b c = absurd (elim b.1 [ inl last ↦ omega (arith, c.1) | inr cut ↦ c.2 cut.0 ])
blame_unique bytes to at k j why.BadEntryLength _ b c = absurd c
blame_unique bytes to at k j why.CutEntry _ b c = absurd c
blame_unique bytes to at k j _ v b c = absurd b

-- entries have one fault
pub IsEntryFaultIn-unique : (bytes : List ℕ) (from to k j : ℕ) (w v : MadtReason) → IsEntryFaultIn bytes from to k w → IsEntryFaultIn bytes from to j v → (k ≡ j) × (w ≡ v)
IsEntryFaultIn-unique bytes from to k j w v h g =
    let b = blame_of bytes from to k w h in
    let c = blame_of bytes from to j v g in
    let place : c.place ≡ b.place = stopped_unique MadtEntry (EntryAt bytes) entry_length (determined bytes) from to c.place b.place (stopped bytes from to j v c) (stopped bytes from to k w b) in
    blame_unique bytes to b.place k j w v b.blame (subst (λ (n : ℕ). IsBlameAt bytes to n j v) place c.blame)

blame_near : (bytes : List ℕ) (to at k : ℕ) (w : MadtReason) → at < to → IsBlameAt bytes to at k w → (at ≤ k) × (k < to)
blame_near bytes to at k why.BadEntryLength l b = (omega (arith, b.0), omega (arith, b.0, b.1))
blame_near bytes to at k why.CutEntry l b = (omega (arith, b.0), omega (arith, b.0))
blame_near bytes to at k _ l b = absurd b

-- the fault lies in the range
pub IsEntryFaultIn-bounds : (bytes : List ℕ) (from to k : ℕ) (w : MadtReason) → IsEntryFaultIn bytes from to k w → (from ≤ k) × (k < to)
IsEntryFaultIn-bounds bytes from to k w h =
    let b = blame_of bytes from to k w h in
    let start : from ≤ b.place = AreMadtEntries-le b.before.entries bytes from b.place b.before.are_entries in
    let near = blame_near bytes to b.place k w b.before.more b.blame in
    (omega (arith, near.0), near.1)

-- the fault of the rest is that of the whole
pub IsEntryFaultIn-after : (es : List MadtEntry) (bytes : List ℕ) (from mid to k : ℕ) (w : MadtReason) → AreMadtEntries es bytes from mid → IsEntryFaultIn bytes mid to k w → IsEntryFaultIn bytes from to k w
IsEntryFaultIn-after es bytes from mid to k w h g =
    let b = blame_of bytes mid to k w g in
    let whole : HasEntriesBefore bytes from to b.place = record { entries = es ++ b.before.entries; are_entries = AreMadtEntries-append es b.before.entries bytes from mid b.place h b.before.are_entries; more = b.before.more } in
    fault_of bytes from to k w (record { place = b.place; before = whole; blame = b.blame })
