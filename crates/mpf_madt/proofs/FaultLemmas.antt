-- The faults of a MADT from left to right: once a row doesn't stand, no fault is before the next row; and a table has none.
use Rattle.std.proofs.Common.{◌≡◌, ℕ, ◌≤◌, ◌<◌, List, length, refl, sym, ap, ◌∙◌, arith}
use Rattle.std.specs.Prelude.{Result, Ok, Err, IfOk, codes}
use Rattle.mpt_base.specs.Bytes.{part, number_at}
use Rattle.mpf_madt.specs.declared.madt.Madt.{Madt}
use Rattle.mpf_madt.specs.declared.refusal.MadtReason.{MadtReason}
use Rattle.mpf_madt.specs.declared.refusal.MadtReason.TheVariants as why
use Rattle.mpf_madt.specs.declared.refusal.MadtRefusal.{MadtRefusal}
use Rattle.mpf_madt.specs.declared.refusal.MadtRefusal.TheVariants as refusal
use Rattle.mpf_madt.specs.Entries.{IsEntryFaultIn}
use Rattle.mpf_madt.specs.Table.{IsMadt}
use Rattle.mpf_madt.specs.Faults.{madt_reason_number, HasMadtFaultAt, madt_fault_order, IsFirstMadtFault}
use Rattle.mpf_madt.specs.Answers.{IfMadtFault, AnswersMadt, AnswersMadtFault}
use Rattle.mpf_madt.specs.Own.{HasSoundHeader}
use Rattle.mpf_madt.proofs.EntryLemmas.{AreMadtEntries-unique, IsEntryFaultIn-no_entries, IsEntryFaultIn-unique, IsEntryFaultIn-bounds}

-- no fault is before this one
abbrev pub NoneBefore : List ℕ → ℕ → MadtReason → Type 0
NoneBefore bytes k w = (j : ℕ) (other : MadtReason) → HasMadtFaultAt bytes j other → madt_fault_order k w ≤ madt_fault_order j other

-- the offset of what is refused
abbrev row_offset : MadtReason → ℕ
row_offset why.Short = 0
row_offset why.BadSignature = 0
row_offset why.BadLength = 4
row_offset why.BadSum = 9
row_offset _ = 44

-- a fault stands at its row's offset or behind it
HasMadtFaultAt-offset : (bytes : List ℕ) (j : ℕ) (w : MadtReason) → HasMadtFaultAt bytes j w → row_offset w ≤ j
HasMadtFaultAt-offset bytes j why.Short h = omega arith
HasMadtFaultAt-offset bytes j why.BadSignature h = omega arith
HasMadtFaultAt-offset bytes j why.BadLength h = omega (arith, h.0)
HasMadtFaultAt-offset bytes j why.BadSum h = omega (arith, h.0)
HasMadtFaultAt-offset bytes j why.CutEntry h = (IsEntryFaultIn-bounds bytes 44 (length bytes) j why.CutEntry h.1).0
HasMadtFaultAt-offset bytes j why.BadEntryLength h = (IsEntryFaultIn-bounds bytes 44 (length bytes) j why.BadEntryLength h.1).0

number_low : (w : MadtReason) → (21 ≤ madt_reason_number w) × (madt_reason_number w < 32)
number_low why.Short = (omega arith, omega arith)
number_low why.BadSignature = (omega arith, omega arith)
number_low why.BadLength = (omega arith, omega arith)
number_low why.BadSum = (omega arith, omega arith)
number_low why.CutEntry = (omega arith, omega arith)
number_low why.BadEntryLength = (omega arith, omega arith)

pub none_before_short : (bytes : List ℕ) → NoneBefore bytes 0 why.Short
none_before_short bytes j w h = omega (arith, (number_low w).0)

pub none_before_signature : (bytes : List ℕ) → 44 ≤ length bytes → NoneBefore bytes 0 why.BadSignature
none_before_signature bytes whole j why.Short h = absurd (omega (arith, h.1))
none_before_signature bytes whole j why.BadSignature h = omega arith
none_before_signature bytes whole j why.BadLength h = omega arith
none_before_signature bytes whole j why.BadSum h = omega arith
none_before_signature bytes whole j why.CutEntry h = omega arith
none_before_signature bytes whole j why.BadEntryLength h = omega arith

pub none_before_length : (bytes : List ℕ) → 44 ≤ length bytes → part bytes 0 4 ≡ codes "APIC" → NoneBefore bytes 4 why.BadLength
none_before_length bytes whole signature j why.Short h = absurd (omega (arith, h.1))
none_before_length bytes whole signature j why.BadSignature h = absurd (h.2 signature)
none_before_length bytes whole signature j why.BadLength h = omega (arith, h.0)
none_before_length bytes whole signature j why.BadSum h = omega (arith, h.0)
none_before_length bytes whole signature j why.CutEntry h = omega (arith, HasMadtFaultAt-offset bytes j why.CutEntry h)
none_before_length bytes whole signature j why.BadEntryLength h = omega (arith, HasMadtFaultAt-offset bytes j why.BadEntryLength h)

pub none_before_checksum : (bytes : List ℕ) → 44 ≤ length bytes → part bytes 0 4 ≡ codes "APIC" → number_at 4 bytes 4 ≡ length bytes → NoneBefore bytes 9 why.BadSum
none_before_checksum bytes whole signature size j why.Short h = absurd (omega (arith, h.1))
none_before_checksum bytes whole signature size j why.BadSignature h = absurd (h.2 signature)
none_before_checksum bytes whole signature size j why.BadLength h = absurd (h.2 size)
none_before_checksum bytes whole signature size j why.BadSum h = omega (arith, h.0)
none_before_checksum bytes whole signature size j why.CutEntry h = omega (arith, HasMadtFaultAt-offset bytes j why.CutEntry h)
none_before_checksum bytes whole signature size j why.BadEntryLength h = omega (arith, HasMadtFaultAt-offset bytes j why.BadEntryLength h)

-- behind a sound header a fault is one of the entries
sound_rest : (bytes : List ℕ) (j : ℕ) (w : MadtReason) → HasSoundHeader bytes → HasMadtFaultAt bytes j w → IsEntryFaultIn bytes 44 (length bytes) j w
sound_rest bytes j why.Short s h = absurd (omega (arith, s.whole, h.1))
sound_rest bytes j why.BadSignature s h = absurd (h.2 s.signature)
sound_rest bytes j why.BadLength s h = absurd (h.2 s.size)
sound_rest bytes j why.BadSum s h = absurd (h.2 s.checksum)
sound_rest bytes j why.CutEntry s h = h.1
sound_rest bytes j why.BadEntryLength s h = h.1

sound_stands : (bytes : List ℕ) (j : ℕ) (w : MadtReason) → HasSoundHeader bytes → IsEntryFaultIn bytes 44 (length bytes) j w → HasMadtFaultAt bytes j w
sound_stands bytes j why.CutEntry s h = (s.whole, h)
sound_stands bytes j why.BadEntryLength s h = (s.whole, h)
sound_stands bytes j _ s h = absurd h

-- behind a sound header the fault of the entries is the first
pub IsEntryFaultIn-first : (bytes : List ℕ) (k : ℕ) (w : MadtReason) → HasSoundHeader bytes → IsEntryFaultIn bytes 44 (length bytes) k w → IsFirstMadtFault bytes k w
IsEntryFaultIn-first bytes k w s f = record {
  stands = sound_stands bytes k w s f;
  least = λ j v h.
      let e = IsEntryFaultIn-unique bytes 44 (length bytes) k j w v f (sound_rest bytes j v s h) in
      let numbers : madt_reason_number w ≡ madt_reason_number v = ap madt_reason_number e.1 in
      omega (arith, e.0);
}

-- the bytes of a table have no fault
pub IsMadt-no_fault : (m : Madt) (bytes : List ℕ) (k : ℕ) (w : MadtReason) → IsMadt m bytes → HasMadtFaultAt bytes k w → ⊥
IsMadt-no_fault m bytes k why.Short t h = absurd (omega (arith, t.whole, h.1))
IsMadt-no_fault m bytes k why.BadSignature t h = absurd (h.2 t.header.signature)
IsMadt-no_fault m bytes k why.BadLength t h = absurd (h.2 t.size)
IsMadt-no_fault m bytes k why.BadSum t h = absurd (h.2 t.checksum)
IsMadt-no_fault m bytes k why.CutEntry t h = IsEntryFaultIn-no_entries m.entries bytes 44 (length bytes) k why.CutEntry h.1 t.entries
IsMadt-no_fault m bytes k why.BadEntryLength t h = IsEntryFaultIn-no_entries m.entries bytes 44 (length bytes) k why.BadEntryLength h.1 t.entries

-- a byte list is one table at most
pub IsMadt-unique : (m n : Madt) (bytes : List ℕ) → IsMadt m bytes → IsMadt n bytes → m ≡ n
IsMadt-unique m n bytes h g =
    let entries = AreMadtEntries-unique m.entries n.entries bytes 44 (length bytes) h.entries g.entries in
    λ i. record {
      revision = same h.header.revision g.header.revision i;
      oem = same h.header.oem g.header.oem i;
      table = same h.header.table g.header.table i;
      oem_revision = same h.header.oem_revision g.header.oem_revision i;
      creator = same h.header.creator g.header.creator i;
      creator_revision = same h.header.creator_revision g.header.creator_revision i;
      local_address = same h.header.local_address g.header.local_address i;
      flags = same h.header.flags g.header.flags i;
      entries = entries i;
    }
  where
    same : {A : Type 0} {x y z : A} → x ≡ z → y ≡ z → x ≡ y
    same p q = p ∙ sym q

-- two faults at one order are one
order_place : (k j : ℕ) (w v : MadtReason) → madt_fault_order k w ≡ madt_fault_order j v → (k ≡ j) × (madt_reason_number w ≡ madt_reason_number v)
order_place k j w v e = (omega (arith, number_low w, number_low v), omega (arith, number_low w, number_low v))

number_one : (w v : MadtReason) → madt_reason_number w ≡ madt_reason_number v → w ≡ v
number_one why.Short why.Short e = refl
number_one why.BadSignature why.BadSignature e = refl
number_one why.BadLength why.BadLength e = refl
number_one why.BadSum why.BadSum e = refl
number_one why.CutEntry why.CutEntry e = refl
number_one why.BadEntryLength why.BadEntryLength e = refl
number_one _ _ e = absurd (omega arith)

-- bytes have one first fault at most
pub IsFirstMadtFault-unique : (bytes : List ℕ) (k j : ℕ) (w v : MadtReason) → IsFirstMadtFault bytes k w → IsFirstMadtFault bytes j v → (k ≡ j) × (w ≡ v)
IsFirstMadtFault-unique bytes k j w v f g =
    let up = f.least j v g.stands in
    let down = g.least k w f.stands in
    let e = order_place k j w v (omega arith) in
    (e.0, number_one w v e.1)

-- an answer with its cause is the only one
pub AnswersMadt-only : (bytes : List ℕ) (r : Result Madt MadtRefusal) → IfOk r (λ m. IsMadt m bytes) → IfMadtFault r (λ k w. IsFirstMadtFault bytes k w) → (m : Madt) → IsMadt m bytes → AnswersMadt r m
AnswersMadt-only bytes (Ok found) ok err m t = IsMadt-unique found m bytes ok t
AnswersMadt-only bytes (Err (refusal.Fault k w)) ok err m t = IsMadt-no_fault m bytes k w t err.stands
AnswersMadt-only bytes (Err refusal.NoMemory) ok err m t = tt

pub AnswersMadtFault-only : (bytes : List ℕ) (r : Result Madt MadtRefusal) → IfOk r (λ m. IsMadt m bytes) → IfMadtFault r (λ k w. IsFirstMadtFault bytes k w) → (k : ℕ) (w : MadtReason) → IsFirstMadtFault bytes k w → AnswersMadtFault r k w
AnswersMadtFault-only bytes (Ok found) ok err k w f = IsMadt-no_fault found bytes k w ok f.stands
AnswersMadtFault-only bytes (Err (refusal.Fault j v)) ok err k w f = IsFirstMadtFault-unique bytes j k v w err f
AnswersMadtFault-only bytes (Err refusal.NoMemory) ok err k w f = tt

-- a refusal for the entries is one for the first fault
pub IfMadtFault-first : {T : Type 0} (bytes : List ℕ) (r : Result T MadtRefusal) → HasSoundHeader bytes → IfMadtFault r (λ k w. IsEntryFaultIn bytes 44 (length bytes) k w) → IfMadtFault r (λ k w. IsFirstMadtFault bytes k w)
IfMadtFault-first bytes (Ok v) s h = tt
IfMadtFault-first bytes (Err (refusal.Fault k w)) s h = IsEntryFaultIn-first bytes k w s h
IfMadtFault-first bytes (Err refusal.NoMemory) s h = tt
