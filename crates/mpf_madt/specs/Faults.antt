-- The faults for which a MADT is refused: one sentence for each row. Numbers and order of the reasons are this project's own; the
-- fields are those of the ACPI Specification, sections 5.2.6 and 5.2.12. `k` is the offset at which the fault stands.
use Rattle.std.specs.Prelude.{◌≡◌, ◌≢◌, ℕ, ◌+◌, ◌*◌, ◌≤◌, ◌<◌, List, length, codes}
use Rattle.mpt_base.specs.Bytes.{number_at, part, SumsToZero}
use Rattle.mpf_madt.specs.declared.refusal.MadtReason.{MadtReason}
use Rattle.mpf_madt.specs.declared.refusal.MadtReason.TheVariants as why
use Rattle.mpf_madt.specs.Entries.{IsBadEntryLengthIn, IsCutEntryIn}

-- the number of a reason, as it is printed
abbrev pub madt_reason_number : MadtReason → ℕ
madt_reason_number why.Short = 21
madt_reason_number why.BadSignature = 22
madt_reason_number why.BadLength = 23
madt_reason_number why.BadSum = 24
madt_reason_number why.CutEntry = 25
madt_reason_number why.BadEntryLength = 26

-- Short, at the first byte: there are fewer than the 44 bytes before the entries
abbrev pub HasShortAt : List ℕ → ℕ → Type 0
HasShortAt bytes k = (k ≡ 0) × (length bytes < 44)

-- BadSignature, at the first byte: the bytes don't begin with `APIC`
abbrev pub HasBadSignatureAt : List ℕ → ℕ → Type 0
HasBadSignatureAt bytes k = (k ≡ 0) × (44 ≤ length bytes) × (part bytes 0 4 ≢ codes "APIC")

-- BadLength, at the length: it isn't the number of bytes
abbrev pub HasBadLengthAt : List ℕ → ℕ → Type 0
HasBadLengthAt bytes k = (k ≡ 4) × (44 ≤ length bytes) × (number_at 4 bytes 4 ≢ length bytes)

-- BadSum, at the checksum: the bytes don't sum to zero
abbrev pub HasBadChecksumAt : List ℕ → ℕ → Type 0
HasBadChecksumAt bytes k = (k ≡ 9) × (44 ≤ length bytes) × (¬ SumsToZero bytes)

-- CutEntry, at the entry: earlier entries stand end to end, and one byte of it is left, or its right length passes the end
abbrev pub HasCutEntryAt : List ℕ → ℕ → Type 0
HasCutEntryAt bytes k = (44 ≤ length bytes) × IsCutEntryIn bytes 44 (length bytes) k

-- BadEntryLength, at the entry's length byte: earlier entries stand end to end, it is there and isn't that of the type
abbrev pub HasBadEntryLengthAt : List ℕ → ℕ → Type 0
HasBadEntryLengthAt bytes k = (44 ≤ length bytes) × IsBadEntryLengthIn bytes 44 (length bytes) k

-- a fault stands at the offset
abbrev pub HasMadtFaultAt : List ℕ → ℕ → MadtReason → Type 0
HasMadtFaultAt bytes k why.Short = HasShortAt bytes k
HasMadtFaultAt bytes k why.BadSignature = HasBadSignatureAt bytes k
HasMadtFaultAt bytes k why.BadLength = HasBadLengthAt bytes k
HasMadtFaultAt bytes k why.BadSum = HasBadChecksumAt bytes k
HasMadtFaultAt bytes k why.CutEntry = HasCutEntryAt bytes k
HasMadtFaultAt bytes k why.BadEntryLength = HasBadEntryLengthAt bytes k

-- the order of faults: by offset, then by number
abbrev pub madt_fault_order : ℕ → MadtReason → ℕ
madt_fault_order k why = 32 * k + madt_reason_number why

-- it stands, and no other fault is before it
pub record IsFirstMadtFault (bytes : List ℕ) (k : ℕ) (why : MadtReason) : Type 0 where
  pub stands : HasMadtFaultAt bytes k why
  pub least : (j : ℕ) (other : MadtReason) → HasMadtFaultAt bytes j other → madt_fault_order k why ≤ madt_fault_order j other
