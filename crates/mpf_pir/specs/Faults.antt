-- Why bytes aren't a PCI IRQ routing table: one sentence for each reason. Numbers and order of the reasons are this project's own.
use Rattle.std.specs.Prelude.{◌≡◌, ◌≢◌, ℕ, ◌+◌, ◌*◌, ◌%◌, ◌≤◌, ◌<◌, ◌⊎◌, List, [], ◌∷◌, length, codes}
use Rattle.mpt_base.specs.Bytes.{number_at, part, SumsToZero}
use Rattle.mpf_pir.specs.declared.table.PirReason.{PirReason}
use Rattle.mpf_pir.specs.declared.table.PirReason.TheVariants as why

-- the number of a reason, as it is printed
abbrev pub pir_reason_number : PirReason → ℕ
pir_reason_number why.Short = 31
pir_reason_number why.BadSignature = 32
pir_reason_number why.BadVersion = 33
pir_reason_number why.BadSize = 34
pir_reason_number why.BadSum = 35

-- there are the 32 bytes of a header; all faults but the first suppose it
abbrev pub HasWholeHeader : List ℕ → Type 0
HasWholeHeader bytes = 32 ≤ length bytes

-- a fault stands at an offset
abbrev pub HasPirFaultAt : List ℕ → ℕ → PirReason → Type 0
HasPirFaultAt bytes at why.Short = (at ≡ 0) × (length bytes < 32)
HasPirFaultAt bytes at why.BadSignature = (at ≡ 0) × HasWholeHeader bytes × (part bytes 0 4 ≢ codes "$PIR")
HasPirFaultAt bytes at why.BadVersion = (at ≡ 4) × HasWholeHeader bytes × (part bytes 4 2 ≢ 0 ∷ 1 ∷ [])
-- the size is no multiple of 16, or not the number of the bytes
HasPirFaultAt bytes at why.BadSize = (at ≡ 6) × HasWholeHeader bytes × ((number_at 2 bytes 6 % 16 ≢ 0) ⊎ (number_at 2 bytes 6 ≢ length bytes))
HasPirFaultAt bytes at why.BadSum = (at ≡ 31) × HasWholeHeader bytes × (¬ SumsToZero bytes)

-- the order of faults: by offset, then by number
abbrev pub pir_fault_order : ℕ → PirReason → ℕ
pir_fault_order at why = 64 * at + pir_reason_number why

-- it stands, and no other fault is before it
pub record IsFirstPirFault (bytes : List ℕ) (at : ℕ) (why : PirReason) : Type 0 where
  pub stands : HasPirFaultAt bytes at why
  pub least : (k : ℕ) (other : PirReason) → HasPirFaultAt bytes k other → pir_fault_order at why ≤ pir_fault_order k other

-- no fault stands
pub record IsFaultless (bytes : List ℕ) : Type 0 where
  pub whole : HasWholeHeader bytes
  pub signature : part bytes 0 4 ≡ codes "$PIR"
  pub version : part bytes 4 2 ≡ 0 ∷ 1 ∷ []
  pub multiple : number_at 2 bytes 6 % 16 ≡ 0
  pub size : number_at 2 bytes 6 ≡ length bytes
  pub checksum : SumsToZero bytes
