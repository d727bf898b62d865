-- What the answer of the reader says. Where memory ran out, it says nothing.
--     IfMadtFault result p             a fault has the property
--     AnswersMadt result m             the answer is this table
--     AnswersMadtFault result k why    the answer is the fault of this reason at this place
use Rattle.std.specs.Prelude.{◌≡◌, ℕ, Result, Ok, Err}
use Rattle.mpf_madt.specs.declared.madt.Madt.{Madt}
use Rattle.mpf_madt.specs.declared.refusal.MadtReason.{MadtReason}
use Rattle.mpf_madt.specs.declared.refusal.MadtRefusal.{MadtRefusal}
use Rattle.mpf_madt.specs.declared.refusal.MadtRefusal.TheVariants as refusal

-- a fault has the property
abbrev pub IfMadtFault : {T : Type 0} → Result T MadtRefusal → (ℕ → MadtReason → Type 0) → Type 0
IfMadtFault (Ok v) p = Unit {0}
IfMadtFault (Err (refusal.Fault k why)) p = p k why
IfMadtFault (Err refusal.NoMemory) p = Unit {0}

-- the answer is this table, unless memory ran out
abbrev pub AnswersMadt : Result Madt MadtRefusal → Madt → Type 0
AnswersMadt (Ok v) m = v ≡ m
AnswersMadt (Err (refusal.Fault k why)) m = ⊥
AnswersMadt (Err refusal.NoMemory) m = Unit {0}

-- the answer is the fault of this reason at this place, unless memory ran out
abbrev pub AnswersMadtFault : {T : Type 0} → Result T MadtRefusal → ℕ → MadtReason → Type 0
AnswersMadtFault (Ok v) k why = ⊥
AnswersMadtFault (Err (refusal.Fault at reason)) k why = (at ≡ k) × (reason ≡ why)
AnswersMadtFault (Err refusal.NoMemory) k why = Unit {0}
