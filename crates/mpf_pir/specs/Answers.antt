-- What the answer of a call says. Where memory ran out, it says nothing.
--     IfPirFault result p              a fault has the property
--     AnswersPir result t              the answer is this table
--     AnswersPirFault result at why    the answer is the fault of this reason at this offset
--     IfMakeFault result p             a fault has the property
--     AnswersMakeFault result f        the answer is this fault
use Rattle.std.specs.Prelude.{◌≡◌, ℕ, Result, Ok, Err}
use Rattle.mpf_pir.specs.declared.making.MakeFault.{MakeFault}
use Rattle.mpf_pir.specs.declared.making.MakeFault.TheVariants as fault
use Rattle.mpf_pir.specs.declared.table.Pir.{Pir}
use Rattle.mpf_pir.specs.declared.table.PirReason.{PirReason}
use Rattle.mpf_pir.specs.declared.table.PirRefusal.{PirRefusal}
use Rattle.mpf_pir.specs.declared.table.PirRefusal.TheVariants as refusal

-- a fault has the property
abbrev pub IfPirFault : {T : Type 0} → Result T PirRefusal → (ℕ → PirReason → Type 0) → Type 0
IfPirFault (Ok t) p = Unit {0}
IfPirFault (Err (refusal.Fault at why)) p = p at why
IfPirFault (Err refusal.NoMemory) p = Unit {0}

-- the answer is this table, unless memory ran out
abbrev pub AnswersPir : Result Pir PirRefusal → Pir → Type 0
AnswersPir (Ok t) u = t ≡ u
AnswersPir (Err (refusal.Fault at why)) u = ⊥
AnswersPir (Err refusal.NoMemory) u = Unit {0}

-- the answer is the fault of this reason at this offset, unless memory ran out
abbrev pub AnswersPirFault : Result Pir PirRefusal → ℕ → PirReason → Type 0
AnswersPirFault (Ok t) k other = ⊥
AnswersPirFault (Err (refusal.Fault at why)) k other = (at ≡ k) × (why ≡ other)
AnswersPirFault (Err refusal.NoMemory) k other = Unit {0}

-- a fault has the property
abbrev pub IfMakeFault : {T : Type 0} → Result T MakeFault → (MakeFault → Type 0) → Type 0
IfMakeFault (Ok t) p = Unit {0}
IfMakeFault (Err fault.NoMemory) p = Unit {0}
IfMakeFault (Err (fault.ManySlots n)) p = p (fault.ManySlots n)
IfMakeFault (Err (fault.ManyLinks n)) p = p (fault.ManyLinks n)

-- the answer is this fault, unless memory ran out
abbrev pub AnswersMakeFault : {T : Type 0} → Result T MakeFault → MakeFault → Type 0
AnswersMakeFault (Ok t) f = ⊥
AnswersMakeFault (Err fault.NoMemory) f = Unit {0}
AnswersMakeFault (Err (fault.ManySlots n)) f = fault.ManySlots n ≡ f
AnswersMakeFault (Err (fault.ManyLinks n)) f = fault.ManyLinks n ≡ f
