-- What the answer of a reader of entries says. Where memory ran out, it says nothing.
--     IfFault result p             a fault has the property
--     AnswersEntries result es     the answer is these entries
--     AnswersFault result k why    the answer is the fault of this reason at this place
use Rattle.std.specs.Prelude.{◌≡◌, ℕ, List, Result, Ok, Err, Vec}
use Rattle.mpt_base.specs.declared.fault.Fault.{Fault}
use Rattle.mpt_base.specs.declared.fault.Reason.{Reason}
use Rattle.mpt_entries.specs.declared.stop.Stop.{Stop}
use Rattle.mpt_entries.specs.declared.stop.Stop.TheVariants as stop

-- a fault has the property
abbrev pub IfFault : {T : Type 0} → Result T Stop → (Fault → Type 0) → Type 0
IfFault (Ok v) p = Unit {0}
IfFault (Err (stop.Fault f)) p = p f
IfFault (Err stop.NoMemory) p = Unit {0}

-- the answer is these entries, unless memory ran out
abbrev pub AnswersEntries : {T Z : Type 0} → Result (Vec T Z) Stop → List T → Type 0
AnswersEntries (Ok v) es = v.items ≡ es
AnswersEntries (Err (stop.Fault f)) es = ⊥
AnswersEntries (Err stop.NoMemory) es = Unit {0}

-- the answer is the fault of this reason at this place, unless memory ran out
abbrev pub AnswersFault : {T : Type 0} → Result T Stop → ℕ → Reason → Type 0
AnswersFault (Ok v) k why = ⊥
AnswersFault (Err (stop.Fault f)) k why = (f.at ≡ k) × (f.why ≡ why)
AnswersFault (Err stop.NoMemory) k why = Unit {0}
