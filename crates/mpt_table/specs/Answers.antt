-- What the answer of the reader of an image says. Where memory ran out, it says nothing.
--     IsCauseOf image refusal        the refusal has its cause in the image
--     AnswersTables result tables    the answer is these tables
--     AnswersFault result k why      the answer is the fault of this reason at this place
use Rattle.std.specs.Prelude.{◌≡◌, ℕ, List, Result, Ok, Err, ⊤}
use Rattle.mpt_base.specs.declared.fault.Reason.{Reason}
use Rattle.mpt_spec.specs.declared.tables.Tables.{Tables}
use Rattle.mpt_spec.specs.Search.{HasNoPointer, IsFirstPointerAt}
use Rattle.mpt_spec.specs.Faults.{IsFirstFault}
use Rattle.mpt_table.specs.declared.refusal.Refusal.{Refusal}
use Rattle.mpt_table.specs.declared.refusal.Refusal.TheVariants as refusal

-- the refusal has its cause in the image; memory is asked for only behind a floating pointer
abbrev pub IsCauseOf : List ℕ → Refusal → Type 0
IsCauseOf image refusal.NoPointer = HasNoPointer image
IsCauseOf image (refusal.Fault f) = IsFirstFault image f.at f.why
IsCauseOf image refusal.NoMemory = (at : ℕ) × IsFirstPointerAt image at

-- the answer is these tables, unless memory ran out
abbrev pub AnswersTables : Result Tables Refusal → Tables → Type 0
AnswersTables (Ok found) tables = found ≡ tables
AnswersTables (Err refusal.NoMemory) tables = ⊤
AnswersTables (Err _) tables = ⊥

-- the answer is the fault of this reason at this place, unless memory ran out
abbrev pub AnswersFault : Result Tables Refusal → ℕ → Reason → Type 0
AnswersFault (Err (refusal.Fault f)) k why = (f.at ≡ k) × (f.why ≡ why)
AnswersFault (Err refusal.NoMemory) k why = ⊤
AnswersFault _ k why = ⊥
