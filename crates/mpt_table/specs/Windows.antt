-- What the reader by windows says of a file whose bytes may be told. Where they aren't, two windows need not agree.
--     IfTold told name P           where the files are told, P holds of the bytes of the file of that name
--     IsTold told name P           the files are told, the file is there, and P holds of its bytes
--     IsAreaIn size area           an area of the search in a file of this size
--     IsFoundAmong ..              a floating pointer, the first of these places where the files are told
--     area_bytes areas             the bytes of these areas
--     AnswersFileTables, AnswersNoPointer, AnswersFileFault    the answer, unless a read failed or memory ran out
use Rattle.std.specs.Prelude.{◌≡◌, ℕ, ◌+◌, ◌-◌, ◌%◌, ◌≤◌, ◌<◌, ◌^◌, ◌⊎◌, List, [], ◌∷◌, Option, None, Some, IfSome, IsSomeAnd, Result, Ok, Err, ⊤}
use Rattle.mpt_base.specs.declared.fault.Reason.{Reason}
use Rattle.mpt_spec.specs.declared.tables.Tables.{Tables}
use Rattle.mpt_base.specs.Bytes.{part}
use Rattle.mpt_base.specs.Outside.{Files}
use Rattle.mpt_spec.specs.declared.pointer.Pointer.{Pointer}
use Rattle.mpt_spec.specs.declared.pointer.Area.{Area}
use Rattle.mpt_spec.specs.Pointer.{IsFloatingPointer}
use Rattle.mpt_spec.specs.Search.{IsFirst, HasPointerAt, HasNoPointer}
use Rattle.mpt_spec.specs.Faults.{IsFirstFault}
use Rattle.mpt_base.specs.declared.fault.Fault.{Fault}
use Rattle.mpt_table.specs.declared.refusal.FileRefusal.{FileRefusal}
use Rattle.mpt_table.specs.declared.refusal.FileRefusal.TheVariants as refusal

-- where the files are told, P holds of the bytes of the file of that name
abbrev pub IfTold : Option Files → List ℕ → (List ℕ → Type 0) → Type 0
IfTold None name P = ⊤
IfTold (Some files) name P = IfSome (files name) P

-- an area that lies in a file of this size, and begins at a multiple of 16 where it isn't empty
pub record IsAreaIn (size : ℕ) (area : Area) : Type 0 where
  pub order : area.from ≤ area.to
  pub inside : area.to ≤ size
  pub paragraph : (area.from % 16 ≡ 0) ⊎ (area.from ≡ area.to)
  pub low : area.to < 2 ^ 31
  pub short : area.to - area.from ≤ 65536

-- the bytes of these areas
abbrev pub area_bytes : List Area → ℕ
area_bytes [] = 0
area_bytes (area ∷ areas) = (area.to - area.from) + area_bytes areas

-- a place of the search in a file of this size, where 16 bytes are
pub record IsPlaceIn (size at : ℕ) : Type 0 where
  pub paragraph : at % 16 ≡ 0
  pub inside : at + 16 ≤ size
  pub low : at < 2 ^ 32

-- where the files are told, this floating pointer stands at the place, the first of these
abbrev pub IsFoundAmong : Option Files → List ℕ → List ℕ → ℕ → Pointer → Type 0
IsFoundAmong told name places at p = IfTold told name (λ image. IsFirst (HasPointerAt image) places at × IsFloatingPointer p (part image at 16))

-- a fault has the property
abbrev pub IfFaultOf : FileRefusal → (Fault → Type 0) → Type 0
IfFaultOf (refusal.Fault f) P = P f
IfFaultOf _ P = ⊤

-- the refusal has its cause in the image; failed reads and want of memory have none there
abbrev pub IsFileCauseOf : List ℕ → FileRefusal → Type 0
IsFileCauseOf image refusal.NoPointer = HasNoPointer image
IsFileCauseOf image (refusal.Fault f) = IsFirstFault image f.at f.why
IsFileCauseOf image _ = ⊤

-- what stands in the way of one table: a fault, a failed read or want of memory
abbrev pub IsTableRefusal : FileRefusal → Type 0
IsTableRefusal refusal.NoPointer = ⊥
IsTableRefusal _ = ⊤

-- the files are told, the file of that name is there, and P holds of its bytes
abbrev pub IsTold : Option Files → List ℕ → (List ℕ → Type 0) → Type 0
IsTold told name P = IsSomeAnd told (λ files. IsSomeAnd (files name) P)

-- the answer is these tables, unless a read failed or memory ran out
abbrev pub AnswersFileTables : Result Tables FileRefusal → Tables → Type 0
AnswersFileTables (Ok found) tables = found ≡ tables
AnswersFileTables (Err refusal.NoPointer) tables = ⊥
AnswersFileTables (Err (refusal.Fault f)) tables = ⊥
AnswersFileTables (Err _) tables = ⊤

-- the answer is that there is no floating pointer, unless a read failed or memory ran out
abbrev pub AnswersNoPointer : Result Tables FileRefusal → Type 0
AnswersNoPointer (Ok found) = ⊥
AnswersNoPointer (Err (refusal.Fault f)) = ⊥
AnswersNoPointer (Err _) = ⊤

-- the answer is the fault of this reason at this place, unless a read failed or memory ran out
abbrev pub AnswersFileFault : Result Tables FileRefusal → ℕ → Reason → Type 0
AnswersFileFault (Ok found) k why = ⊥
AnswersFileFault (Err refusal.NoPointer) k why = ⊥
AnswersFileFault (Err (refusal.Fault f)) k why = (f.at ≡ k) × (f.why ≡ why)
AnswersFileFault (Err _) k why = ⊤
