-- An answer with its cause is the only one: tables, no pointer and a first fault exclude each other.
use Rattle.std.proofs.Common.{◌≡◌, ℕ, Result, Ok, Err, IfOk, IfErr, List, Option, Some, None, IfSome, IsSomeAnd, refl}
use Rattle.mpt_base.specs.declared.fault.Reason.{Reason}
use Rattle.mpt_spec.specs.declared.tables.Tables.{Tables}
use Rattle.mpt_spec.specs.Search.{HasNoPointer, HasPointerAt, search_places, IsFirstPointerAt}
use Rattle.mpt_spec.specs.Table.{Describes}
use Rattle.mpt_spec.specs.Faults.{IsFirstFault}
use Rattle.mpt_spec.proofs.SearchLemmas.{IsFirst-some}
use Rattle.mpt_spec.proofs.TableLemmas.{Describes-unique}
use Rattle.mpt_spec.proofs.FaultLemmas.{IsFirstFault-unique, Describes-no_first_fault}
use Rattle.mpt_table.specs.declared.refusal.Refusal.{Refusal}
use Rattle.mpt_table.specs.declared.refusal.Refusal.TheVariants as refusal
use Rattle.mpt_base.specs.Outside.{Files}
use Rattle.mpt_table.specs.declared.refusal.FileRefusal.{FileRefusal}
use Rattle.mpt_table.specs.declared.refusal.FileRefusal.TheVariants as unread
use Rattle.mpt_table.specs.Answers.{IsCauseOf, AnswersTables, AnswersFault}
use Rattle.mpt_table.specs.Windows.{IfTold, IsTold, IsFileCauseOf, AnswersFileTables, AnswersNoPointer, AnswersFileFault}

-- where there is a first place, there is a pointer
some_pointer : (image : List ℕ) (at : ℕ) → IsFirstPointerAt image at → ¬ HasNoPointer image
some_pointer image at first = IsFirst-some (HasPointerAt image) (search_places image) at first

pub AnswersTables-only : (image : List ℕ) (r : Result Tables Refusal) → IfOk r (Describes image) → IfErr r (IsCauseOf image) → (tables : Tables) → Describes image tables → AnswersTables r tables
AnswersTables-only image (Ok found) ok err tables d = Describes-unique image found tables ok d
AnswersTables-only image (Err refusal.NoPointer) ok err tables d = some_pointer image tables.at d.first err
AnswersTables-only image (Err (refusal.Fault f)) ok err tables d = Describes-no_first_fault image tables f.at f.why d err
AnswersTables-only image (Err refusal.NoMemory) ok err tables d = tt

pub NoPointer-only : (image : List ℕ) (r : Result Tables Refusal) → IfOk r (Describes image) → IfErr r (IsCauseOf image) → HasNoPointer image → r ≡ Err refusal.NoPointer
NoPointer-only image (Ok found) ok err none = absurd (some_pointer image found.at ok.first none)
NoPointer-only image (Err refusal.NoPointer) ok err none = refl
NoPointer-only image (Err (refusal.Fault f)) ok err none = absurd (some_pointer image err.at err.first none)
NoPointer-only image (Err refusal.NoMemory) ok err none = absurd (some_pointer image err.0 err.1 none)

pub AnswersFault-only : (image : List ℕ) (r : Result Tables Refusal) → IfOk r (Describes image) → IfErr r (IsCauseOf image) → (k : ℕ) (why : Reason) → IsFirstFault image k why → AnswersFault r k why
AnswersFault-only image (Ok found) ok err k why first = Describes-no_first_fault image found k why ok first
AnswersFault-only image (Err refusal.NoPointer) ok err k why first = some_pointer image first.at first.first err
AnswersFault-only image (Err (refusal.Fault f)) ok err k why first = IsFirstFault-unique image f.at k f.why why err first
AnswersFault-only image (Err refusal.NoMemory) ok err k why first = tt

-- ---- the same of a file that is told

-- of the bytes of a file that is there
told_bytes : (told : Option Files) (name : List ℕ) (P Q : List ℕ → Type 0) → IfTold told name P → IsTold told name Q → (image : List ℕ) × P image × Q image
told_bytes None name P Q p q = absurd q
told_bytes (Some files) name P Q p q = held (files name) p q
  where
    held : (o : Option (List ℕ)) → IfSome o P → IsSomeAnd o Q → (image : List ℕ) × P image × Q image
    held None p q = absurd q
    held (Some image) p q = (image, p, q)

pub AnswersFileTables-only : (told : Option Files) (name : List ℕ) (r : Result Tables FileRefusal) → IfOk r (λ t. IfTold told name (λ image. Describes image t)) → IfErr r (λ e. IfTold told name (λ image. IsFileCauseOf image e))
    → (tables : Tables) → IsTold told name (λ image. Describes image tables) → AnswersFileTables r tables
AnswersFileTables-only told name (Ok found) ok err tables d =
    let both = told_bytes told name (λ image. Describes image found) (λ image. Describes image tables) ok d in
    Describes-unique both.0 found tables both.1 both.2
AnswersFileTables-only told name (Err unread.NoPointer) ok err tables d =
    let both = told_bytes told name HasNoPointer (λ image. Describes image tables) err d in
    some_pointer both.0 tables.at both.2.first both.1
AnswersFileTables-only told name (Err (unread.Fault f)) ok err tables d =
    let both = told_bytes told name (λ image. IsFirstFault image f.at f.why) (λ image. Describes image tables) err d in
    Describes-no_first_fault both.0 tables f.at f.why both.2 both.1
AnswersFileTables-only told name (Err unread.Read) ok err tables d = tt
AnswersFileTables-only told name (Err unread.NoMemory) ok err tables d = tt

pub AnswersNoPointer-only : (told : Option Files) (name : List ℕ) (r : Result Tables FileRefusal) → IfOk r (λ t. IfTold told name (λ image. Describes image t)) → IfErr r (λ e. IfTold told name (λ image. IsFileCauseOf image e))
    → IsTold told name HasNoPointer → AnswersNoPointer r
AnswersNoPointer-only told name (Ok found) ok err none =
    let both = told_bytes told name (λ image. Describes image found) HasNoPointer ok none in
    some_pointer both.0 found.at both.1.first both.2
AnswersNoPointer-only told name (Err unread.NoPointer) ok err none = tt
AnswersNoPointer-only told name (Err (unread.Fault f)) ok err none =
    let both = told_bytes told name (λ image. IsFirstFault image f.at f.why) HasNoPointer err none in
    some_pointer both.0 both.1.at both.1.first both.2
AnswersNoPointer-only told name (Err unread.Read) ok err none = tt
AnswersNoPointer-only told name (Err unread.NoMemory) ok err none = tt

pub AnswersFileFault-only : (told : Option Files) (name : List ℕ) (r : Result Tables FileRefusal) → IfOk r (λ t. IfTold told name (λ image. Describes image t)) → IfErr r (λ e. IfTold told name (λ image. IsFileCauseOf image e))
    → (k : ℕ) (why : Reason) → IsTold told name (λ image. IsFirstFault image k why) → AnswersFileFault r k why
AnswersFileFault-only told name (Ok found) ok err k why first =
    let both = told_bytes told name (λ image. Describes image found) (λ image. IsFirstFault image k why) ok first in
    Describes-no_first_fault both.0 found k why both.1 both.2
AnswersFileFault-only told name (Err unread.NoPointer) ok err k why first =
    let both = told_bytes told name HasNoPointer (λ image. IsFirstFault image k why) err first in
    some_pointer both.0 both.2.at both.2.first both.1
AnswersFileFault-only told name (Err (unread.Fault f)) ok err k why first =
    let both = told_bytes told name (λ image. IsFirstFault image f.at f.why) (λ image. IsFirstFault image k why) err first in
    IsFirstFault-unique both.0 f.at k f.why why both.1 both.2
AnswersFileFault-only told name (Err unread.Read) ok err k why first = tt
AnswersFileFault-only told name (Err unread.NoMemory) ok err k why first = tt
