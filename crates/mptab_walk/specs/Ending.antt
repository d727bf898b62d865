-- Why the walk ends at a file, as code says it. Only private functions of the crate cite this.
--     ending_status e, ending_text name e    the status, and the line for a file of this name
--     answer_status r, answer_text r         status and text of an answer, or want of memory for it
--     IsEnding told s file e                 the walk ends at the file for this reason
--     shelves_of S before after              the counts of a shelf at two moments
--     IsUndisturbed s                        no call failed between them, and no file was missed
use Rattle.std.specs.Prelude.{◌≡◌, ℕ, List, Option, Result, Ok, Err, ⊤}
use Rattle.mpt_base.specs.declared.outside.NoMemory.{NoMemory as NoMemoryUnit}
use Rattle.mpt_base.specs.Outside.{Files, Rose}
use Rattle.mpt_base.specs.declared.outside.Shelf.{Ghosts as ShelfOf}
use Rattle.mptab_walk.specs.declared.answer.Answer.{Answer}
use Rattle.mptab_walk.specs.declared.ending.Ending.{Ending}
use Rattle.mptab_walk.specs.declared.ending.Ending.TheVariants.{Absent, TooLarge, Unread, Refused, NoMemory}
use Rattle.mptab_walk.specs.Texts.{no_file_line, cannot_read_line, no_memory_line, too_large_line}
use Rattle.mptab_walk.specs.Forms.{Named, IsRead}
use Rattle.mptab_walk.specs.Commands.{IsRefused}
use Rattle.mptab_walk.specs.Walk.{IsAbsent, IsTooLarge}

abbrev pub ending_status : Ending → ℕ
ending_status Absent = 3
ending_status Unread = 4
ending_status (Refused answer) = answer.status
ending_status NoMemory = 9
ending_status (TooLarge size) = 10

abbrev pub ending_text : List ℕ → Ending → List ℕ
ending_text name Absent = no_file_line name
ending_text name Unread = cannot_read_line name
ending_text name (Refused answer) = answer.text.items
ending_text name NoMemory = no_memory_line
ending_text name (TooLarge size) = too_large_line name size

abbrev pub answer_status : Result Answer NoMemoryUnit → ℕ
answer_status (Ok answer) = answer.status
answer_status (Err e) = 9

abbrev pub answer_text : Result Answer NoMemoryUnit → List ℕ
answer_text (Ok answer) = answer.text.items
answer_text (Err e) = no_memory_line

-- this many misses and faults of the shelf, before and after
pub record Shelves : Type 0 where
  pub misses : ℕ
  pub misses_after : ℕ
  pub faults : ℕ
  pub faults_after : ℕ

abbrev pub shelves : ℕ → ℕ → ℕ → ℕ → Shelves
shelves misses misses_after faults faults_after = record { misses = misses; misses_after = misses_after; faults = faults; faults_after = faults_after }

-- the counts of a shelf at two moments
abbrev pub shelves_of : {X : Type 0} → ShelfOf X → X → X → Shelves
shelves_of S before after = shelves (S.misses before) (S.misses after) (S.faults before) (S.faults after)

-- no call of the shelf failed between the two moments, and none said that a file isn't there
abbrev pub IsUndisturbed : Shelves → Type 0
IsUndisturbed s = (s.faults_after ≡ s.faults) × (s.misses_after ≡ s.misses)

-- what the walk meets at the file: why it ends there, and the counts of the shelf
abbrev pub IsEnding : Option Files → Shelves → Named → Ending → Type 0
IsEnding told s file Absent = IsAbsent told file × Rose s.misses s.misses_after × (s.faults_after ≡ s.faults)
IsEnding told s file Unread = Rose s.faults s.faults_after × (s.misses_after ≡ s.misses)
IsEnding told s file (Refused answer) = IsRefused told file answer.status answer.text.items × IsUndisturbed s
IsEnding told s file NoMemory = IsRead told file (λ bytes. ⊤) × IsUndisturbed s
IsEnding told s file (TooLarge size) = IsTooLarge told file size × IsUndisturbed s
