-- A file that is read whole, as code says it. Only private functions of the crate cite this.
--     IsHeldWithin told name limit bytes    where the files are told, these are the bytes of the file of that name; they are within the limit
--     most_within told name limit           the most bytes that are asked for of a file of that name and limit
--     IsUnreadEnding s e                    the walk ends since the shelf failed, or for want of memory
--     IsRefusedBy refuses e                 the walk ends with a refusal, for which the bytes have this cause, or for want of memory
use Rattle.std.specs.Prelude.{◌≡◌, ◌≤◌, ℕ, List, length, Option, Some, None, ⊤, nat_lt, if◌then◌else◌, ◌⊎◌}
use Rattle.mpt_base.specs.Outside.{Files, IsSizeTold, Rose}
use Rattle.mpt_table.specs.Windows.{IfTold}
use Rattle.mpt_spec.specs.declared.tables.Tables.{Tables}
use Rattle.mpt_spec.specs.Canonical.{FitsInImage, block_size}
use Rattle.mpt_parse.specs.declared.fault.LineWhy.{LineWhy}
use Rattle.mpt_parse.specs.Listings.{IsListing, IsListingOf, IsFirstBadLine}
use Rattle.mpb_report_parse.specs.Reports.{IsReport}
use Rattle.mpf_madt.specs.declared.refusal.MadtReason.{MadtReason}
use Rattle.mpf_madt.specs.Faults.{IsFirstMadtFault}
use Rattle.mpf_pir.specs.declared.table.PirReason.{PirReason}
use Rattle.mpf_pir.specs.Faults.{IsFirstPirFault}
use Rattle.mpf_pic_lines.specs.Lines as pic
use Rattle.mpf_answers.specs.FaultLines.{madt_fault_line, pir_fault_line}
use Rattle.mptab_walk.specs.declared.ending.Ending.{Ending}
use Rattle.mptab_walk.specs.declared.ending.Ending.TheVariants.{Absent, TooLarge, Unread, Refused, NoMemory}
use Rattle.mptab_walk.specs.Commands.{bad_calls_line, bad_line_line, unfit_line, bad_report_line}
use Rattle.mptab_walk.specs.Ending.{Shelves, IsUndisturbed}

-- where the files are told, there is a file of that name with these bytes; they are within the limit
pub record IsHeldWithin (told : Option Files) (name : List ℕ) (limit : ℕ) (bytes : List ℕ) : Type 0 where
  pub within : length bytes ≤ limit
  pub size : IsSizeTold told name (Some (length bytes))
  pub held : IfTold told name (λ file. file ≡ bytes)

-- none where the files are told, and it isn't there or passes the limit
abbrev pub most_held : Option (List ℕ) → ℕ → ℕ
most_held None limit = 0
most_held (Some bytes) limit = if nat_lt limit (length bytes) then 0 else length bytes

abbrev pub most_within : Option Files → List ℕ → ℕ → ℕ
most_within None name limit = limit
most_within (Some files) name limit = most_held (files name) limit

-- the shelf failed, or memory ran out
abbrev pub IsUnreadEnding : Shelves → Ending → Type 0
IsUnreadEnding s Unread = Rose s.faults s.faults_after × (s.misses_after ≡ s.misses)
IsUnreadEnding s NoMemory = IsUndisturbed s
IsUnreadEnding s Absent = ⊥
IsUnreadEnding s (TooLarge size) = ⊥
IsUnreadEnding s (Refused answer) = ⊥

-- a refusal with such a status and text, or want of memory
abbrev pub IsRefusedBy : (ℕ → List ℕ → Type 0) → Ending → Type 0
IsRefusedBy refuses (Refused answer) = refuses answer.status answer.text.items
IsRefusedBy refuses NoMemory = ⊤
IsRefusedBy refuses Absent = ⊥
IsRefusedBy refuses Unread = ⊥
IsRefusedBy refuses (TooLarge size) = ⊥

-- what is said of bytes that are no MADT, no PCI IRQ routing table, no text of calls, no listing of tables that fit, no report
abbrev pub RefusesMadt : List ℕ → ℕ → List ℕ → Type 0
RefusesMadt bytes status text = (status ≡ 13) × (at : ℕ) × (why : MadtReason) × IsFirstMadtFault bytes at why × (text ≡ madt_fault_line at why)

abbrev pub RefusesPir : List ℕ → ℕ → List ℕ → Type 0
RefusesPir bytes status text = (status ≡ 15) × (at : ℕ) × (why : PirReason) × IsFirstPirFault bytes at why × (text ≡ pir_fault_line at why)

abbrev pub RefusesCalls : List ℕ → ℕ → List ℕ → Type 0
RefusesCalls bytes status text = (status ≡ 14) × (n : ℕ) × pic.IsFirstBadLine bytes n × (text ≡ bad_calls_line n)

abbrev pub RefusesListing : List ℕ → ℕ → List ℕ → Type 0
RefusesListing text status answer =
    ((status ≡ 8) × (n : ℕ) × (why : LineWhy) × IsFirstBadLine IsListing text n why × (answer ≡ bad_line_line n why))
    ⊎ ((status ≡ 8) × (tables : Tables) × IsListingOf tables text × (¬ FitsInImage tables) × (answer ≡ unfit_line (block_size tables.body)))

abbrev pub RefusesReport : List ℕ → ℕ → List ℕ → Type 0
RefusesReport text status answer = (status ≡ 8) × (n : ℕ) × (why : LineWhy) × IsFirstBadLine IsReport text n why × (answer ≡ bad_report_line n why)
