-- The listed forms as data: what the words of each are, and which files it names, in their order. A new command is a row of each table.
--     IsForm form words              the words are this form
--     files_of form                  the files that it names, in the order of the words, each with what it is to be; there may be none
--     name_of, limit_of, most_asked  name, limit, and most bytes that are asked for of such a file with so many
--     IsStill form                   it needs no threads
--     IsRead told file P             where the files are told, the file is there, within its limit, and P holds of its bytes
use Rattle.std.specs.Prelude.{◌≡◌, ◌≤◌, ◌<◌, ℕ, List, [], ◌∷◌, length, codes, decimal, ⊤, Option, Some, IfSome, IsSomeAnd}
use Rattle.mpt_base.specs.Outside.{Files}
use Rattle.mpt_answers.specs.Elcr.{elcr_of}
use Rattle.mptab_walk.specs.declared.words.Command.{Command}
use Rattle.mptab_walk.specs.declared.words.Command.TheVariants as command
use Rattle.mptab_walk.specs.declared.words.StillCommand.{StillCommand}
use Rattle.mptab_walk.specs.declared.words.StillCommand.TheVariants as still
use Rattle.mptab_walk.specs.declared.words.TablesCommand.{TablesCommand}
use Rattle.mptab_walk.specs.declared.words.TablesCommand.TheVariants as tables
use Rattle.mptab_walk.specs.declared.words.Source.{Source}
use Rattle.mptab_walk.specs.declared.words.Source.TheVariants as source

-- a form, with the names of its files
pub data Form : Type 0 where
  Show : (image : List ℕ) → Form
  Audit : (image : List ℕ) → Form
  Canon : (image : List ℕ) → Form
  Raise : (image : List ℕ) → Form
  Madt : (image : List ℕ) → (elcr : ℕ) → Form
  Pirmake : (image : List ℕ) → Form
  Build : (listing : List ℕ) → Form
  Route : (image : List ℕ) → (elcr : ℕ) → Form
  Trace : (image : List ℕ) → (script : List ℕ) → Form
  Boot : (image : List ℕ) → (script : List ℕ) → Form
  Drill : (n : ℕ) → Form
  Replay : (image : List ℕ) → (script : List ℕ) → (report : List ℕ) → Form
  Madtcmp : (image : List ℕ) → (elcr : ℕ) → (madt : List ℕ) → Form
  Pircmp : (image : List ℕ) → (table : List ℕ) → Form
  Pic : (image : List ℕ) → (script : List ℕ) → (calls : List ℕ) → Form

-- a file that a form names, by what it is to be; a script is judged with the image whose tables it is for
pub data Named : Type 0 where
  Image : (name : List ℕ) → Named
  Listing : (name : List ℕ) → Named
  Script : (image : List ℕ) → (name : List ℕ) → Named
  Report : (name : List ℕ) → Named
  AcpiTable : (name : List ℕ) → Named
  RoutingTable : (name : List ℕ) → Named
  Calls : (name : List ℕ) → Named

-- the words are this form
abbrev pub IsForm : Form → List (List ℕ) → Type 0
IsForm (Show image) words = words ≡ codes "show" ∷ image ∷ []
IsForm (Audit image) words = words ≡ codes "audit" ∷ image ∷ []
IsForm (Canon image) words = words ≡ codes "canon" ∷ image ∷ []
IsForm (Raise image) words = words ≡ codes "raise" ∷ image ∷ []
IsForm (Madt image elcr) words = (word : List ℕ) × (words ≡ codes "madt" ∷ image ∷ word ∷ []) × (elcr_of word ≡ Some elcr)
IsForm (Pirmake image) words = words ≡ codes "pirmake" ∷ image ∷ []
IsForm (Build listing) words = words ≡ codes "build" ∷ listing ∷ []
IsForm (Route image elcr) words = (word : List ℕ) × (words ≡ codes "route" ∷ image ∷ word ∷ []) × (elcr_of word ≡ Some elcr)
IsForm (Trace image script) words = words ≡ codes "trace" ∷ image ∷ script ∷ []
IsForm (Boot image script) words = words ≡ codes "boot" ∷ image ∷ script ∷ []
IsForm (Drill n) words = (n < 10000) × (words ≡ codes "drill" ∷ decimal n ∷ [])
IsForm (Replay image script report) words = words ≡ codes "replay" ∷ image ∷ script ∷ report ∷ []
IsForm (Madtcmp image elcr madt) words = (word : List ℕ) × (words ≡ codes "madtcmp" ∷ image ∷ word ∷ madt ∷ []) × (elcr_of word ≡ Some elcr)
IsForm (Pircmp image table) words = words ≡ codes "pircmp" ∷ image ∷ table ∷ []
IsForm (Pic image script calls) words = words ≡ codes "pic" ∷ image ∷ script ∷ calls ∷ []

-- the files that a form names, in the order of the words
abbrev pub files_of : Form → List Named
files_of (Show image) = Image image ∷ []
files_of (Audit image) = Image image ∷ []
files_of (Canon image) = Image image ∷ []
files_of (Raise image) = Image image ∷ []
files_of (Madt image elcr) = Image image ∷ []
files_of (Pirmake image) = Image image ∷ []
files_of (Build listing) = Listing listing ∷ []
files_of (Route image elcr) = Image image ∷ []
files_of (Trace image script) = Image image ∷ Script image script ∷ []
files_of (Boot image script) = Image image ∷ Script image script ∷ []
files_of (Drill n) = []
files_of (Replay image script report) = Image image ∷ Script image script ∷ Report report ∷ []
files_of (Madtcmp image elcr madt) = Image image ∷ AcpiTable madt ∷ []
files_of (Pircmp image table) = Image image ∷ RoutingTable table ∷ []
files_of (Pic image script calls) = Image image ∷ Script image script ∷ Calls calls ∷ []

-- the form needs no threads: each but a boot
abbrev pub IsStill : Form → Type 0
IsStill (Show image) = ⊤
IsStill (Audit image) = ⊤
IsStill (Canon image) = ⊤
IsStill (Raise image) = ⊤
IsStill (Madt image elcr) = ⊤
IsStill (Pirmake image) = ⊤
IsStill (Build listing) = ⊤
IsStill (Route image elcr) = ⊤
IsStill (Trace image script) = ⊤
IsStill (Boot image script) = ⊥
IsStill (Drill n) = ⊤
IsStill (Replay image script report) = ⊤
IsStill (Madtcmp image elcr madt) = ⊤
IsStill (Pircmp image table) = ⊤
IsStill (Pic image script calls) = ⊤

-- the form is listed
abbrev pub IsAny : Form → Type 0
IsAny form = ⊤

abbrev pub name_of : Named → List ℕ
name_of (Image name) = name
name_of (Listing name) = name
name_of (Script image name) = name
name_of (Report name) = name
name_of (AcpiTable name) = name
name_of (RoutingTable name) = name
name_of (Calls name) = name

-- the most bytes of such a file: 16 MiB of an image, 4 MiB of a listing, 1 MiB of a script, 256 MiB of a report, 1 MiB of a table of firmware or of calls
abbrev pub limit_of : Named → ℕ
limit_of (Image name) = 16777216
limit_of (Listing name) = 4194304
limit_of (Script image name) = 1048576
limit_of (Report name) = 268435456
limit_of (AcpiTable name) = 1048576
limit_of (RoutingTable name) = 1048576
limit_of (Calls name) = 1048576

-- the most bytes that are asked for of such a file of this size: an image is read by windows, each other file once
abbrev pub most_asked : Named → ℕ → ℕ
most_asked (Image name) size = 197694
most_asked (Listing name) size = size
most_asked (Script image name) size = size
most_asked (Report name) size = size
most_asked (AcpiTable name) size = size
most_asked (RoutingTable name) size = size
most_asked (Calls name) size = size

-- where the files are told, the file is there, within its limit, and P holds of its bytes
abbrev pub IsRead : Option Files → Named → (List ℕ → Type 0) → Type 0
IsRead told file P = IfSome told (λ files. IsSomeAnd (files (name_of file)) (λ bytes. (length bytes ≤ limit_of file) × P bytes))

-- ---- the same as code says it; private functions cite this

abbrev pub form_of_tables : TablesCommand → Form
form_of_tables (tables.Show image) = Show image.now
form_of_tables (tables.Audit image) = Audit image.now
form_of_tables (tables.Canon image) = Canon image.now
form_of_tables (tables.Raise image) = Raise image.now
form_of_tables (tables.Madt image elcr) = Madt image.now elcr
form_of_tables (tables.Pirmake image) = Pirmake image.now
form_of_tables (tables.Build listing) = Build listing.now
form_of_tables (tables.Route image elcr) = Route image.now elcr

-- the one file of a form over tables
abbrev pub file_of_tables : TablesCommand → Named
file_of_tables (tables.Show image) = Image image.now
file_of_tables (tables.Audit image) = Image image.now
file_of_tables (tables.Canon image) = Image image.now
file_of_tables (tables.Raise image) = Image image.now
file_of_tables (tables.Madt image elcr) = Image image.now
file_of_tables (tables.Pirmake image) = Image image.now
file_of_tables (tables.Build listing) = Listing listing.now
file_of_tables (tables.Route image elcr) = Image image.now

abbrev pub form_of_still : StillCommand → Form
form_of_still (still.OfTables c) = form_of_tables c
form_of_still (still.Trace files) = Trace files.image.now files.script.now
form_of_still (still.Drill n) = Drill n
form_of_still (still.Replay files) = Replay files.board.image.now files.board.script.now files.report.now
form_of_still (still.Madtcmp files) = Madtcmp files.image.now files.elcr files.madt.now
form_of_still (still.Pircmp files) = Pircmp files.image.now files.table.now
form_of_still (still.Pic files) = Pic files.board.image.now files.board.script.now files.calls.now

abbrev pub form_of : Command → Form
form_of (command.Still c) = form_of_still c
form_of (command.Boot files) = Boot files.image.now files.script.now

-- the number of a drill is one of those that there are
abbrev pub IsInRange : StillCommand → Type 0
IsInRange (still.OfTables c) = ⊤
IsInRange (still.Trace files) = ⊤
IsInRange (still.Drill n) = n < 10000
IsInRange (still.Replay files) = ⊤
IsInRange (still.Madtcmp files) = ⊤
IsInRange (still.Pircmp files) = ⊤
IsInRange (still.Pic files) = ⊤

abbrev pub named_of : Source → Named
named_of (source.Image name) = Image name.now
named_of (source.Listing name) = Listing name.now
