-- What each kind of file is understood to be or refused for, and what its files give each form. A new kind of file is a row of the first tables, a new command one of the last.
--     ImageGives told name tables, ListingGives ..    the file gives these tables
--     ScriptGives told image name s         the file gives this script
--     ReportGives told name r               the file is this report
--     MadtGives, PirGives, CallsGive        the file is this table of firmware, or the text of these calls
--     IsUnderstood told file                what the file is to be, it is
--     IsRefused told file status text       it is read and refused, with this status and line
--     WithTables gives P, WithBoard told image script P    of the tables that are given, or of those of an image and the script that describes a board with them, P holds
--     IsText told form status text          its files are understood, and this is what they give
--     IsGivenBoard told image name tables c    the config is that of the tables and the file's script
--     no_pointer_line .. unfit_line         the lines of refusals, this project's own
-- Where the files aren't told, what is left of these is the form of status and text.
use Rattle.std.specs.Prelude.{◌≡◌, ◌<◌, ◌≤◌, ℕ, ◌^◌, length, List, [], ◌∷◌, Option, None, Some, ◌⊎◌, codes, decimal, ⊤}
use Rattle.mpt_base.specs.Bytes.{IsByteList}
use Rattle.mpt_base.specs.Outside.{Files}
use Rattle.mpt_base.specs.declared.fault.Reason.{Reason}
use Rattle.mpt_base.specs.declared.fault.Reason.TheVariants as why
use Rattle.mpt_base.specs.Reason.{reason_number}
use Rattle.mpt_spec.specs.declared.tables.Tables.{Tables}
use Rattle.mpt_spec.specs.Search.{HasNoPointer}
use Rattle.mpt_spec.specs.Table.{Describes}
use Rattle.mpt_spec.specs.Canonical.{IsWellFormed, FitsInImage, block_size, canonical_of, raised_of}
use Rattle.mpt_spec.specs.Image.{image_of}
use Rattle.mpt_spec.specs.Faults.{IsFirstFault}
use Rattle.mpt_listing.specs.Listing.{line, hex, listing_of}
use Rattle.mpt_parse.specs.declared.fault.LineWhy.{LineWhy}
use Rattle.mpt_parse.specs.declared.fault.LineWhy.TheVariants as line_why
use Rattle.mpt_parse.specs.Listings.{IsListing, IsListingOf, IsFirstBadLine}
use Rattle.mpt_route.specs.Platform.{platform_of}
use Rattle.mpt_route.specs.Routes.{routes_of}
use Rattle.mpt_rules.specs.declared.rule.Finding.{Finding}
use Rattle.mpt_audit.specs.Findings.{AreFindingsOf}
use Rattle.mpt_answers.specs.RouteLines.{routes_text}
use Rattle.mpt_answers.specs.FindingLines.{findings_text}
use Rattle.mpb_spec.specs.declared.fault.BoardError.{BoardError}
use Rattle.mpb_spec.specs.Configs.{IsStartableAt}
use Rattle.mpb_spec.specs.Plan.{Plan, plan_size}
use Rattle.mpb_script.specs.declared.script.Script.{Script as AScript}
use Rattle.mpb_script.specs.declared.script.ScriptFault.{ScriptFault}
use Rattle.mpb_script.specs.Script.{IsScriptOf, HasFault}
use Rattle.mpb_script.specs.Values.{HasScriptValues}
use Rattle.mpb_boards.specs.Boot.{board_of, fault_of, IsTraceOf, IsBootOf}
use Rattle.mpb_boards.specs.Lines.{script_fault_line, board_fault_line, IsScriptFault, verdict_line}
use Rattle.mpb_tally.specs.Summary.{IsSummaryOf}
use Rattle.mpb_report_line.specs.declared.report.Report.{Report as AReport}
use Rattle.mpb_report_parse.specs.Reports.{IsReport, IsReportOf}
use Rattle.mpb_replay_laws.specs.declared.verdict.Verdict.{Verdict}
use Rattle.mpb_replay_laws.specs.declared.verdict.Verdict.TheVariants as verdict
use Rattle.mpb_replay_laws.specs.Verdict.{IsVerdict}
use Rattle.mpf_madt.specs.declared.madt.Madt.{Madt as AMadt}
use Rattle.mpf_madt.specs.declared.refusal.MadtReason.{MadtReason}
use Rattle.mpf_madt.specs.Table.{IsMadt}
use Rattle.mpf_madt.specs.Faults.{IsFirstMadtFault}
use Rattle.mpf_madt.specs.Translation.{madt_of}
use Rattle.mpf_pir.specs.declared.table.Pir.{Pir as APir}
use Rattle.mpf_pir.specs.declared.table.PirReason.{PirReason}
use Rattle.mpf_pir.specs.declared.making.MakeFault.{MakeFault}
use Rattle.mpf_pir.specs.declared.comparing.Difference.{Difference}
use Rattle.mpf_pir.specs.Layout.{IsPir}
use Rattle.mpf_pir.specs.Faults.{IsFirstPirFault}
use Rattle.mpf_pir.specs.Made.{pir_of, IsMakeFault}
use Rattle.mpf_pir.specs.Differences.{AreDifferencesOf}
use Rattle.mpf_answers.specs.FaultLines.{madt_fault_line, many_processors_line, pir_fault_line, make_fault_line}
use Rattle.mpf_answers.specs.LineDifferences.{line_differences_of, line_differences_text}
use Rattle.mpf_answers.specs.PinLines.{pin_differences_text}
use Rattle.mpf_pic_lines.specs.declared.op.PicOp.{PicOp}
use Rattle.mpf_pic_lines.specs.Lines.{IsTextOf}
use Rattle.mpf_pic_lines.specs.Lines as pic
use Rattle.mpf_played.specs.Played.{IsPlayedBehind}
use Rattle.mptab_walk.specs.Texts.{no_memory_line}
use Rattle.mptab_walk.specs.declared.words.TablesCommand.{TablesCommand}
use Rattle.mptab_walk.specs.declared.words.TablesCommand.TheVariants as tables_form
use Rattle.mptab_walk.specs.declared.words.Source.{Source}
use Rattle.mptab_walk.specs.declared.words.Source.TheVariants as source
use Rattle.mptab_walk.specs.Forms.{Form, Show, Audit, Canon, Raise, Madt, Pirmake, Build, Route, Trace, Boot, Drill, Replay, Madtcmp, Pircmp, Pic, Named, Image, Listing, Script, Report, AcpiTable, RoutingTable, Calls, limit_of, IsRead}

-- ---- the lines of refusals

-- there is no floating pointer (status 6)
abbrev pub no_pointer_line : List ℕ
no_pointer_line = line (codes "mptab: no floating pointer" ∷ [])

-- the name of a reason
abbrev pub reason_name : Reason → List ℕ
reason_name why.BadRevision = codes "BadRevision"
reason_name why.BadDefault = codes "BadDefault"
reason_name why.NoTable = codes "NoTable"
reason_name why.TableOutside = codes "TableOutside"
reason_name why.BadSignature = codes "BadSignature"
reason_name why.ShortLength = codes "ShortLength"
reason_name why.LengthOutside = codes "LengthOutside"
reason_name why.BadSum = codes "BadSum"
reason_name why.BadCount = codes "BadCount"
reason_name why.UnknownEntry = codes "UnknownEntry"
reason_name why.CutEntry = codes "CutEntry"
reason_name why.ExtOutside = codes "ExtOutside"
reason_name why.BadExtSum = codes "BadExtSum"
reason_name why.BadExtType = codes "BadExtType"
reason_name why.BadExtLength = codes "BadExtLength"
reason_name why.CutExtEntry = codes "CutExtEntry"

-- the tables are refused (status 7): number and name of the first fault's reason, and its offset in the image
abbrev pub fault_line : ℕ → Reason → List ℕ
fault_line at reason = line (codes "mptab: fault " ∷ decimal (reason_number reason) ∷ codes " " ∷ reason_name reason ∷ codes " at " ∷ hex 8 at ∷ [])

-- why a line of a listing is refused
abbrev pub line_why_name : LineWhy → List ℕ
line_why_name line_why.Form = codes "Form"
line_why_name line_why.Early = codes "Early"
line_why_name line_why.Late = codes "Late"

-- a listing is refused (status 8): its first bad line, counted from 1
abbrev pub bad_line_line : ℕ → LineWhy → List ℕ
bad_line_line n why = line (codes "mptab: listing line " ∷ decimal n ∷ codes " " ∷ line_why_name why ∷ [])

-- a report is refused (status 8): its first bad line, counted from 1
abbrev pub bad_report_line : ℕ → LineWhy → List ℕ
bad_report_line n why = line (codes "mptab: report line " ∷ decimal n ∷ codes " " ∷ line_why_name why ∷ [])

-- a text of calls is refused (status 14): its first bad line, counted from 1
abbrev pub bad_calls_line : ℕ → List ℕ
bad_calls_line n = line (codes "mptab: pic line " ∷ decimal n ∷ codes " Form" ∷ [])

-- the tables have no place in an image of 1 MiB (status 8): the bytes of their block
abbrev pub unfit_line : ℕ → List ℕ
unfit_line size = line (codes "mptab: does not fit " ∷ decimal size ∷ [])

-- ---- files

-- where the files are told, the image describes these tables
abbrev pub ImageGives : Option Files → List ℕ → Tables → Type 0
ImageGives told name tables = IsRead told (Image name) (λ image. Describes image tables)

-- where the files are told, the listing is that of these tables; they fit
abbrev pub ListingGives : Option Files → List ℕ → Tables → Type 0
ListingGives told name tables = FitsInImage tables × IsRead told (Listing name) (λ text. IsListingOf tables text)

-- where the files are told, the file gives this script
abbrev pub ScriptGives : Option Files → List ℕ → List ℕ → AScript → Type 0
ScriptGives told image name s = HasScriptValues s × IsRead told (Script image name) (λ text. IsScriptOf text s)

-- where the files are told, the file is this report
abbrev pub ReportGives : Option Files → List ℕ → AReport → Type 0
ReportGives told name r = IsRead told (Report name) (λ text. IsReportOf r text)

-- where the files are told, the file is this MADT
abbrev pub MadtGives : Option Files → List ℕ → AMadt → Type 0
MadtGives told name m = IsRead told (AcpiTable name) (λ bytes. IsMadt m bytes)

-- where the files are told, the file is this PCI IRQ routing table
abbrev pub PirGives : Option Files → List ℕ → APir → Type 0
PirGives told name t = IsRead told (RoutingTable name) (λ bytes. IsPir t bytes)

-- where the files are told, the file is the text of these calls
abbrev pub CallsGive : Option Files → List ℕ → List PicOp → Type 0
CallsGive told name ops = IsRead told (Calls name) (λ text. IsTextOf ops text)

-- of well-formed tables that are given, P holds
abbrev pub WithTables : (Tables → Type 0) → (Tables → Type 0) → Type 0
WithTables gives P = (tables : Tables) × IsWellFormed tables × (tables.at < 2 ^ 32) × gives tables × P tables

-- of the tables of the image and the script, which describe a board, P holds
abbrev pub WithBoard : Option Files → List ℕ → List ℕ → (Tables → AScript → Type 0) → Type 0
WithBoard told image script P = WithTables (ImageGives told image) (λ tables. (s : AScript) × ScriptGives told image script s × (fault_of tables s ≡ None) × P tables s)

-- what the file is to be, it is: tables are there, a script that describes a board with those of its image, a report, a table of firmware, a text of calls
abbrev pub IsUnderstood : Option Files → Named → Type 0
IsUnderstood told (Image name) = (tables : Tables) × ImageGives told name tables
IsUnderstood told (Listing name) = (tables : Tables) × ListingGives told name tables
IsUnderstood told (Report name) = (r : AReport) × ReportGives told name r
IsUnderstood told (AcpiTable name) = (m : AMadt) × MadtGives told name m
IsUnderstood told (RoutingTable name) = (t : APir) × PirGives told name t
IsUnderstood told (Calls name) = (ops : List PicOp) × CallsGive told name ops
IsUnderstood told (Script image name) = (tables : Tables) × IsWellFormed tables × ImageGives told image tables × (s : AScript) × ScriptGives told image name s × (fault_of tables s ≡ None)

-- the file is read and refused: an image without a floating pointer, or with a first fault; a listing with a first bad line, or of tables that don't fit; a script with a first fault, or one that describes no board with the tables of its image; a report with a first bad line; a MADT or a PCI IRQ routing table with a first fault; a text of calls with a first bad line
abbrev pub IsRefused : Option Files → Named → ℕ → List ℕ → Type 0
IsRefused told (Image name) status text =
    ((status ≡ 6) × IsRead told (Image name) HasNoPointer × (text ≡ no_pointer_line))
    ⊎ ((status ≡ 7) × (at : ℕ) × (why : Reason) × (at < limit_of (Image name)) × IsRead told (Image name) (λ image. IsFirstFault image at why) × (text ≡ fault_line at why))
IsRefused told (Listing name) status text =
    ((status ≡ 8) × (n : ℕ) × (why : LineWhy) × IsRead told (Listing name) (λ listing. IsFirstBadLine IsListing listing n why) × (text ≡ bad_line_line n why))
    ⊎ ((status ≡ 8) × (tables : Tables) × IsRead told (Listing name) (λ listing. IsListingOf tables listing) × (¬ FitsInImage tables) × (text ≡ unfit_line (block_size tables.body)))
IsRefused told (Script image name) status text =
    ((status ≡ 8) × (f : ScriptFault) × IsScriptFault f × IsRead told (Script image name) (λ script. HasFault script f) × (text ≡ script_fault_line f))
    ⊎ ((status ≡ 11) × (tables : Tables) × IsWellFormed tables × ImageGives told image tables × (s : AScript) × ScriptGives told image name s × (e : BoardError) × (fault_of tables s ≡ Some e) × (text ≡ board_fault_line e))
IsRefused told (Report name) status text = (status ≡ 8) × (n : ℕ) × (why : LineWhy) × IsRead told (Report name) (λ report. IsFirstBadLine IsReport report n why) × (text ≡ bad_report_line n why)
IsRefused told (AcpiTable name) status text = (status ≡ 13) × (at : ℕ) × (why : MadtReason) × IsRead told (AcpiTable name) (λ bytes. IsFirstMadtFault bytes at why) × (text ≡ madt_fault_line at why)
IsRefused told (RoutingTable name) status text = (status ≡ 15) × (at : ℕ) × (why : PirReason) × IsRead told (RoutingTable name) (λ bytes. IsFirstPirFault bytes at why) × (text ≡ pir_fault_line at why)
IsRefused told (Calls name) status text = (status ≡ 14) × (n : ℕ) × IsRead told (Calls name) (λ calls. pic.IsFirstBadLine calls n) × (text ≡ bad_calls_line n)

-- ---- forms

-- 1 where something is found
abbrev pub status_of : {A : Type 0} → List A → ℕ
status_of [] = 0
status_of (x ∷ xs) = 1

-- the listing of the tables
abbrev pub IsShown : Tables → ℕ → List ℕ → Type 0
IsShown tables status text = (status ≡ 0) × (text ≡ listing_of tables)

-- their findings
abbrev pub IsAudited : Tables → ℕ → List ℕ → Type 0
IsAudited tables status text = (findings : List Finding) × AreFindingsOf tables findings × (status ≡ status_of findings) × (text ≡ findings_text findings)

-- the image of their canonical form, where they fit
abbrev pub IsMadeCanonical : Tables → ℕ → List ℕ → Type 0
IsMadeCanonical tables status text =
    ((status ≡ 0) × FitsInImage tables × (text ≡ image_of (canonical_of tables)))
    ⊎ ((status ≡ 8) × (¬ FitsInImage tables) × (text ≡ unfit_line (block_size tables.body)))

-- the image of the tables raised to revision 1.4, where they fit
abbrev pub IsRaised : Tables → ℕ → List ℕ → Type 0
IsRaised tables status text =
    ((status ≡ 0) × FitsInImage tables × (text ≡ image_of (raised_of tables)))
    ⊎ ((status ≡ 8) × (¬ FitsInImage tables) × (text ≡ unfit_line (block_size tables.body)))

-- their image
abbrev pub IsBuilt : Tables → ℕ → List ℕ → Type 0
IsBuilt tables status text = (status ≡ 0) × (text ≡ image_of tables)

-- their routes under the edge/level control register
abbrev pub IsRouted : ℕ → Tables → ℕ → List ℕ → Type 0
IsRouted elcr tables status text = (status ≡ 0) × (text ≡ routes_text (routes_of (platform_of tables) elcr))

-- the MADT that says what they and their routes under the edge/level control register say, or how many processors are too many
abbrev pub IsMadtMade : ℕ → Tables → ℕ → List ℕ → Type 0
IsMadtMade elcr tables status text =
    let p = platform_of tables in
    ((status ≡ 0) × (length p.processors ≤ 255) × IsByteList text × IsMadt (madt_of p (routes_of p elcr)) text)
    ⊎ ((status ≡ 13) × (255 < length p.processors) × (text ≡ many_processors_line (length p.processors)))

-- the PCI IRQ routing table that says what they say, or how many slots or links are too many
abbrev pub IsPirMade : Tables → ℕ → List ℕ → Type 0
IsPirMade tables status text =
    let p = platform_of tables in
    ((status ≡ 0) × ((f : MakeFault) → ¬ IsMakeFault p f) × IsByteList text × IsPir (pir_of p) text)
    ⊎ ((status ≡ 15) × (f : MakeFault) × IsMakeFault p f × (text ≡ make_fault_line f))

-- where a MADT says other lines than their routes under the edge/level control register
abbrev pub IsMadtCompared : ℕ → Tables → AMadt → ℕ → List ℕ → Type 0
IsMadtCompared elcr tables m status text =
    let found = line_differences_of (platform_of tables) (routes_of (platform_of tables) elcr) m in
    (status ≡ status_of found) × (text ≡ line_differences_text found)

-- where they and a PCI IRQ routing table differ
abbrev pub IsPirCompared : Tables → APir → ℕ → List ℕ → Type 0
IsPirCompared tables t status text = (found : List Difference) × AreDifferencesOf (platform_of tables) t found × (status ≡ status_of found) × (text ≡ pin_differences_text found)

-- the report of the round robin of their board
abbrev pub IsTraced : Tables → AScript → ℕ → List ℕ → Type 0
IsTraced tables s status text = (status ≡ 0) × IsTraceOf (board_of tables s) text

-- the report of one boot, which starts the other processors at the script's page
abbrev pub IsBooted : Tables → AScript → ℕ → List ℕ → Type 0
IsBooted tables s status text = (status ≡ 0) × IsBootOf s.page (board_of tables s) text

-- what calls of the pair of 8259A answer, wired as the round robin leaves their board
abbrev pub IsPlayed : Tables → AScript → List PicOp → ℕ → List ℕ → Type 0
IsPlayed tables s ops status text = (status ≡ 0) × IsPlayedBehind (board_of tables s) (platform_of tables) ops text

-- the summary of the drill of a number
abbrev pub IsDrilled : ℕ → ℕ → List ℕ → Type 0
IsDrilled n status text = (status ≡ 0) × IsSummaryOf n text

-- 1 where the verdict is another than Legal
abbrev pub verdict_status : Verdict → ℕ
verdict_status verdict.Legal = 0
verdict_status v = 1

-- the verdict on a report of the board of this plan
abbrev pub IsJudged : Plan → AReport → ℕ → List ℕ → Type 0
IsJudged c r status text = (v : Verdict) × IsVerdict c r v × (status ≡ verdict_status v) × (text ≡ verdict_line v)

-- what a form gives whose files are understood
abbrev pub IsText : Option Files → Form → ℕ → List ℕ → Type 0
IsText told (Show image) status text = WithTables (ImageGives told image) (λ tables. IsShown tables status text)
IsText told (Audit image) status text = WithTables (ImageGives told image) (λ tables. IsAudited tables status text)
IsText told (Canon image) status text = WithTables (ImageGives told image) (λ tables. IsMadeCanonical tables status text)
IsText told (Raise image) status text = WithTables (ImageGives told image) (λ tables. IsRaised tables status text)
IsText told (Madt image elcr) status text = WithTables (ImageGives told image) (λ tables. IsMadtMade elcr tables status text)
IsText told (Pirmake image) status text = WithTables (ImageGives told image) (λ tables. IsPirMade tables status text)
IsText told (Build listing) status text = WithTables (ListingGives told listing) (λ tables. IsBuilt tables status text)
IsText told (Route image elcr) status text = WithTables (ImageGives told image) (λ tables. IsRouted elcr tables status text)
IsText told (Trace image script) status text = WithBoard told image script (λ tables s. IsTraced tables s status text)
IsText told (Boot image script) status text = WithBoard told image script (λ tables s. IsBooted tables s status text)
IsText told (Drill n) status text = IsDrilled n status text
IsText told (Replay image script report) status text = WithBoard told image script (λ tables s. (r : AReport) × ReportGives told report r × IsJudged (board_of tables s) r status text)
IsText told (Madtcmp image elcr madt) status text = WithTables (ImageGives told image) (λ tables. (m : AMadt) × MadtGives told madt m × IsMadtCompared elcr tables m status text)
IsText told (Pircmp image table) status text = WithTables (ImageGives told image) (λ tables. (t : APir) × PirGives told table t × IsPirCompared tables t status text)
IsText told (Pic image script calls) status text = WithBoard told image script (λ tables s. (ops : List PicOp) × CallsGive told calls ops × IsPlayed tables s ops status text)

-- ---- the same as code says it; private functions cite this

-- the file gives these tables
abbrev pub GivesTables : Option Files → Source → Tables → Type 0
GivesTables told (source.Image name) tables = ImageGives told name.now tables
GivesTables told (source.Listing name) tables = ListingGives told name.now tables

-- what tables give a form over them
abbrev pub IsAnswerTo : TablesCommand → Tables → ℕ → List ℕ → Type 0
IsAnswerTo (tables_form.Show image) = IsShown
IsAnswerTo (tables_form.Audit image) = IsAudited
IsAnswerTo (tables_form.Canon image) = IsMadeCanonical
IsAnswerTo (tables_form.Raise image) = IsRaised
IsAnswerTo (tables_form.Madt image elcr) = IsMadtMade elcr
IsAnswerTo (tables_form.Pirmake image) = IsPirMade
IsAnswerTo (tables_form.Build listing) = IsBuilt
IsAnswerTo (tables_form.Route image elcr) = IsRouted elcr

-- what code has to know of them beside that they are well formed
abbrev pub IsReadyFor : TablesCommand → Tables → Type 0
IsReadyFor (tables_form.Show image) tables = ⊤
IsReadyFor (tables_form.Audit image) tables = ⊤
IsReadyFor (tables_form.Canon image) tables = ⊤
IsReadyFor (tables_form.Raise image) tables = ⊤
IsReadyFor (tables_form.Madt image elcr) tables = ⊤
IsReadyFor (tables_form.Pirmake image) tables = ⊤
IsReadyFor (tables_form.Build listing) tables = FitsInImage tables
IsReadyFor (tables_form.Route image elcr) tables = ⊤

-- what a drill comes to: its summary, or want of memory
abbrev pub IsDrillDue : ℕ → ℕ → List ℕ → Type 0
IsDrillDue n status text = IsDrilled n status text ⊎ ((status ≡ 9) × (text ≡ no_memory_line))

-- the config of a board that the file's script describes with these tables
pub record IsGivenBoard (told : Option Files) (image name : List ℕ) (tables : Tables) (c : Plan) : Type 0 where
  pub script : AScript
  pub gives : ScriptGives told image name script
  pub sound : fault_of tables script ≡ None
  pub config : c ≡ board_of tables script
  pub startable : IsStartableAt script.page c
  pub small : plan_size c < 2 ^ 32
