-- The rows of the laws: what a new form or a new kind of file adds.
use Rattle.std.proofs.Common.{get_or, ◌≡◌, ℕ, zero, suc, ◌^◌, ◌≤◌, ◌<◌, List, [], ◌∷◌, length, Option, Some, None, IfSome, IsSomeAnd, refl, sym, subst, ◌∙◌, ap, inl, inr, ◌⊎◌, arith}
use Rattle.std.specs.Prelude.{codes, decimal, ⊤}
use Rattle.std.specs.Str.Parse.{digits_value}
use Rattle.std.proofs.lemmas.Bool.{cases_lt}
use Rattle.std.proofs.lemmas.Fmt.{decimal_is_IsNumeral}
use Rattle.std.specs.List.{AllByRecursion}
use Rattle.mpt_base.specs.Outside.{Files}
use Rattle.mpt_spec.specs.declared.tables.Tables.{Tables}
use Rattle.mpt_spec.specs.Search.{HasPointerAt, HasNoPointer, search_places}
use Rattle.mpt_spec.specs.Table.{Describes}
use Rattle.mpt_spec.specs.Faults.{IsFirstFault}
use Rattle.mpt_spec.specs.Canonical.{IsWellFormed, FitsInImage, block_size, canonical_of, raised_of}
use Rattle.mpt_spec.specs.Image.{image_of}
use Rattle.mpt_parse.specs.declared.fault.LineWhy.{LineWhy}
use Rattle.mpt_parse.specs.Listings.{IsListing, IsListingOf, IsFirstBadLine}
use Rattle.mpt_parse.proofs.Unique.{bad_line_is_one, listing_is_not_bad, listing_is_one}
use Rattle.mpt_listing_laws.proofs.Complete.{every_text}
use Rattle.mpt_route.specs.Platform.{platform_of}
use Rattle.mpt_route.specs.Routes.{routes_of}
use Rattle.mpt_answers.specs.Elcr.{elcr_of}
use Rattle.mpt_answers.specs.RouteLines.{routes_text}
use Rattle.mpt_answers.specs.FindingLines.{findings_text}
use Rattle.mpt_audit.proofs.OneLemmas.{findings-one}
use Rattle.mpt_audit_laws.proofs.SomeLemmas.{findings-some}
use Rattle.mptab_laws.proofs.FitLaws.{fits_decided}
use Rattle.mpt_spec.proofs.SearchLemmas.{IsFirst-some}
use Rattle.mpt_spec.proofs.TableLemmas.{Describes-unique}
use Rattle.mpt_spec.proofs.FaultLemmas.{IsFirstFault-unique, IsFirstFault-inside, Describes-no_first_fault}
use Rattle.mpt_listing.specs.Listing.{listing_of}
use Rattle.mpt_base.specs.Bytes.{IsByteList}
use Rattle.mpt_laws.specs.Laws.{IsDescribed, HasFirstFault}
use Rattle.mpt_laws.proofs.Judgment.{image-judged}
use Rattle.mpt_laws.proofs.EntryJudgment.{Decided, decided-list}
use Rattle.mpt_spec.proofs.WellFormedLemmas.{Describes-well_formed, Describes-below_4_gib}
use Rattle.mpt_spec.specs.Values.{IsTablesValue}
use Rattle.mpt_spec.proofs.ValueLemmas.{Describes-value}
use Rattle.mpb_spec.specs.declared.fault.BoardError.{BoardError}
use Rattle.mpb_script.specs.declared.script.Script.{Script as AScript}
use Rattle.mpb_script.specs.declared.script.ScriptFault.{ScriptFault}
use Rattle.mpb_script.specs.declared.script.ScriptFault.TheVariants as script_fault
use Rattle.mpb_script.specs.Script.{IsScriptOf, HasFault}
use Rattle.mpb_script.proofs.AnswerLemmas.{HasFault-unique, IsScriptOf-no_fault, IsScriptOf-unique}
use Rattle.mpb_script.proofs.ValueLemmas.{IsScriptOf-values}
use Rattle.mpb_script_laws.specs.Laws.{IsScript, IsRefused as IsScriptRefused}
use Rattle.mpb_script_laws.proofs.Judgment.{judged}
use Rattle.mpb_boards.specs.Boot.{board_of, fault_of, IsTraceOf}
use Rattle.mpb_boards.specs.Lines.{script_fault_line, board_fault_line, IsScriptFault, verdict_line}
use Rattle.mpb_report_line.specs.declared.report.Report.{Report as AReport}
use Rattle.mpb_report_parse.specs.Reports.{IsReport, IsReportOf}
use Rattle.mpb_report_laws.proofs.Complete.{every_text as every_report_text}
use Rattle.mpb_report_parse.proofs.Unique.{report_is_one, report_is_not_bad, bad_line_is_one as bad_report_is_one}
use Rattle.mpb_spec.specs.Plan.{Plan}
use Rattle.mpb_replay_laws.specs.declared.verdict.Verdict.{Verdict}
use Rattle.mpb_replay_laws.specs.Verdict.{IsVerdict}
use Rattle.mpb_replay_laws.proofs.OneVerdict.{same_verdict}
use Rattle.mpb_replay_laws.proofs.Settling.{some_verdict}
use Rattle.mpf_madt.specs.declared.madt.Madt.{Madt as AMadt}
use Rattle.mpf_madt.specs.declared.refusal.MadtReason.{MadtReason}
use Rattle.mpf_madt.specs.Table.{IsMadt}
use Rattle.mpf_madt.specs.Faults.{IsFirstMadtFault}
use Rattle.mpf_madt.proofs.FaultLemmas.{IsMadt-unique, IsMadt-no_fault, IsFirstMadtFault-unique}
use Rattle.mpf_pir.specs.declared.table.Pir.{Pir as APir}
use Rattle.mpf_pir.specs.declared.table.PirReason.{PirReason}
use Rattle.mpf_pir.specs.Layout.{IsPir}
use Rattle.mpf_pir.specs.Faults.{IsFirstPirFault}
use Rattle.mpf_pir.proofs.LayoutLemmas.{IsPir-one}
use Rattle.mpf_pir.proofs.FaultLemmas.{IsPir-faultless}
use Rattle.mpf_laws.specs.Laws.{HasMadt, HasFirstMadtFault, HasPir, HasFirstPirFault}
use Rattle.mpf_laws.proofs.MadtJudgment.{madt-judged}
use Rattle.mpf_laws.proofs.PirJudgment.{pir-judged, IsFirstPirFault-unique}
use Rattle.mpf_pic_lines.specs.declared.op.PicOp.{PicOp}
use Rattle.mpf_pic_lines.specs.Lines.{IsTextOf, IsJudged as IsJudgedText}
use Rattle.mpf_pic_lines.specs.Lines as pic
use Rattle.mpf_pic_lines.proofs.TextLemmas as calls
use Rattle.mpf_answers.specs.FaultLines.{madt_fault_line, pir_fault_line}
use Rattle.mpf_answers.specs.LineDifferences.{line_differences_of, line_differences_text}
use Rattle.mptab_laws.proofs.BoardRows.{board_config, trace_some, boot_some, trace_one, played_one, played_some, drill_some, drill_one}
use Rattle.mptab_laws.proofs.FirmwareRows.{madt_made_one, madt_made_some, pir_made_one, pir_made_some, pir_compared_one, pir_compared_some}
use Rattle.mptab_walk.specs.Forms.{Form, Show, Audit, Canon, Raise, Madt, Pirmake, Build, Route, Trace, Boot, Drill, Replay, Madtcmp, Pircmp, Pic, Named, Image, Listing, Script, Report, AcpiTable, RoutingTable, Calls, IsForm, IsStill, files_of, name_of, limit_of, IsRead}
use Rattle.mptab_walk.specs.Commands.{bad_report_line, bad_calls_line, MadtGives, PirGives, CallsGive, IsMadtMade, IsPirMade, IsMadtCompared, IsPirCompared, IsPlayed, ReportGives, IsJudged, verdict_status, fault_line, no_pointer_line, bad_line_line, unfit_line, status_of, ImageGives, ListingGives, ScriptGives, WithTables, WithBoard, IsUnderstood, IsRefused, IsShown, IsAudited, IsMadeCanonical, IsRaised, IsBuilt, IsRouted, IsTraced, IsBooted, IsDrilled, IsText}
use Rattle.mptab_laws.specs.Laws.{AreBytesTold, HasOneText, AreAlike}

-- ---- a file that is read

meet : (held : Option (List ℕ)) (n : ℕ) (P Q : List ℕ → Type 0) → IsSomeAnd held (λ b. (length b ≤ n) × P b) → IsSomeAnd held (λ b. (length b ≤ n) × Q b) → (b : List ℕ) × P b × Q b
meet None n P Q p q = absurd p
meet (Some b) n P Q p q = (b, p.1, q.1)

-- what two facts of a file's bytes are facts of
pub IsRead-meet : (files : Files) (file : Named) (P Q : List ℕ → Type 0) → IsRead (Some files) file P → IsRead (Some files) file Q → (b : List ℕ) × P b × Q b
IsRead-meet files file P Q p q = meet (files (name_of file)) (limit_of file) P Q p q

only : (held : Option (List ℕ)) (n : ℕ) (P Q : List ℕ → Type 0) → ((b : List ℕ) → held ≡ Some b → length b ≤ n → P b → Q b) → IsSomeAnd held (λ b. (length b ≤ n) × P b) → IsSomeAnd held (λ b. (length b ≤ n) × Q b)
only None n P Q f p = p
only (Some b) n P Q f p = (p.0, f b refl p.0 p.1)

pub IsRead-only : (files : Files) (file : Named) (P Q : List ℕ → Type 0) → ((b : List ℕ) → files (name_of file) ≡ Some b → length b ≤ limit_of file → P b → Q b) → IsRead (Some files) file P → IsRead (Some files) file Q
IsRead-only files file P Q f p = only (files (name_of file)) (limit_of file) P Q f p

taken : (held : Option (List ℕ)) (n : ℕ) (P : List ℕ → Type 0) → IsSomeAnd held (λ b. (length b ≤ n) × P b) → (b : List ℕ) × (held ≡ Some b) × (length b ≤ n) × P b
taken None n P p = absurd p
taken (Some b) n P p = (b, refl, p.0, p.1)

pub IsRead-bytes : (files : Files) (file : Named) (P : List ℕ → Type 0) → IsRead (Some files) file P → (b : List ℕ) × (files (name_of file) ≡ Some b) × (length b ≤ limit_of file) × P b
IsRead-bytes files file P p = taken (files (name_of file)) (limit_of file) P p

given : (held : Option (List ℕ)) (n : ℕ) (P : List ℕ → Type 0) (b : List ℕ) → held ≡ Some b → length b ≤ n → P b → IsSomeAnd held (λ x. (length x ≤ n) × P x)
given held n P b e within p = subst (λ (o : Option (List ℕ)). IsSomeAnd o (λ x. (length x ≤ n) × P x)) (sym e) (within, p)

pub IsRead-of : (files : Files) (file : Named) (P : List ℕ → Type 0) (b : List ℕ) → files (name_of file) ≡ Some b → length b ≤ limit_of file → P b → IsRead (Some files) file P
IsRead-of files file P b e within p = given (files (name_of file)) (limit_of file) P b e within p

-- ---- rows of the kinds of files

pub refused_read : (files : Files) (file : Named) (status : ℕ) (text : List ℕ) → IsRefused (Some files) file status text → IsRead (Some files) file (λ b. ⊤)
refused_read files (Image name) status text (inl a) = IsRead-only files (Image name) HasNoPointer (λ b. ⊤) (λ b e w p. tt) a.1
refused_read files (Image name) status text (inr a) = IsRead-only files (Image name) (λ image. IsFirstFault image a.1 a.2) (λ b. ⊤) (λ b e w p. tt) a.4
refused_read files (Listing name) status text (inl a) = IsRead-only files (Listing name) (λ listing. IsFirstBadLine IsListing listing a.1 a.2) (λ b. ⊤) (λ b e w p. tt) a.3
refused_read files (Listing name) status text (inr a) = IsRead-only files (Listing name) (IsListingOf a.1) (λ b. ⊤) (λ b e w p. tt) a.2
refused_read files (Script image name) status text (inl a) = IsRead-only files (Script image name) (λ t. HasFault t a.1) (λ b. ⊤) (λ b e w p. tt) a.3
refused_read files (Script image name) status text (inr a) = IsRead-only files (Script image name) (λ t. IsScriptOf t a.4) (λ b. ⊤) (λ b e w p. tt) a.5.1
refused_read files (Report name) status text a = IsRead-only files (Report name) (λ report. IsFirstBadLine IsReport report a.1 a.2) (λ b. ⊤) (λ b e w p. tt) a.3
refused_read files (AcpiTable name) status text a = IsRead-only files (AcpiTable name) (λ bytes. IsFirstMadtFault bytes a.1 a.2) (λ b. ⊤) (λ b e w p. tt) a.3
refused_read files (RoutingTable name) status text a = IsRead-only files (RoutingTable name) (λ bytes. IsFirstPirFault bytes a.1 a.2) (λ b. ⊤) (λ b e w p. tt) a.3
refused_read files (Calls name) status text a = IsRead-only files (Calls name) (λ text. pic.IsFirstBadLine text a.1) (λ b. ⊤) (λ b e w p. tt) a.2

pub understood_read : (files : Files) (file : Named) → IsUnderstood (Some files) file → IsRead (Some files) file (λ b. ⊤)
understood_read files (Image name) u = IsRead-only files (Image name) (λ image. Describes image u.0) (λ b. ⊤) (λ b e w p. tt) u.1
understood_read files (Listing name) u = IsRead-only files (Listing name) (IsListingOf u.0) (λ b. ⊤) (λ b e w p. tt) u.1.1
understood_read files (Script image name) u = IsRead-only files (Script image name) (λ t. IsScriptOf t u.3) (λ b. ⊤) (λ b e w p. tt) u.4.1
understood_read files (Report name) u = IsRead-only files (Report name) (IsReportOf u.0) (λ b. ⊤) (λ b e w p. tt) u.1
understood_read files (AcpiTable name) u = IsRead-only files (AcpiTable name) (IsMadt u.0) (λ b. ⊤) (λ b e w p. tt) u.1
understood_read files (RoutingTable name) u = IsRead-only files (RoutingTable name) (IsPir u.0) (λ b. ⊤) (λ b e w p. tt) u.1
understood_read files (Calls name) u = IsRead-only files (Calls name) (IsTextOf u.0) (λ b. ⊤) (λ b e w p. tt) u.1

-- a refusal has another status than 0
pub refused_fails : (told : Option Files) (file : Named) (s : ℕ) (t : List ℕ) → IsRefused told file s t → s ≡ 0 → ⊥
refused_fails told (Image name) s t (inl a) e = omega (arith, a.0, e)
refused_fails told (Image name) s t (inr a) e = omega (arith, a.0, e)
refused_fails told (Listing name) s t (inl a) e = omega (arith, a.0, e)
refused_fails told (Listing name) s t (inr a) e = omega (arith, a.0, e)
refused_fails told (Script image name) s t (inl a) e = omega (arith, a.0, e)
refused_fails told (Script image name) s t (inr a) e = omega (arith, a.0, e)
refused_fails told (Report name) s t a e = omega (arith, a.0, e)
refused_fails told (AcpiTable name) s t a e = omega (arith, a.0, e)
refused_fails told (RoutingTable name) s t a e = omega (arith, a.0, e)
refused_fails told (Calls name) s t a e = omega (arith, a.0, e)

-- an image gives one tables alone
image_one : (files : Files) (name : List ℕ) (t u : Tables) → ImageGives (Some files) name t → ImageGives (Some files) name u → t ≡ u
image_one files name t u a b =
    let both = IsRead-meet files (Image name) (λ image. Describes image t) (λ image. Describes image u) a b in
    Describes-unique both.0 t u both.1 both.2

-- so does a listing
listing_one : (files : Files) (name : List ℕ) (t u : Tables) → ListingGives (Some files) name t → ListingGives (Some files) name u → t ≡ u
listing_one files name t u a b =
    let both = IsRead-meet files (Listing name) (IsListingOf t) (IsListingOf u) a.1 b.1 in
    listing_is_one t u both.0 both.1 both.2

-- and a script is one
script_one : (files : Files) (image name : List ℕ) (s u : AScript) → ScriptGives (Some files) image name s → ScriptGives (Some files) image name u → s ≡ u
script_one files image name s u a b =
    let both = IsRead-meet files (Script image name) (λ t. IsScriptOf t s) (λ t. IsScriptOf t u) a.1 b.1 in
    IsScriptOf-unique both.0 s u both.1 both.2

-- and a report
pub report_one : (files : Files) (name : List ℕ) (r q : AReport) → ReportGives (Some files) name r → ReportGives (Some files) name q → r ≡ q
report_one files name r q a b =
    let both = IsRead-meet files (Report name) (IsReportOf r) (IsReportOf q) a b in
    report_is_one r q both.0 both.1 both.2

-- and a table of firmware, and a text of calls
madt_one : (files : Files) (name : List ℕ) (m n : AMadt) → MadtGives (Some files) name m → MadtGives (Some files) name n → m ≡ n
madt_one files name m n a b =
    let both = IsRead-meet files (AcpiTable name) (IsMadt m) (IsMadt n) a b in
    IsMadt-unique m n both.0 both.1 both.2

pir_one : (files : Files) (name : List ℕ) (t u : APir) → PirGives (Some files) name t → PirGives (Some files) name u → t ≡ u
pir_one files name t u a b =
    let both = IsRead-meet files (RoutingTable name) (IsPir t) (IsPir u) a b in
    IsPir-one t u both.0 both.1 both.2

calls_one : (files : Files) (name : List ℕ) (xs ys : List PicOp) → CallsGive (Some files) name xs → CallsGive (Some files) name ys → xs ≡ ys
calls_one files name xs ys a b =
    let both = IsRead-meet files (Calls name) (IsTextOf xs) (IsTextOf ys) a b in
    calls.one_text xs ys both.0 both.1 both.2

-- so nothing, or one thing, speaks against their board
fault_one : (files : Files) (image name : List ℕ) (t u : Tables) (s r : AScript) → ImageGives (Some files) image t → ImageGives (Some files) image u → ScriptGives (Some files) image name s → ScriptGives (Some files) image name r → fault_of t s ≡ fault_of u r
fault_one files image name t u s r a b c d =
    ap (λ (q : Tables). fault_of q s) (image_one files image t u a b) ∙ ap (λ (q : AScript). fault_of u q) (script_one files image name s r c d)

pub refused_not_understood : (files : Files) (file : Named) (status : ℕ) (text : List ℕ) → IsRefused (Some files) file status text → IsUnderstood (Some files) file → ⊥
refused_not_understood files (Image name) status text (inl a) u =
    let both = IsRead-meet files (Image name) HasNoPointer (λ image. Describes image u.0) a.1 u.1 in
    IsFirst-some (HasPointerAt both.0) (search_places both.0) (u.0).at both.2.first both.1
refused_not_understood files (Image name) status text (inr a) u =
    let both = IsRead-meet files (Image name) (λ image. IsFirstFault image a.1 a.2) (λ image. Describes image u.0) a.4 u.1 in
    Describes-no_first_fault both.0 u.0 a.1 a.2 both.2 both.1
refused_not_understood files (Listing name) status text (inl a) u =
    let both = IsRead-meet files (Listing name) (λ listing. IsFirstBadLine IsListing listing a.1 a.2) (IsListingOf u.0) a.3 u.1.1 in
    listing_is_not_bad u.0 both.0 a.1 a.2 both.2 both.1
refused_not_understood files (Listing name) status text (inr a) u =
    let both = IsRead-meet files (Listing name) (IsListingOf a.1) (IsListingOf u.0) a.2 u.1.1 in
    a.3 (subst FitsInImage (sym (listing_is_one a.1 u.0 both.0 both.1 both.2)) u.1.0)
refused_not_understood files (Script image name) status text (inl a) u =
    let both = IsRead-meet files (Script image name) (λ t. HasFault t a.1) (λ t. IsScriptOf t u.3) a.3 u.4.1 in
    IsScriptOf-no_fault both.0 u.3 a.1 both.2 both.1
refused_not_understood files (Script image name) status text (inr a) u =
    let same : Some a.6 ≡ None = sym a.7 ∙ fault_one files image name a.1 u.0 a.4 u.3 a.3 u.2 a.5 u.4 ∙ u.5 in
    cc
refused_not_understood files (Report name) status text a u =
    let both = IsRead-meet files (Report name) (λ report. IsFirstBadLine IsReport report a.1 a.2) (IsReportOf u.0) a.3 u.1 in
    report_is_not_bad u.0 both.0 a.1 a.2 both.2 both.1
refused_not_understood files (AcpiTable name) status text a u =
    let both = IsRead-meet files (AcpiTable name) (λ bytes. IsFirstMadtFault bytes a.1 a.2) (IsMadt u.0) a.3 u.1 in
    IsMadt-no_fault u.0 both.0 a.1 a.2 both.2 both.1.stands
refused_not_understood files (RoutingTable name) status text a u =
    let both = IsRead-meet files (RoutingTable name) (λ bytes. IsFirstPirFault bytes a.1 a.2) (IsPir u.0) a.3 u.1 in
    IsPir-faultless u.0 both.0 both.2 a.1 a.2 both.1.stands
refused_not_understood files (Calls name) status text a u =
    let both = IsRead-meet files (Calls name) (λ text. pic.IsFirstBadLine text a.1) (IsTextOf u.0) a.2 u.1 in
    calls.not_both u.0 both.0 a.1 both.2 both.1

pub refused_one : (files : Files) (file : Named) (s u : ℕ) (t v : List ℕ) → IsRefused (Some files) file s t → IsRefused (Some files) file u v → (s ≡ u) × (t ≡ v)
refused_one files (Image name) s u t v (inl a) (inl b) = (a.0 ∙ sym b.0, a.2 ∙ sym b.2)
refused_one files (Image name) s u t v (inl a) (inr b) =
    let both = IsRead-meet files (Image name) HasNoPointer (λ image. IsFirstFault image b.1 b.2) a.1 b.4 in
    absurd (IsFirst-some (HasPointerAt both.0) (search_places both.0) both.2.at both.2.first both.1)
refused_one files (Image name) s u t v (inr a) (inl b) =
    let both = IsRead-meet files (Image name) HasNoPointer (λ image. IsFirstFault image a.1 a.2) b.1 a.4 in
    absurd (IsFirst-some (HasPointerAt both.0) (search_places both.0) both.2.at both.2.first both.1)
refused_one files (Image name) s u t v (inr a) (inr b) =
    let both = IsRead-meet files (Image name) (λ image. IsFirstFault image a.1 a.2) (λ image. IsFirstFault image b.1 b.2) a.4 b.4 in
    let same = IsFirstFault-unique both.0 a.1 b.1 a.2 b.2 both.1 both.2 in
    (a.0 ∙ sym b.0, a.5 ∙ rw (same.0, same.1) refl ∙ sym b.5)
refused_one files (Listing name) s u t v (inl a) (inl b) =
    let both = IsRead-meet files (Listing name) (λ listing. IsFirstBadLine IsListing listing a.1 a.2) (λ listing. IsFirstBadLine IsListing listing b.1 b.2) a.3 b.3 in
    let same = bad_line_is_one both.0 a.1 b.1 a.2 b.2 both.1 both.2 in
    (a.0 ∙ sym b.0, a.4 ∙ rw (same.0, same.1) refl ∙ sym b.4)
refused_one files (Listing name) s u t v (inl a) (inr b) =
    let both = IsRead-meet files (Listing name) (λ listing. IsFirstBadLine IsListing listing a.1 a.2) (IsListingOf b.1) a.3 b.2 in
    absurd (listing_is_not_bad b.1 both.0 a.1 a.2 both.2 both.1)
refused_one files (Listing name) s u t v (inr a) (inl b) =
    let both = IsRead-meet files (Listing name) (λ listing. IsFirstBadLine IsListing listing b.1 b.2) (IsListingOf a.1) b.3 a.2 in
    absurd (listing_is_not_bad a.1 both.0 b.1 b.2 both.2 both.1)
refused_one files (Listing name) s u t v (inr a) (inr b) =
    let both = IsRead-meet files (Listing name) (IsListingOf a.1) (IsListingOf b.1) a.2 b.2 in
    let same = listing_is_one a.1 b.1 both.0 both.1 both.2 in
    (a.0 ∙ sym b.0, a.4 ∙ ap (λ (x : Tables). unfit_line (block_size x.body)) same ∙ sym b.4)
refused_one files (Script image name) s u t v (inl a) (inl b) =
    let both = IsRead-meet files (Script image name) (λ x. HasFault x a.1) (λ x. HasFault x b.1) a.3 b.3 in
    (a.0 ∙ sym b.0, a.4 ∙ ap script_fault_line (HasFault-unique both.0 a.1 b.1 both.1 both.2) ∙ sym b.4)
refused_one files (Script image name) s u t v (inl a) (inr b) =
    let both = IsRead-meet files (Script image name) (λ x. HasFault x a.1) (λ x. IsScriptOf x b.4) a.3 b.5.1 in
    absurd (IsScriptOf-no_fault both.0 b.4 a.1 both.2 both.1)
refused_one files (Script image name) s u t v (inr a) (inl b) =
    let both = IsRead-meet files (Script image name) (λ x. HasFault x b.1) (λ x. IsScriptOf x a.4) b.3 a.5.1 in
    absurd (IsScriptOf-no_fault both.0 a.4 b.1 both.2 both.1)
refused_one files (Script image name) s u t v (inr a) (inr b) =
    let both : Some a.6 ≡ Some b.6 = sym a.7 ∙ fault_one files image name a.1 b.1 a.4 b.4 a.3 b.3 a.5 b.5 ∙ b.7 in
    let same : a.6 ≡ b.6 = cc in
    (a.0 ∙ sym b.0, a.8 ∙ ap board_fault_line same ∙ sym b.8)
refused_one files (Report name) s u t v a b =
    let both = IsRead-meet files (Report name) (λ report. IsFirstBadLine IsReport report a.1 a.2) (λ report. IsFirstBadLine IsReport report b.1 b.2) a.3 b.3 in
    let same = bad_report_is_one both.0 a.1 b.1 a.2 b.2 both.1 both.2 in
    (a.0 ∙ sym b.0, a.4 ∙ rw (same.0, same.1) refl ∙ sym b.4)
refused_one files (AcpiTable name) s u t v a b =
    let both = IsRead-meet files (AcpiTable name) (λ bytes. IsFirstMadtFault bytes a.1 a.2) (λ bytes. IsFirstMadtFault bytes b.1 b.2) a.3 b.3 in
    let same = IsFirstMadtFault-unique both.0 a.1 b.1 a.2 b.2 both.1 both.2 in
    (a.0 ∙ sym b.0, a.4 ∙ rw (same.0, same.1) refl ∙ sym b.4)
refused_one files (RoutingTable name) s u t v a b =
    let both = IsRead-meet files (RoutingTable name) (λ bytes. IsFirstPirFault bytes a.1 a.2) (λ bytes. IsFirstPirFault bytes b.1 b.2) a.3 b.3 in
    let same = IsFirstPirFault-unique both.0 a.1 b.1 a.2 b.2 both.1 both.2 in
    (a.0 ∙ sym b.0, a.4 ∙ rw (same.0, same.1) refl ∙ sym b.4)
refused_one files (Calls name) s u t v a b =
    let both = IsRead-meet files (Calls name) (λ text. pic.IsFirstBadLine text a.1) (λ text. pic.IsFirstBadLine text b.1) a.2 b.2 in
    (a.0 ∙ sym b.0, a.3 ∙ ap bad_calls_line (calls.one_line both.0 a.1 b.1 both.1 both.2) ∙ sym b.3)

-- what has to be understood before a file of this kind
abbrev pub IsReady : Files → Named → Type 0
IsReady files (Image name) = ⊤
IsReady files (Listing name) = ⊤
IsReady files (Report name) = ⊤
IsReady files (AcpiTable name) = ⊤
IsReady files (RoutingTable name) = ⊤
IsReady files (Calls name) = ⊤
IsReady files (Script image name) = (tables : Tables) × IsWellFormed tables × ImageGives (Some files) image tables

-- a fault that a text has is no want of memory
some_fault : (text : List ℕ) (f : ScriptFault) → HasFault text f → IsScriptFault f
some_fault text script_fault.NotToml h = tt
some_fault text (script_fault.Key name) h = tt
some_fault text (script_fault.Many n) h = tt
some_fault text (script_fault.Word agent index why) h = tt
some_fault text script_fault.NoMemory h = h

-- a file within its limit is understood or refused
pub file_judged : (files : Files) (file : Named) (b : List ℕ) → IsReady files file → files (name_of file) ≡ Some b → length b ≤ limit_of file → IsUnderstood (Some files) file ⊎ ((s : ℕ) × (t : List ℕ) × IsRefused (Some files) file s t)
file_judged files (Image name) b ready e within = by_case (image-judged b)
  where
    by_case : HasNoPointer b ⊎ (IsDescribed b ⊎ HasFirstFault b) → IsUnderstood (Some files) (Image name) ⊎ ((s : ℕ) × (t : List ℕ) × IsRefused (Some files) (Image name) s t)
    by_case (inl none) = inr (6, no_pointer_line, inl (refl, IsRead-of files (Image name) HasNoPointer b e within none, refl))
    by_case (inr (inl d)) = inl (d.0, IsRead-of files (Image name) (λ image. Describes image d.0) b e within d.1)
    by_case (inr (inr f)) =
        let inside = IsFirstFault-inside b f.0 f.1 f.2 in
        inr (7, fault_line f.0 f.1, inr (refl, f.0, f.1, omega (arith, inside, within), IsRead-of files (Image name) (λ image. IsFirstFault image f.0 f.1) b e within f.2, refl))
file_judged files (Listing name) b ready e within = by_case (every_text b)
  where
    fit : (t : Tables) → IsListingOf t b → Decided (FitsInImage t) → IsUnderstood (Some files) (Listing name) ⊎ ((s : ℕ) × (u : List ℕ) × IsRefused (Some files) (Listing name) s u)
    fit t lists (inl fitting) = inl (t, (fitting, IsRead-of files (Listing name) (IsListingOf t) b e within lists))
    fit t lists (inr unfit) = inr (8, unfit_line (block_size t.body), inr (refl, t, IsRead-of files (Listing name) (IsListingOf t) b e within lists, unfit, refl))

    by_case : ((t : Tables) × IsListingOf t b) ⊎ ((n : ℕ) × (w : LineWhy) × IsFirstBadLine IsListing b n w) → IsUnderstood (Some files) (Listing name) ⊎ ((s : ℕ) × (u : List ℕ) × IsRefused (Some files) (Listing name) s u)
    by_case (inl d) = fit d.0 d.1 (fits_decided d.0)
    by_case (inr f) = inr (8, bad_line_line f.0 f.1, inl (refl, f.0, f.1, IsRead-of files (Listing name) (λ listing. IsFirstBadLine IsListing listing f.0 f.1) b e within f.2, refl))
file_judged files (Script image name) b ready e within = by_case (judged b)
  where
    board : (s : AScript) → ScriptGives (Some files) image name s → (x : Option BoardError) → fault_of ready.0 s ≡ x → IsUnderstood (Some files) (Script image name) ⊎ ((n : ℕ) × (u : List ℕ) × IsRefused (Some files) (Script image name) n u)
    board s gives None w = inl (ready.0, ready.1, ready.2, s, gives, w)
    board s gives (Some f) w = inr (11, board_fault_line f, inr (refl, ready.0, ready.1, ready.2, s, gives, f, w, refl))

    by_case : IsScript b ⊎ IsScriptRefused b → IsUnderstood (Some files) (Script image name) ⊎ ((n : ℕ) × (u : List ℕ) × IsRefused (Some files) (Script image name) n u)
    by_case (inl d) = board d.0 (IsScriptOf-values b d.0 d.1, IsRead-of files (Script image name) (λ t. IsScriptOf t d.0) b e within d.1) (fault_of ready.0 d.0) refl
    by_case (inr f) = inr (8, script_fault_line f.0, inl (refl, f.0, some_fault b f.0 f.1, IsRead-of files (Script image name) (λ t. HasFault t f.0) b e within f.1, refl))
file_judged files (Report name) b ready e within = by_case (every_report_text b (omega (arith, within)))
  where
    by_case : ((r : AReport) × IsReportOf r b) ⊎ ((n : ℕ) × (w : LineWhy) × IsFirstBadLine IsReport b n w) → IsUnderstood (Some files) (Report name) ⊎ ((s : ℕ) × (t : List ℕ) × IsRefused (Some files) (Report name) s t)
    by_case (inl r) = inl (r.0, IsRead-of files (Report name) (IsReportOf r.0) b e within r.1)
    by_case (inr f) = inr (8, bad_report_line f.0 f.1, (refl, f.0, f.1, IsRead-of files (Report name) (λ report. IsFirstBadLine IsReport report f.0 f.1) b e within f.2, refl))
file_judged files (AcpiTable name) b ready e within = by_case (madt-judged b)
  where
    by_case : HasMadt b ⊎ HasFirstMadtFault b → IsUnderstood (Some files) (AcpiTable name) ⊎ ((s : ℕ) × (t : List ℕ) × IsRefused (Some files) (AcpiTable name) s t)
    by_case (inl m) = inl (m.0, IsRead-of files (AcpiTable name) (IsMadt m.0) b e within m.1)
    by_case (inr f) = inr (13, madt_fault_line f.0 f.1, (refl, f.0, f.1, IsRead-of files (AcpiTable name) (λ bytes. IsFirstMadtFault bytes f.0 f.1) b e within f.2, refl))
file_judged files (RoutingTable name) b ready e within = by_case (pir-judged b)
  where
    by_case : HasPir b ⊎ HasFirstPirFault b → IsUnderstood (Some files) (RoutingTable name) ⊎ ((s : ℕ) × (t : List ℕ) × IsRefused (Some files) (RoutingTable name) s t)
    by_case (inl t) = inl (t.0, IsRead-of files (RoutingTable name) (IsPir t.0) b e within t.1)
    by_case (inr f) = inr (15, pir_fault_line f.0 f.1, (refl, f.0, f.1, IsRead-of files (RoutingTable name) (λ bytes. IsFirstPirFault bytes f.0 f.1) b e within f.2, refl))
file_judged files (Calls name) b ready e within = by_case (calls.every_text b)
  where
    by_case : IsJudgedText b → IsUnderstood (Some files) (Calls name) ⊎ ((s : ℕ) × (t : List ℕ) × IsRefused (Some files) (Calls name) s t)
    by_case (inl c) = inl (c.0, IsRead-of files (Calls name) (IsTextOf c.0) b e within c.1)
    by_case (inr f) = inr (14, bad_calls_line f.0, (refl, f.0, IsRead-of files (Calls name) (λ text. pic.IsFirstBadLine text f.0) b e within f.1, refl))

-- ---- rows of the forms

-- each of these files is ready where those before it are understood
abbrev pub AreReady : Files → List Named → Type 0
AreReady files [] = ⊤
AreReady files (f ∷ fs) = IsReady files f × (IsUnderstood (Some files) f → AreReady files fs)

-- the bytes of a file that is there
told_byte : (held : Option (List ℕ)) (b : List ℕ) → held ≡ Some b → IfSome held IsByteList → IsByteList b
told_byte held b e h = subst (λ (o : Option (List ℕ)). IfSome o IsByteList) e h

-- tables that are given are well formed, their place below 4 GiB
image_good : (files : Files) (name : List ℕ) (t : Tables) → AreBytesTold files → ImageGives (Some files) name t → IsWellFormed t × (t.at < 2 ^ 32)
image_good files name t bytes gives =
    let read = IsRead-bytes files (Image name) (λ image. Describes image t) gives in
    let are = told_byte (files name) read.0 read.1 (bytes name) in
    (Describes-well_formed read.0 t are read.3, Describes-below_4_gib read.0 t are read.3)

listing_good : (files : Files) (name : List ℕ) (t : Tables) → ListingGives (Some files) name t → IsWellFormed t × (t.at < 2 ^ 32)
listing_good files name t gives = (gives.0.well_formed, omega (arith, gives.0.high))

-- the values of an image's tables fit their fields
pub image_values : (files : Files) (name : List ℕ) (t : Tables) → AreBytesTold files → ImageGives (Some files) name t → IsTablesValue t
image_values files name t bytes gives =
    let read = IsRead-bytes files (Image name) (λ image. Describes image t) gives in
    Describes-value read.0 t (told_byte (files name) read.0 read.1 (bytes name)) read.3

-- behind an image that gives tables its script can be judged
board_ready : (files : Files) (image script : List ℕ) → AreBytesTold files → AreReady files (Image image ∷ Script image script ∷ [])
board_ready files image script bytes = (tt, λ u. ((u.0, (image_good files image u.0 bytes u.1).0, u.1), λ v. tt))

pub form_ready : (files : Files) (form : Form) → AreBytesTold files → AreReady files (files_of form)
form_ready files (Show image) bytes = (tt, λ u. tt)
form_ready files (Audit image) bytes = (tt, λ u. tt)
form_ready files (Canon image) bytes = (tt, λ u. tt)
form_ready files (Raise image) bytes = (tt, λ u. tt)
form_ready files (Madt image elcr) bytes = (tt, λ u. tt)
form_ready files (Pirmake image) bytes = (tt, λ u. tt)
form_ready files (Build listing) bytes = (tt, λ u. tt)
form_ready files (Route image elcr) bytes = (tt, λ u. tt)
form_ready files (Trace image script) bytes = board_ready files image script bytes
form_ready files (Boot image script) bytes = board_ready files image script bytes
form_ready files (Drill n) bytes = tt
form_ready files (Replay image script report) bytes = (tt, λ u. ((u.0, (image_good files image u.0 bytes u.1).0, u.1), λ v. (tt, λ w. tt)))
form_ready files (Madtcmp image elcr madt) bytes = (tt, λ u. (tt, λ v. tt))
form_ready files (Pircmp image table) bytes = (tt, λ u. (tt, λ v. tt))
form_ready files (Pic image script calls) bytes = (tt, λ u. ((u.0, (image_good files image u.0 bytes u.1).0, u.1), λ v. (tt, λ w. tt)))

-- what is one of all given tables is one of those that a file gives
with_one : (gives : Tables → Type 0) (P Q : Tables → Type 0) (R : Type 0) → ((t u : Tables) → gives t → gives u → t ≡ u) → ((t : Tables) → P t → Q t → R) → WithTables gives P → WithTables gives Q → R
with_one gives P Q R one both a b = both a.0 a.4 (subst Q (sym (one a.0 b.0 a.3 b.3)) b.4)

-- and of a board
pub board_one : (files : Files) (image script : List ℕ) (P Q : Tables → AScript → Type 0) (R : Type 0) → ((t : Tables) (s : AScript) → P t s → Q t s → R) → WithBoard (Some files) image script P → WithBoard (Some files) image script Q → R
board_one files image script P Q R both a b =
    with_one (ImageGives (Some files) image) _ _ R (image_one files image)
    (λ t p q. both t p.0 p.3 (subst (Q t) (sym (script_one files image script p.0 q.0 p.1 q.1)) q.3)) a b

audit_one : (tables : Tables) (s u : ℕ) (t v : List ℕ) → IsAudited tables s t → IsAudited tables u v → (s ≡ u) × (t ≡ v)
audit_one tables s u t v a b =
    let same = findings-one tables a.0 b.0 a.1 b.1 in
    (a.2 ∙ ap status_of same ∙ sym b.2, a.3 ∙ ap findings_text same ∙ sym b.3)

canon_one : (tables : Tables) (s u : ℕ) (t v : List ℕ) → IsMadeCanonical tables s t → IsMadeCanonical tables u v → (s ≡ u) × (t ≡ v)
canon_one tables s u t v (inl a) (inl b) = (a.0 ∙ sym b.0, a.2 ∙ sym b.2)
canon_one tables s u t v (inl a) (inr b) = absurd (b.1 a.1)
canon_one tables s u t v (inr a) (inl b) = absurd (a.1 b.1)
canon_one tables s u t v (inr a) (inr b) = (a.0 ∙ sym b.0, a.2 ∙ sym b.2)

raise_one : (tables : Tables) (s u : ℕ) (t v : List ℕ) → IsRaised tables s t → IsRaised tables u v → (s ≡ u) × (t ≡ v)
raise_one tables s u t v (inl a) (inl b) = (a.0 ∙ sym b.0, a.2 ∙ sym b.2)
raise_one tables s u t v (inl a) (inr b) = absurd (b.1 a.1)
raise_one tables s u t v (inr a) (inl b) = absurd (a.1 b.1)
raise_one tables s u t v (inr a) (inr b) = (a.0 ∙ sym b.0, a.2 ∙ sym b.2)

pub text_one : (files : Files) (form : Form) (s u : ℕ) (t v : List ℕ) → HasOneText form → IsText (Some files) form s t → IsText (Some files) form u v → (s ≡ u) × (t ≡ v)
text_one files (Show name) s u t v one a b = with_one (ImageGives (Some files) name) _ _ ((s ≡ u) × (t ≡ v)) (image_one files name) (λ tables p q. (p.0 ∙ sym q.0, p.1 ∙ sym q.1)) a b
text_one files (Audit name) s u t v one a b = with_one (ImageGives (Some files) name) _ _ ((s ≡ u) × (t ≡ v)) (image_one files name) (λ tables p q. audit_one tables s u t v p q) a b
text_one files (Canon name) s u t v one a b = with_one (ImageGives (Some files) name) _ _ ((s ≡ u) × (t ≡ v)) (image_one files name) (λ tables p q. canon_one tables s u t v p q) a b
text_one files (Raise name) s u t v one a b = with_one (ImageGives (Some files) name) _ _ ((s ≡ u) × (t ≡ v)) (image_one files name) (λ tables p q. raise_one tables s u t v p q) a b
text_one files (Madt name elcr) s u t v one a b = with_one (ImageGives (Some files) name) _ _ ((s ≡ u) × (t ≡ v)) (image_one files name) (λ tables p q. madt_made_one elcr tables s u t v p q) a b
text_one files (Pirmake name) s u t v one a b = with_one (ImageGives (Some files) name) _ _ ((s ≡ u) × (t ≡ v)) (image_one files name) (λ tables p q. pir_made_one tables s u t v p q) a b
text_one files (Build name) s u t v one a b = with_one (ListingGives (Some files) name) _ _ ((s ≡ u) × (t ≡ v)) (listing_one files name) (λ tables p q. (p.0 ∙ sym q.0, p.1 ∙ sym q.1)) a b
text_one files (Route name elcr) s u t v one a b = with_one (ImageGives (Some files) name) _ _ ((s ≡ u) × (t ≡ v)) (image_one files name) (λ tables p q. (p.0 ∙ sym q.0, p.1 ∙ sym q.1)) a b
text_one files (Trace image script) s u t v one a b =
    board_one files image script _ _ ((s ≡ u) × (t ≡ v)) (λ tables x p q. (p.0 ∙ sym q.0, trace_one (board_of tables x) t v p.1 q.1)) a b
text_one files (Boot image script) s u t v one a b = absurd one
text_one files (Replay image script report) s u t v one a b = board_one files image script _ _ ((s ≡ u) × (t ≡ v)) (λ tables x p q. judged_one (board_of tables x) p q) a b
  where
    judged_one : (c : Plan) → (r : AReport) × ReportGives (Some files) report r × IsJudged c r s t → (r : AReport) × ReportGives (Some files) report r × IsJudged c r u v → (s ≡ u) × (t ≡ v)
    judged_one c (r, a, (v1, is1, s1, t1)) (q, b, (v2, is2, s2, t2)) =
        let one : r ≡ q = report_one files report r q a b in
        let same : v1 ≡ v2 = same_verdict c r v1 v2 is1 (subst (λ (x : AReport). IsVerdict c x v2) (sym one) is2) in
        (s1 ∙ ap verdict_status same ∙ sym s2, t1 ∙ ap verdict_line same ∙ sym t2)
text_one files (Madtcmp name elcr madt) s u t v one a b = with_one (ImageGives (Some files) name) _ _ ((s ≡ u) × (t ≡ v)) (image_one files name) compared a b
  where
    compared : (tables : Tables) → (m : AMadt) × MadtGives (Some files) madt m × IsMadtCompared elcr tables m s t → (m : AMadt) × MadtGives (Some files) madt m × IsMadtCompared elcr tables m u v → (s ≡ u) × (t ≡ v)
    compared tables (m, g, a) (n, h, b) =
        let same : m ≡ n = madt_one files madt m n g h in
        let one : IsMadtCompared elcr tables m u v = subst (λ (x : AMadt). IsMadtCompared elcr tables x u v) (sym same) b in
        (a.0 ∙ sym one.0, a.1 ∙ sym one.1)
text_one files (Pircmp name table) s u t v one a b = with_one (ImageGives (Some files) name) _ _ ((s ≡ u) × (t ≡ v)) (image_one files name) compared a b
  where
    compared : (tables : Tables) → (r : APir) × PirGives (Some files) table r × IsPirCompared tables r s t → (r : APir) × PirGives (Some files) table r × IsPirCompared tables r u v → (s ≡ u) × (t ≡ v)
    compared tables (r, g, a) (q, h, b) =
        let same : r ≡ q = pir_one files table r q g h in
        pir_compared_one tables r s u t v a (subst (λ (x : APir). IsPirCompared tables x u v) (sym same) b)
text_one files (Pic image script calls) s u t v one a b = board_one files image script _ _ ((s ≡ u) × (t ≡ v)) played a b
  where
    played : (tables : Tables) (x : AScript) → (ops : List PicOp) × CallsGive (Some files) calls ops × IsPlayed tables x ops s t → (ops : List PicOp) × CallsGive (Some files) calls ops × IsPlayed tables x ops u v → (s ≡ u) × (t ≡ v)
    played tables x (xs, g, a) (ys, h, b) =
        let same : xs ≡ ys = calls_one files calls xs ys g h in
        let one : IsPlayed tables x xs u v = subst (λ (ops : List PicOp). IsPlayed tables x ops u v) (sym same) b in
        (a.0 ∙ sym one.0, played_one (board_of tables x) (platform_of tables) xs t v a.1 one.1)
text_one files (Drill n) s u t v one a b = (a.0 ∙ sym b.0, drill_one n t v a.1 b.1)

-- two texts of a form are alike; each boot has status 0
pub texts_alike : (files : Files) (form : Form) (s u : ℕ) (t v : List ℕ) → IsText (Some files) form s t → IsText (Some files) form u v → AreAlike s u t v
texts_alike files (Show name) s u t v a b = let same = text_one files (Show name) s u t v tt a b in (same.0, λ n. same.1)
texts_alike files (Audit name) s u t v a b = let same = text_one files (Audit name) s u t v tt a b in (same.0, λ n. same.1)
texts_alike files (Canon name) s u t v a b = let same = text_one files (Canon name) s u t v tt a b in (same.0, λ n. same.1)
texts_alike files (Raise name) s u t v a b = let same = text_one files (Raise name) s u t v tt a b in (same.0, λ n. same.1)
texts_alike files (Madt name elcr) s u t v a b = let same = text_one files (Madt name elcr) s u t v tt a b in (same.0, λ n. same.1)
texts_alike files (Pirmake name) s u t v a b = let same = text_one files (Pirmake name) s u t v tt a b in (same.0, λ n. same.1)
texts_alike files (Build name) s u t v a b = let same = text_one files (Build name) s u t v tt a b in (same.0, λ n. same.1)
texts_alike files (Route name elcr) s u t v a b = let same = text_one files (Route name elcr) s u t v tt a b in (same.0, λ n. same.1)
texts_alike files (Trace image script) s u t v a b = let same = text_one files (Trace image script) s u t v tt a b in (same.0, λ n. same.1)
texts_alike files (Boot image script) s u t v a b =
    board_one files image script _ _ (AreAlike s u t v) (λ tables x p q. (p.0 ∙ sym q.0, λ n. absurd (n p.0))) a b
texts_alike files (Replay image script report) s u t v a b = let same = text_one files (Replay image script report) s u t v tt a b in (same.0, λ n. same.1)
texts_alike files (Madtcmp name elcr madt) s u t v a b = let same = text_one files (Madtcmp name elcr madt) s u t v tt a b in (same.0, λ n. same.1)
texts_alike files (Pircmp name table) s u t v a b = let same = text_one files (Pircmp name table) s u t v tt a b in (same.0, λ n. same.1)
texts_alike files (Pic image script calls) s u t v a b = let same = text_one files (Pic image script calls) s u t v tt a b in (same.0, λ n. same.1)
texts_alike files (Drill n) s u t v a b = let same = text_one files (Drill n) s u t v tt a b in (same.0, λ m. same.1)

-- a script that is understood describes a board with the tables of its image
with_board : (files : Files) (image script : List ℕ) (P : Tables → AScript → Type 0) → AreBytesTold files → (u : IsUnderstood (Some files) (Script image script)) → P u.0 u.3 → WithBoard (Some files) image script P
with_board files image script P bytes u p = let good = image_good files image u.0 bytes u.2 in (u.0, good.0, good.1, u.2, (u.3, u.4, u.5, p))

-- where its files are understood a form has a text
pub text_given : (files : Files) (form : Form) → AreBytesTold files → AllByRecursion (IsUnderstood (Some files)) (files_of form) → (s : ℕ) × (t : List ℕ) × IsText (Some files) form s t
text_given files (Show name) bytes all = (0, listing_of (all.0).0, let good = image_good files name (all.0).0 bytes (all.0).1 in ((all.0).0, good.0, good.1, (all.0).1, (refl, refl)))
text_given files (Audit name) bytes all =
    let good = image_good files name (all.0).0 bytes (all.0).1 in
    let found = findings-some (all.0).0 in
    (status_of found.0, findings_text found.0, ((all.0).0, good.0, good.1, (all.0).1, (found.0, found.1, refl, refl)))
text_given files (Canon name) bytes all = by_fit (fits_decided tables)
  where
    tables : Tables
    tables = (all.0).0

    given : (s : ℕ) (t : List ℕ) → IsMadeCanonical tables s t → IsText (Some files) (Canon name) s t
    given s t h = let good = image_good files name tables bytes (all.0).1 in (tables, good.0, good.1, (all.0).1, h)

    by_fit : Decided (FitsInImage tables) → (s : ℕ) × (t : List ℕ) × IsText (Some files) (Canon name) s t
    by_fit (inl fitting) = (0, image_of (canonical_of tables), given 0 (image_of (canonical_of tables)) (inl (refl, fitting, refl)))
    by_fit (inr unfit) = (8, unfit_line (block_size tables.body), given 8 (unfit_line (block_size tables.body)) (inr (refl, unfit, refl)))
text_given files (Raise name) bytes all = by_fit (fits_decided tables)
  where
    tables : Tables
    tables = (all.0).0

    given : (s : ℕ) (t : List ℕ) → IsRaised tables s t → IsText (Some files) (Raise name) s t
    given s t h = let good = image_good files name tables bytes (all.0).1 in (tables, good.0, good.1, (all.0).1, h)

    by_fit : Decided (FitsInImage tables) → (s : ℕ) × (t : List ℕ) × IsText (Some files) (Raise name) s t
    by_fit (inl fitting) = (0, image_of (raised_of tables), given 0 (image_of (raised_of tables)) (inl (refl, fitting, refl)))
    by_fit (inr unfit) = (8, unfit_line (block_size tables.body), given 8 (unfit_line (block_size tables.body)) (inr (refl, unfit, refl)))
text_given files (Madt name elcr) bytes all =
    let tables = (all.0).0 in
    let good = image_good files name tables bytes (all.0).1 in
    let made = madt_made_some elcr tables (image_values files name tables bytes (all.0).1) good.0 in
    (made.0, made.1, (tables, good.0, good.1, (all.0).1, made.2))
text_given files (Pirmake name) bytes all =
    let tables = (all.0).0 in
    let good = image_good files name tables bytes (all.0).1 in
    let made = pir_made_some tables (image_values files name tables bytes (all.0).1) in
    (made.0, made.1, (tables, good.0, good.1, (all.0).1, made.2))
text_given files (Build name) bytes all = (0, image_of (all.0).0, let good = listing_good files name (all.0).0 (all.0).1 in ((all.0).0, good.0, good.1, (all.0).1, (refl, refl)))
text_given files (Route name elcr) bytes all = (0, routes_text (routes_of (platform_of (all.0).0) elcr), let good = image_good files name (all.0).0 bytes (all.0).1 in ((all.0).0, good.0, good.1, (all.0).1, (refl, refl)))
text_given files (Trace image script) bytes all =
    let u = all.1.0 in
    let t = trace_some u.0 u.3 (image_values files image u.0 bytes u.2) u.4.0 u.5 in
    (0, t.0, with_board files image script (λ tables s. IsTraced tables s 0 t.0) bytes u (refl, t.1))
text_given files (Boot image script) bytes all =
    let u = all.1.0 in
    let t = boot_some u.0 u.3 (image_values files image u.0 bytes u.2) u.4.0 u.5 in
    (0, t.0, with_board files image script (λ tables s. IsBooted tables s 0 t.0) bytes u (refl, t.1))
text_given files (Replay image script report) bytes all =
    let u = all.1.0 in
    let r = all.1.1.0 in
    let v = some_verdict (board_of u.0 u.3) r.0 (board_config u.0 u.3 (image_values files image u.0 bytes u.2) u.4.0 u.5) in
    (verdict_status v.0, verdict_line v.0, with_board files image script (λ tables s. (q : AReport) × ReportGives (Some files) report q × IsJudged (board_of tables s) q (verdict_status v.0) (verdict_line v.0)) bytes u (r.0, r.1, (v.0, v.1, refl, refl)))
text_given files (Madtcmp name elcr madt) bytes all =
    let tables = (all.0).0 in
    let good = image_good files name tables bytes (all.0).1 in
    let m = all.1.0 in
    let found = line_differences_of (platform_of tables) (routes_of (platform_of tables) elcr) m.0 in
    (status_of found, line_differences_text found, (tables, good.0, good.1, (all.0).1, (m.0, m.1, (refl, refl))))
text_given files (Pircmp name table) bytes all =
    let tables = (all.0).0 in
    let good = image_good files name tables bytes (all.0).1 in
    let r = all.1.0 in
    let compared = pir_compared_some tables r.0 in
    (compared.0, compared.1, (tables, good.0, good.1, (all.0).1, (r.0, r.1, compared.2)))
text_given files (Pic image script calls) bytes all =
    let u = all.1.0 in
    let c = all.1.1.0 in
    let t = played_some (board_of u.0 u.3) (platform_of u.0) c.0 (trace_some u.0 u.3 (image_values files image u.0 bytes u.2) u.4.0 u.5) in
    (0, t.0, with_board files image script (λ tables s. (ops : List PicOp) × CallsGive (Some files) calls ops × IsPlayed tables s ops 0 t.0) bytes u (c.0, c.1, (refl, t.1)))
text_given files (Drill n) bytes all = let t = drill_some n in (0, t.0, (refl, t.1))

-- whether a form needs no threads is decided
pub still_judged : (form : Form) → Decided (IsStill form)
still_judged (Show image) = inl tt
still_judged (Audit image) = inl tt
still_judged (Canon image) = inl tt
still_judged (Raise image) = inl tt
still_judged (Madt image elcr) = inl tt
still_judged (Pirmake image) = inl tt
still_judged (Build listing) = inl tt
still_judged (Route image elcr) = inl tt
still_judged (Trace image script) = inl tt
still_judged (Boot image script) = inr (λ h. h)
still_judged (Drill n) = inl tt
still_judged (Replay image script report) = inl tt
still_judged (Madtcmp image elcr madt) = inl tt
still_judged (Pircmp image table) = inl tt
still_judged (Pic image script calls) = inl tt
