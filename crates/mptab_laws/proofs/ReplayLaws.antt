-- What `trace` and `boot` print is read back, and `replay` finds it legal.
use Rattle.std.proofs.Common.{◌≡◌, ℕ, ◌≤◌, ◌<◌, ◌^◌, ◌⊎◌, List, [], ◌∷◌, length, sum_by, Option, Some, None, IsSomeAnd, refl, sym, subst, ◌∙◌, ap, inl, inr, arith}
use Rattle.std.specs.Prelude.{codes, ⊤}
use Rattle.std.specs.List.{AllByRecursion}
use Rattle.mpt_base.specs.Outside.{Files, Appends}
use Rattle.mpt_spec.specs.declared.tables.Tables.{Tables}
use Rattle.mpt_spec.specs.Table.{Describes}
use Rattle.mpb_spec.specs.declared.entry.Entry.{Entry}
use Rattle.mpb_spec.specs.declared.pulse.Pulse.{Pulse}
use Rattle.mpb_spec.specs.declared.pulse.Hit.{Hit}
use Rattle.mpb_spec.specs.Plan.{Plan, plan_size}
use Rattle.mpb_spec.specs.Configs.{IsConfig}
use Rattle.mpb_spec.specs.Journal.{IsComplete}
use Rattle.mpb_spec.specs.Room.{room}
use Rattle.mpb_script.specs.declared.script.Script.{Script as AScript}
use Rattle.mpb_script.specs.Script.{IsScriptOf}
use Rattle.mpb_robin.specs.Account.{AccountsForPulses}
use Rattle.mpb_robin.proofs.AtTheEnd.{is_complete, is_accounted}
use Rattle.mpb_report_spec.specs.Report.{report_of}
use Rattle.mpb_report_line.specs.declared.report.Report.{Report as AReport}
use Rattle.mpb_report_parse.specs.Reports.{IsReportOf, shown_report}
use Rattle.mpb_report_laws.specs.Values.{HasOpValues}
use Rattle.mpb_report_laws.proofs.Reported.{read_back, complete_is_legal}
use Rattle.mpb_report_laws.proofs.Lengths.{report_short}
use Rattle.mpb_replay_laws.specs.declared.verdict.Verdict.{Verdict}
use Rattle.mpb_replay_laws.specs.declared.verdict.Verdict.TheVariants.{Legal}
use Rattle.mpb_replay_laws.specs.Verdict.{IsVerdict}
use Rattle.mpb_replay_laws.proofs.OneVerdict.{same_verdict}
use Rattle.mpb_boards.specs.Boot.{board_of, fault_of, IsTraceOf, IsBootOf}
use Rattle.mpb_boards.specs.Lines.{verdict_line}
use Rattle.mptab_walk.specs.Forms.{Form, Trace, Boot, Replay, Named, Image, Script, Report, IsForm, IsAny, files_of, name_of, limit_of, IsRead}
use Rattle.mptab_walk.specs.Commands.{ImageGives, ScriptGives, ReportGives, WithBoard, IsUnderstood, IsTraced, IsBooted, IsJudged, IsText, verdict_status}
use Rattle.mptab_walk.specs.Walk.{Outside, IsAnswer, IsAnswerOf, EndsAt, Reaches, IsDue, IsDueOf, IsFailure, Answers}
use Rattle.mptab_walk.proofs.FormReading.{same_form}
use Rattle.mptab_laws.specs.Laws.{AreBytesTold, IsReported, HoldsReport}
use Rattle.mptab_laws.proofs.BoardRows.{board_config, small, room_small, few_words, op_values}
use Rattle.mptab_laws.proofs.Rows.{IsRead-of, refused_fails, board_one, report_one, image_values}
use Rattle.mptab_laws.proofs.WalkLaws.{end_not_all}

-- ---- what is given with status 0

whole_due : (listed : Form → Type 0) (told : Option Files) (before after : Outside) (words : List (List ℕ)) (s : ℕ) (t : List ℕ) → s ≡ 0 → IsDue listed told before after words s t → IsAnswer listed told words s t
whole_due listed told before after words s t zero_ (inl a) = absurd (omega (arith, a.0.1, zero_))
whole_due listed told before after words s t zero_ (inr (form, l, is, inl a)) = inr (form, l, is, a.0)
whole_due listed told before after words s t zero_ (inr (form, l, is, inr (inl a))) = absurd (omega (arith, a.0, zero_))
whole_due listed told before after words s t zero_ (inr (form, l, is, inr (inr a))) = absurd (omega (arith, a.0, zero_))

pub zero_answered : (listed : Form → Type 0) (told : Option Files) (before after : Outside) (words : List (List ℕ)) → Answers listed told before after words 0 → (text : List ℕ) × IsAnswer listed told words 0 text × Appends before.written after.written text
zero_answered listed told before after words (s, t, due, inl d) =
    let answer : IsAnswer listed told words s t = whole_due listed told before after words s t (sym d.0) due in
    (t, subst (λ (n : ℕ). IsAnswer listed told words n t) (sym d.0) answer, d.2)
zero_answered listed told before after words (s, t, due, inr d) = absurd (omega (arith, d.0))

-- ---- a report of the board

-- the text reports a complete run that accounts for all pulses
abbrev IsRunText : Plan → List ℕ → Type 0
IsRunText c text = (journal : List Entry) × (logs : List (List (Pulse × Hit))) × IsComplete c journal × AccountsForPulses c journal logs × (text ≡ report_of c journal logs)

-- the text is that of a legal report, within its limit
abbrev IsLegalText : Plan → List ℕ → Type 0
IsLegalText c text = (r : AReport) × IsReportOf r text × IsVerdict c r Legal × (length text ≤ 268435456)

legal_text : (c : Plan) (text : List ℕ) → IsConfig c → HasOpValues c → plan_size c < 2 ^ 32 → room c < 850000 → sum_by length c.devices ≤ 8192 → IsRunText c text → IsLegalText c text
legal_text c text is v few roomy words (journal, logs, complete, accounts, e) =
    let short : length (report_of c journal logs) ≤ 268435456 = report_short c journal logs is v roomy words complete.legal accounts.pulses in
    let read : IsReportOf (shown_report c journal logs) (report_of c journal logs) = read_back c journal logs is v few complete.legal accounts.pulses in
    (shown_report c journal logs, subst (IsReportOf (shown_report c journal logs)) (sym e) read, complete_is_legal c journal logs is complete accounts, subst (λ (b : List ℕ). length b ≤ 268435456) (sym e) short)

of_trace : (c : Plan) (text : List ℕ) → IsConfig c → plan_size c < 2 ^ 32 → IsTraceOf c text → IsRunText c text
of_trace c text is few (journal, logs, robin, e) = (journal, logs, is_complete c journal logs is few robin, is_accounted c journal logs is few robin, e)

of_boot : (page : ℕ) (c : Plan) (text : List ℕ) → IsBootOf page c text → IsRunText c text
of_boot page c text (journal, logs, boot, e) = (journal, logs, boot.complete, boot.accounts, e)

-- ---- what `trace` or `boot` answers

-- the end at a file has another status than 0
ends_fails : (told : Option Files) (file : Named) (t : List ℕ) → EndsAt told file 0 t → ⊥
ends_fails told file t (inl a) = omega (arith, a.0)
ends_fails told file t (inr (inl a)) = omega (arith, a.0)
ends_fails told file t (inr (inr a)) = refused_fails told file 0 t a refl

answer_of : (listed : Form → Type 0) (told : Option Files) (form : Form) (words : List (List ℕ)) (t : List ℕ) → IsForm form words → IsAnswer listed told words 0 t → IsText told form 0 t
answer_of listed told form words t is (inl a) = absurd (omega (arith, a.1))
answer_of listed told form words t is (inr (other, l, is', a)) = by_end (subst (λ (x : Form). IsAnswerOf told x 0 t) (same_form other form words is' is) a)
  where
    by_end : IsAnswerOf told form 0 t → IsText told form 0 t
    by_end (inl e) = absurd (ends_fails told e.0 t e.2)
    by_end (inr all) = all.1

-- the board of image and script has it as a legal report
abbrev LegalBoard : Option Files → List ℕ → List ℕ → List ℕ → Type 0
LegalBoard told image script text = WithBoard told image script (λ tables s. IsLegalText (board_of tables s) text)

with_legal : (files : Files) (image script text : List ℕ) (P : Tables → AScript → Type 0) → AreBytesTold files → ((tables : Tables) (s : AScript) → IsConfig (board_of tables s) → plan_size (board_of tables s) < 2 ^ 32 → P tables s → IsRunText (board_of tables s) text)
    → WithBoard (Some files) image script P → LegalBoard (Some files) image script text
with_legal files image script text P bytes runs (tables, formed, low, gives, (s, words, sound, p)) =
    let values = image_values files image tables bytes gives in
    let is : IsConfig (board_of tables s) = board_config tables s values words.0 sound in
    let few : plan_size (board_of tables s) < 2 ^ 32 = small tables s values words.0 sound in
    let ops : HasOpValues (board_of tables s) = op_values tables s values words.0 sound in
    (tables, formed, low, gives, (s, words, sound, legal_text (board_of tables s) text is ops few (room_small tables s values words.0 sound) (few_words tables s values words.0 sound) (runs tables s is few p)))

reported : (listed : Form → Type 0) (files : Files) (image script text : List ℕ) → AreBytesTold files → IsReported listed files image script text → LegalBoard (Some files) image script text
reported listed files image script text bytes (inl a) =
    with_legal files image script text (λ tables s. IsTraced tables s 0 text) bytes (λ tables s is few p. of_trace (board_of tables s) text is few p.1)
    (answer_of listed (Some files) (Trace image script) (codes "trace" ∷ image ∷ script ∷ []) text refl a)
reported listed files image script text bytes (inr a) =
    with_legal files image script text (λ tables s. IsBooted tables s 0 text) bytes (λ tables s is few p. of_boot s.page (board_of tables s) text p.1)
    (answer_of listed (Some files) (Boot image script) (codes "boot" ∷ image ∷ script ∷ []) text refl a)

pub report_read : (listed : Form → Type 0) (files : Files) (image script text : List ℕ) → AreBytesTold files → IsReported listed files image script text → (r : AReport) × IsReportOf r text
report_read listed files image script text bytes h =
    let board = reported listed files image script text bytes h in
    let legal : IsLegalText (board_of board.0 board.4.0) text = board.4.3 in
    (legal.0, legal.1)

-- ---- what `replay` answers to it

stays : (files after : Files) (file : Named) (P : List ℕ → Type 0) → after (name_of file) ≡ files (name_of file) → IsRead (Some files) file P → IsRead (Some after) file P
stays files after file P e h = subst (λ (o : Option (List ℕ)). IsSomeAnd o (λ b. (length b ≤ limit_of file) × P b)) (sym e) h

board_stays : (files after : Files) (image script text : List ℕ) → after image ≡ files image → after script ≡ files script → LegalBoard (Some files) image script text → LegalBoard (Some after) image script text
board_stays files after image script text e f (tables, formed, low, gives, (s, words, sound, p)) =
    (tables, formed, low, stays files after (Image image) (λ b. Describes b tables) e gives, (s, (words.0, stays files after (Script image script) (λ b. IsScriptOf b s) f words.1), sound, p))

-- of these files the answer is the legal verdict
judged : (after : Files) (image script report text : List ℕ) (s : ℕ) (t : List ℕ) → after report ≡ Some text → LegalBoard (Some after) image script text → IsAnswerOf (Some after) (Replay image script report) s t → (s ≡ 0) × (t ≡ verdict_line Legal)
judged after image script report text s t holds board (inl a) =
    let legal : IsLegalText (board_of board.0 board.4.0) text = board.4.3 in
    let read : ReportGives (Some after) report legal.0 = IsRead-of after (Report report) (IsReportOf legal.0) text holds legal.3 legal.1 in
    let all : AllByRecursion (IsUnderstood (Some after)) (files_of (Replay image script report)) = ((board.0, board.3), ((board.0, board.1, board.3, board.4.0, board.4.1, board.4.2), ((legal.0, read), tt))) in
    absurd (end_not_all after (files_of (Replay image script report)) a.0 s t a.1 a.2 all)
judged after image script report text s t holds board (inr a) = board_one after image script _ _ ((s ≡ 0) × (t ≡ verdict_line Legal)) one board a.1
  where
    one : (tables : Tables) (x : AScript) → IsLegalText (board_of tables x) text → (r : AReport) × ReportGives (Some after) report r × IsJudged (board_of tables x) r s t → (s ≡ 0) × (t ≡ verdict_line Legal)
    one tables x legal (r, gives, (v, is, status, line)) =
        let read : ReportGives (Some after) report legal.0 = IsRead-of after (Report report) (IsReportOf legal.0) text holds legal.3 legal.1 in
        let same : r ≡ legal.0 = report_one after report r legal.0 gives read in
        let v_legal : v ≡ Legal = same_verdict (board_of tables x) legal.0 v Legal (subst (λ (q : AReport). IsVerdict (board_of tables x) q v) same is) legal.2 in
        (status ∙ ap verdict_status v_legal, line ∙ ap verdict_line v_legal)

abbrev replay_words : List ℕ → List ℕ → List ℕ → List (List ℕ)
replay_words image script report = codes "replay" ∷ image ∷ script ∷ report ∷ []

module _ (files after : Files) (image script report text : List ℕ) (bytes : AreBytesTold files) (is : IsReported IsAny files image script text) (kept : HoldsReport files after image script report text) where
  board : LegalBoard (Some after) image script text
  board = board_stays files after image script text kept.image_stays kept.script_stays (reported IsAny files image script text bytes is)

  of_form : (listed : Form → Type 0) (P : Form → Type 0) → ((form : Form) × listed form × IsForm form (replay_words image script report) × P form) → P (Replay image script report)
  of_form listed P (form, l, f, p) = subst P (same_form form (Replay image script report) (replay_words image script report) f refl) p

  pub replayed : (listed : Form → Type 0) (s : ℕ) (t : List ℕ) → listed (Replay image script report) → IsAnswer listed (Some after) (codes "replay" ∷ image ∷ script ∷ report ∷ []) s t → (s ≡ 0) × (t ≡ verdict_line Legal)
  replayed listed s t l (inl a) = absurd (a.0 (Replay image script report) l refl)
  replayed listed s t l (inr a) = judged after image script report text s t kept.holds board (of_form listed (λ form. IsAnswerOf (Some after) form s t) a)

  due : (b a : Outside) (s : ℕ) (t : List ℕ) → IsDueOf (Some after) b a (Replay image script report) s t → (s ≡ 0) ⊎ ((s ≡ 4) ⊎ (s ≡ 9))
  due b a s t (inl h) = inl (judged after image script report text s t kept.holds board h.0).0
  due b a s t (inr (inl h)) = inr (inl h.0)
  due b a s t (inr (inr h)) = inr (inr h.0)

  pub replay_status : (listed : Form → Type 0) (b a : Outside) (result : ℕ) → listed (Replay image script report) → Answers listed (Some after) b a (codes "replay" ∷ image ∷ script ∷ report ∷ []) result → (result ≡ 0) ⊎ ((result ≡ 4) ⊎ ((result ≡ 5) ⊎ (result ≡ 9)))
  replay_status listed b a result l (s, t, d, inr x) = inr (inr (inl x.0))
  replay_status listed b a result l (s, t, inl d, inl x) = absurd (d.0.0 (Replay image script report) l refl)
  replay_status listed b a result l (s, t, inr d, inl x) = by_due (due b a s t (of_form listed (λ form. IsDueOf (Some after) b a form s t) d))
    where
      by_due : (s ≡ 0) ⊎ ((s ≡ 4) ⊎ (s ≡ 9)) → (result ≡ 0) ⊎ ((result ≡ 4) ⊎ ((result ≡ 5) ⊎ (result ≡ 9)))
      by_due (inl e) = inl (x.0 ∙ e)
      by_due (inr (inl e)) = inr (inl (x.0 ∙ e))
      by_due (inr (inr e)) = inr (inr (inr (x.0 ∙ e)))
