-- What the walk over an image and a script meets is what is due to the form.
use Rattle.std.proofs.Common.{◌≡◌, ℕ, ◌+◌, ◌≤◌, ◌⊎◌, List, [], ◌∷◌, Option, Some, None, Result, Ok, Err, IfOk, IfErr, refl, sym, subst, ◌∙◌, inl, inr, arith}
use Rattle.std.specs.List.{AllByRecursion}
use Rattle.mpt_base.specs.Outside.{Files, Rose}
use Rattle.mpt_spec.specs.declared.tables.Tables.{Tables}
use Rattle.mpt_spec.specs.Table.{Describes}
use Rattle.mpt_spec.specs.Canonical.{IsWellFormed}
use Rattle.mpb_spec.specs.declared.fault.BoardError.{BoardError}
use Rattle.mpb_spec.specs.Plan.{Plan}
use Rattle.mpb_spec.specs.declared.fault.BoardError.TheVariants as board_fault
use Rattle.mpb_spec.specs.Configs.{IsStartableAt}
use Rattle.mpt_route.specs.declared.platform.Platform.{Platform}
use Rattle.mpt_route.specs.Platform.{platform_of}
use Rattle.mpb_setup.specs.Faults.{board_fault_of}
use Rattle.mpb_setup.specs.Answers.{IsCauseOf as BoardCause}
use Rattle.mpb_script.specs.Answers.{IsCauseOf}
use Rattle.mpb_script.specs.declared.script.Script.{Script as AScript}
use Rattle.mpb_script.specs.declared.script.ScriptFault.{ScriptFault}
use Rattle.mpb_script.specs.declared.script.ScriptFault.TheVariants as script_fault
use Rattle.mpb_script.specs.Script.{IsScriptOf, HasFault}
use Rattle.mpb_script.specs.Values.{HasScriptValues}
use Rattle.mpb_boards.specs.Boot.{IsBootOf, IsTraceOf}
use Rattle.mpb_boards.specs.Lines.{script_fault_line, board_fault_line, IsScriptFault, IsBoardFault}
use Rattle.mpt_base.specs.declared.outside.NoMemory.{NoMemory as NoMemoryUnit}
use Rattle.mpb_report_line.specs.declared.report.Report.{Report as AReport}
use Rattle.mpf_pic_lines.specs.declared.op.PicOp.{PicOp}
use Rattle.mpf_played.specs.Played.{IsPlayedBehind}
use Rattle.mpb_replay_laws.specs.declared.verdict.Verdict.{Verdict}
use Rattle.mpb_replay_laws.specs.declared.verdict.Verdict.TheVariants as verdict
use Rattle.mptab_walk.specs.declared.answer.Answer.{Answer}
use Rattle.mptab_walk.specs.declared.ending.Ending.{Ending}
use Rattle.mptab_walk.specs.declared.ending.Ending.TheVariants.{Absent, TooLarge, Unread, Refused, NoMemory}
use Rattle.mptab_walk.specs.declared.board.BoardEnding.{BoardEnding}
use Rattle.mptab_walk.specs.declared.board.BoardEnding.TheVariants.{AtImage, AtScript}
use Rattle.mptab_walk.specs.Texts.{no_memory_line}
use Rattle.mptab_walk.specs.Boards.{IsDescribed, IsBoardGiven, IsBoardEnding, HasAskedForEnd, board_ending_status, board_ending_text, IsBoardIn, RefusesScript}
use Rattle.mptab_walk.specs.Forms.{Form, Trace, Boot, Replay, Pic, Named, Image, Script, files_of, name_of, limit_of, IsRead}
use Rattle.mptab_walk.specs.Commands.{ImageGives, WithBoard, IsUnderstood, IsRefused, IsText, IsGivenBoard, ReportGives, IsJudged, verdict_status, CallsGive}
use Rattle.mptab_walk.specs.Walk.{Outside, IsQuiet, IsDueOf, AsksOf, Reaches, IsFirstRead, most_of}
use Rattle.mptab_walk.specs.Ending.{ending_status, ending_text, answer_status, answer_text, IsEnding, IsUndisturbed, Shelves, shelves}
use Rattle.mptab_walk.specs.Limited.{IsHeldWithin, IsRefusedBy}
use Rattle.mptab_walk.proofs.AnswerLemmas.{ending_at, read_there}
use Rattle.mptab_walk.proofs.LimitedLemmas.{held-read, refused_by}

-- what is due behind an earlier moment, since which no read failed and no file was missed
pub IsDueOf-earlier : (told : Option Files) (first before after : Outside) (form : Form) (status : ℕ) (text : List ℕ) → IsQuiet first before → IsDueOf told before after form status text → IsDueOf told first after form status text
IsDueOf-earlier told first before after form status text quiet (inl h) = inl (h.0, ((λ three. subst (λ n. Rose n after.misses) quiet.1 (h.1.0 three)), h.1.1 ∙ quiet.0, since h.1.2))
  where
    since : (status ≡ 3) ⊎ (after.misses ≡ before.misses) → (status ≡ 3) ⊎ (after.misses ≡ first.misses)
    since (inl three) = inl three
    since (inr same) = inr (same ∙ quiet.1)
IsDueOf-earlier told first before after form status text quiet (inr (inl h)) = inr (inl (h.0, (subst (λ n. Rose n after.faults) quiet.0 h.1.0, h.1.1 ∙ quiet.1), h.2, h.3, h.4))
IsDueOf-earlier told first before after form status text quiet (inr (inr h)) = inr (inr (h.0, (h.1.0 ∙ quiet.0, h.1.1 ∙ quiet.1), h.2, h.3))

-- an ending that is met behind an earlier moment, since which no read failed and no file was missed
pub IsEnding-earlier : (told : Option Files) (misses misses-between misses-after faults faults-between faults-after : ℕ) (file : Named) (e : Ending) → IsUndisturbed (shelves misses misses-between faults faults-between)
    → IsEnding told (shelves misses-between misses-after faults-between faults-after) file e → IsEnding told (shelves misses misses-after faults faults-after) file e
IsEnding-earlier told m mb ma f fb fa file Absent quiet h = (h.0, subst (λ n. Rose n ma) quiet.1 h.1, h.2 ∙ quiet.0)
IsEnding-earlier told m mb ma f fb fa file Unread quiet h = (subst (λ n. Rose n fa) quiet.0 h.0, h.1 ∙ quiet.1)
IsEnding-earlier told m mb ma f fb fa file (Refused answer) quiet h = (h.0, (h.1.0 ∙ quiet.0, h.1.1 ∙ quiet.1))
IsEnding-earlier told m mb ma f fb fa file NoMemory quiet h = (h.0, (h.1.0 ∙ quiet.0, h.1.1 ∙ quiet.1))
IsEnding-earlier told m mb ma f fb fa file (TooLarge size) quiet h = (h.0, (h.1.0 ∙ quiet.0, h.1.1 ∙ quiet.1))

-- an image that gives tables is there
pub image-there : (told : Option Files) (image : List ℕ) (tables : Tables) → ImageGives told image tables → IsRead told (Image image) (λ bytes. Unit {0})
image-there None image tables gives = tt
image-there (Some files) image tables gives = read_there files (Image image) (λ bytes. Describes bytes tables) gives

-- a form whose first two files are those of a board
module _ (told : Option Files) (form : Form) (image script : List ℕ) (tail : List Named) (files-are : files_of form ≡ Image image ∷ Script image script ∷ tail) where
  -- the walk comes to the image, and, where that gives tables, to the script
  reaches-image : Reaches told (files_of form) (Image image)
  reaches-image = subst (λ fs. Reaches told fs (Image image)) (sym files-are) (inl refl)

  reaches-script : (tables : Tables) → ImageGives told image tables → Reaches told (files_of form) (Script image script)
  reaches-script tables gives = subst (λ fs. Reaches told fs (Script image script)) (sym files-are) (inr ((tables, gives), inl refl))

  first-there : IsRead told (Image image) (λ bytes. Unit {0}) → IsFirstRead told (files_of form)
  first-there there = subst (λ fs. IsFirstRead told fs) (sym files-are) there

  -- where it ends at one of them, that is due
  pub board-ends : (before after : Outside) (e : BoardEnding) → IsBoardEnding told (shelves before.misses after.misses before.faults after.faults) image script e → IsDueOf told before after form (board_ending_status e) (board_ending_text image script e)
  board-ends before after (AtImage e) h = ending_at told before after form (Image image) e reaches-image first-there h
  board-ends before after (AtScript e) h = ending_at told before after form (Script image script) e (reaches-script h.1 h.2) (λ there. first-there (image-there told image h.1 h.2)) h.0

  -- and where memory is wanting behind them, that
  pub board-unmade : (before after : Outside) (c : Plan) → IsBoardGiven told image script c → IsQuiet before after → IsDueOf told before after form 9 no_memory_line
  board-unmade before after c given kept = inr (inr (refl, kept, first-there (image-there told image given.tables given.described.gives), refl))

  -- what is asked for
  pub asks-board : (before after : ℕ) (c : Plan) → IsBoardGiven told image script c → after ≤ before + (most_of told (Image image) + most_of told (Script image script)) → (n : ℕ) × (after ≤ before + n) × AsksOf told (files_of form) n
  asks-board before after c given le = (
    most_of told (Image image) + most_of told (Script image script),
    le,
    subst (λ fs. AsksOf told fs (most_of told (Image image) + most_of told (Script image script))) (sym files-are)
        (inr ((given.tables, given.described.gives), most_of told (Image image), most_of told (Script image script), refl, omega arith, inl (omega arith))),
  )

  pub asks-end : (before after : ℕ) (s : Shelves) (e : BoardEnding) → IsBoardEnding told s image script e → HasAskedForEnd told before after image script e → (n : ℕ) × (after ≤ before + n) × AsksOf told (files_of form) n
  asks-end before after s (AtImage e) h le = (most_of told (Image image), le, subst (λ fs. AsksOf told fs (most_of told (Image image))) (sym files-are) (inl (omega arith)))
  asks-end before after s (AtScript e) h le = (
    most_of told (Image image) + most_of told (Script image script),
    le,
    subst (λ fs. AsksOf told fs (most_of told (Image image) + most_of told (Script image script))) (sym files-are)
        (inr ((h.1, h.2), most_of told (Image image), most_of told (Script image script), refl, omega arith, inl (omega arith))),
  )

module _ (told : Option Files) (image script : List ℕ) (before after : Outside) (c : Plan) (text : List ℕ) (given : IsBoardGiven told image script c) (kept : IsQuiet before after) where
  -- both files are understood
  understood : AllByRecursion (IsUnderstood told) (Image image ∷ Script image script ∷ [])
  understood = ((given.tables, given.described.gives), ((given.tables, given.described.well_formed, given.described.gives, given.described.board.script, given.described.board.gives, given.described.board.sound), tt))

  -- the report is due
  pub trace-due : IsTraceOf c text → IsDueOf told before after (Trace image script) 0 text
  trace-due t = inl (inr (understood, (given.tables, given.described.well_formed, given.described.low, given.described.gives, (given.described.board.script, given.described.board.gives, given.described.board.sound, (refl, subst (λ (p : Plan). IsTraceOf p text) given.described.board.config t)))), ((λ three. absurd (omega (arith, three))), kept.0, inr kept.1))

  pub boot-due : ((page : ℕ) → IsStartableAt page c → IsBootOf page c text) → IsDueOf told before after (Boot image script) 0 text
  boot-due t = inl (inr (understood, (given.tables, given.described.well_formed, given.described.low, given.described.gives, (given.described.board.script, given.described.board.gives, given.described.board.sound, (refl, subst (λ (p : Plan). IsBootOf given.described.board.script.page p text) given.described.board.config (t given.described.board.script.page given.described.board.startable))))), ((λ three. absurd (omega (arith, three))), kept.0, inr kept.1))

-- ---- a replay

-- no verdict has the status of an absent file
verdict_not_absent : (v : Verdict) → verdict_status v ≡ 3 → ⊥
verdict_not_absent verdict.Legal e = omega (arith, e)
verdict_not_absent (verdict.Bad n why) e = omega (arith, e)
verdict_not_absent (verdict.Unfinished g) e = omega (arith, e)
verdict_not_absent (verdict.Log d) e = omega (arith, e)
verdict_not_absent (verdict.Accounts a pin) e = omega (arith, e)
verdict_not_absent (verdict.State n) e = omega (arith, e)

-- a form whose files are those of a board and a third
module _ (told : Option Files) (form : Form) (image script : List ℕ) (third : Named) (files-are : files_of form ≡ Image image ∷ Script image script ∷ third ∷ []) (tables : Tables) (c : Plan) (given : IsDescribed told image script tables c) where
  -- its script is understood
  script-understood : IsUnderstood told (Script image script)
  script-understood = (tables, given.well_formed, given.gives, given.board.script, given.board.gives, given.board.sound)

  reaches-third : Reaches told (files_of form) third
  reaches-third = subst (λ fs. Reaches told fs third) (sym files-are) (inr ((tables, given.gives), inr (script-understood, inl refl)))

  image-first : IsFirstRead told (files_of form)
  image-first = subst (λ fs. IsFirstRead told fs) (sym files-are) (image-there told image tables given.gives)

  -- where the walk ends at the third, that is due
  pub third-ends : (before after : Outside) (e : Ending) → IsEnding told (shelves before.misses after.misses before.faults after.faults) third e → IsDueOf told before after form (ending_status e) (ending_text (name_of third) e)
  third-ends before after e h = ending_at told before after form third e reaches-third (λ there. image-first) h

  -- and where memory is wanting behind it, that
  pub third-unmade : (before after : Outside) → IsQuiet before after → IsDueOf told before after form 9 no_memory_line
  third-unmade before after kept = inr (inr (refl, kept, image-first, refl))

  -- and its text where each file is understood
  pub third-due : (before after : Outside) (status : ℕ) (text : List ℕ) → IsQuiet before after → IsUnderstood told third → ¬ (status ≡ 3) → IsText told form status text → IsDueOf told before after form status text
  third-due before after status text kept understood not-absent is =
      inl (inr (subst (λ fs. AllByRecursion (IsUnderstood told) fs) (sym files-are) ((tables, given.gives), (script-understood, (understood, tt))), is), ((λ three. absurd (not-absent three)), kept.0, inr kept.1))

  -- what it is answered there, or want of memory
  pub third-answer : (before after : Outside) (r : Result Answer NoMemoryUnit) (P : ℕ → List ℕ → Type 0) → IsQuiet before after → IsUnderstood told third → ((status : ℕ) (text : List ℕ) → P status text → (¬ (status ≡ 3)) × IsText told form status text) → IfOk r (λ a. P a.status a.text.items)
      → IsDueOf told before after form (answer_status r) (answer_text r)
  third-answer before after (Ok a) P kept is given h = let both = given a.status a.text.items h in third-due before after a.status a.text.items kept is both.0 both.1
  third-answer before after (Err e) P kept is given h = third-unmade before after kept

  -- what is asked for
  pub asks-third : (before between after : ℕ) → between ≤ before + (most_of told (Image image) + most_of told (Script image script)) → after ≤ between + most_of told third → (n : ℕ) × (after ≤ before + n) × AsksOf told (files_of form) n
  asks-third before between after first second = (
    most_of told (Image image) + (most_of told (Script image script) + most_of told third),
    omega (arith, first, second),
    subst (λ fs. AsksOf told fs (most_of told (Image image) + (most_of told (Script image script) + most_of told third))) (sym files-are)
        (inr (
          (tables, given.gives),
          most_of told (Image image),
          most_of told (Script image script) + most_of told third,
          refl,
          omega arith,
          inr (script-understood, most_of told (Script image script), most_of told third, refl, omega arith, inl (omega arith)),
        )),
  )

-- of the board of a described config P holds
with-board : (told : Option Files) (image script : List ℕ) (tables : Tables) (c : Plan) (given : IsDescribed told image script tables c) (P : Tables → AScript → Type 0) → P tables given.board.script → WithBoard told image script P
with-board told image script tables c given P p = (tables, given.well_formed, given.low, given.gives, (given.board.script, given.board.gives, given.board.sound, p))

-- the verdict on a report is the text
pub verdict-text : (told : Option Files) (image script report : List ℕ) (tables : Tables) (c : Plan) (given : IsDescribed told image script tables c) (r : AReport) (status : ℕ) (text : List ℕ) → ReportGives told report r → IsJudged c r status text → IsText told (Replay image script report) status text
verdict-text told image script report tables c given r status text reads judged =
    with-board told image script tables c given _ (r, reads, subst (λ (p : Plan). IsJudged p r status text) given.board.config judged)

-- it has no status of an absent file
pub verdict-there : (c : Plan) (r : AReport) (status : ℕ) (text : List ℕ) → IsJudged c r status text → ¬ (status ≡ 3)
verdict-there c r status text judged three = verdict_not_absent judged.0 (sym judged.2 ∙ three)

-- what calls answer is the text
pub played-text : (told : Option Files) (image script calls : List ℕ) (tables : Tables) (c : Plan) (given : IsDescribed told image script tables c) (ops : List PicOp) (text : List ℕ) → CallsGive told calls ops → IsPlayedBehind c (platform_of tables) ops text → IsText told (Pic image script calls) 0 text
played-text told image script calls tables c given ops text lists played =
    with-board told image script tables c given _ (ops, lists, (refl, subst (λ (p : Plan). IsPlayedBehind p (platform_of tables) ops text) given.board.config played))

-- ---- a script

script-fault : (bytes : List ℕ) (f : ScriptFault) → IsCauseOf bytes f → IsScriptFault f → HasFault bytes f
script-fault bytes script_fault.NotToml h some = h
script-fault bytes (script_fault.Key name) h some = h
script-fault bytes (script_fault.Many n) h some = h
script-fault bytes (script_fault.Word agent index why) h some = h
script-fault bytes script_fault.NoMemory h some = absurd some

board-fault : (p : Platform) (s : AScript) (e : BoardError) → BoardCause p s e → IsBoardFault e → board_fault_of p s ≡ Some e
board-fault p s board_fault.NoBoot h some = h
board-fault p s (board_fault.DoubleId id) h some = h
board-fault p s (board_fault.WideId id) h some = h
board-fault p s (board_fault.BootWide id) h some = h
board-fault p s (board_fault.BootAbsent id) h some = h
board-fault p s (board_fault.ManyCpus n) h some = h
board-fault p s (board_fault.ManyIo n) h some = h
board-fault p s (board_fault.NoIo place) h some = h
board-fault p s board_fault.NoMemory h some = absurd some

-- a refusal with this line, which is there where something is at fault, or want of memory for it
refused_for : (answer : Result Answer NoMemoryUnit) (e : Ending) (refuses : ℕ → List ℕ → Type 0) (status : ℕ) (text : List ℕ) (Q : Type 0) → (Q → refuses status text) → IfOk answer (λ a. (a.status ≡ status) × (a.text.items ≡ text) × Q) → IfOk answer (λ a. e ≡ Refused a) → IfErr answer (λ m. e ≡ NoMemory)
    → IsRefusedBy refuses e
refused_for (Ok a) e refuses status text Q refused is ok err = refused_by (Ok a) e refuses status text (refused is.2) (is.0, is.1) ok err
refused_for (Err m) e refuses status text Q refused is ok err = subst (IsRefusedBy refuses) (sym err) tt

-- a text that the reader of scripts refuses
pub script-refused : (tables : Tables) (bytes : List ℕ) (f : ScriptFault) (answer : Result Answer NoMemoryUnit) (e : Ending) → IsCauseOf bytes f → IfOk answer (λ a. (a.status ≡ 8) × (a.text.items ≡ script_fault_line f) × IsScriptFault f) → IfOk answer (λ a. e ≡ Refused a) → IfErr answer (λ m. e ≡ NoMemory)
    → IsRefusedBy (RefusesScript tables bytes) e
script-refused tables bytes f answer e cause = refused_for answer e (RefusesScript tables bytes) 8 (script_fault_line f) (IsScriptFault f) (λ some. inl (refl, f, some, script-fault bytes f cause some, refl))

-- a script that describes no board
pub board-refused : (tables : Tables) (bytes : List ℕ) (script : AScript) (f : BoardError) (answer : Result Answer NoMemoryUnit) (e : Ending) → HasScriptValues script → IsScriptOf bytes script → BoardCause (platform_of tables) script f
    → IfOk answer (λ a. (a.status ≡ 11) × (a.text.items ≡ board_fault_line f) × IsBoardFault f) → IfOk answer (λ a. e ≡ Refused a) → IfErr answer (λ m. e ≡ NoMemory) → IsRefusedBy (RefusesScript tables bytes) e
board-refused tables bytes script f answer e values reads cause = refused_for answer e (RefusesScript tables bytes) 11 (board_fault_line f) (IsBoardFault f) (λ some. inr (refl, script, values, reads, f, board-fault (platform_of tables) script f cause some, refl))

module _ (told : Option Files) (image name bytes : List ℕ) (held : IsHeldWithin told name (limit_of (Script image name)) bytes) (tables : Tables) where
  -- the file is refused for what its text is refused for
  pub script-ends : IsWellFormed tables → ImageGives told image tables → (status : ℕ) (text : List ℕ) → RefusesScript tables bytes status text → IsRefused told (Script image name) status text
  script-ends low_form gives status text (inl h) = inl (h.0, h.1, h.2, held-read told (Script image name) bytes held (λ script. HasFault script h.1) h.3, h.4)
  script-ends low_form gives status text (inr h) = inr (h.0, tables, low_form, gives, h.1, (h.2, held-read told (Script image name) bytes held (λ script. IsScriptOf script h.1) h.3), h.4, h.5, h.6)

  -- the board of its text is that of the file
  pub board-given : (r : Result Plan Ending) → IfOk r (IsBoardIn tables bytes) → IfOk r (IsGivenBoard told image name tables)
  board-given (Ok c) h = record { script = h.script; gives = (h.values, held-read told (Script image name) bytes held (λ script. IsScriptOf script h.script) h.reads); sound = h.sound; config = h.config; startable = h.startable; small = h.small }
  board-given (Err e) h = tt
