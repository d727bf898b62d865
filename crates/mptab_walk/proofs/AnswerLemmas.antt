-- What the walk meets at a file is what is due to the form.
use Rattle.std.proofs.Common.{◌≡◌, ℕ, ◌+◌, ◌≤◌, ◌<◌, ◌^◌, List, [], ◌∷◌, length, map, get_or, Option, Some, None, IfSome, IsSomeAnd, Result, Ok, Err, IfOk, IfErr, refl, sym, ap, subst, ◌∙◌, inl, inr, arith}
use Rattle.std.specs.Prelude.{option_map, nat_lt, if◌then◌else◌, Bool, true, false}
use Rattle.std.proofs.lemmas.List.{length-map}
use Rattle.std.proofs.lemmas.Bool.{ltb-true}
use Rattle.mpt_base.specs.Outside.{Files, IsSizeTold}
use Rattle.mpt_spec.specs.declared.tables.Tables.{Tables}
use Rattle.mpt_spec.specs.Table.{Describes}
use Rattle.mpt_spec.specs.Search.{HasNoPointer}
use Rattle.mpt_spec.specs.Faults.{IsFirstFault}
use Rattle.mpt_spec.specs.Canonical.{IsWellFormed}
use Rattle.mpt_parse.specs.Listings.{IsListingOf}
use Rattle.mpt_rules.specs.declared.rule.Finding.{Finding}
use Rattle.mpt_table.proofs.ToldLemmas.{IfTold-map}
use Rattle.mpt_base.specs.declared.fault.Reason.{Reason}
use Rattle.mpt_table.specs.Windows.{IfTold}
use Rattle.mptab_walk.specs.declared.ending.Ending.{Ending}
use Rattle.mptab_walk.specs.declared.ending.Ending.TheVariants.{Absent, TooLarge, Unread, Refused, NoMemory}
use Rattle.std.specs.List.{AllByRecursion}
use Rattle.mptab_walk.specs.declared.words.Source.{Source}
use Rattle.mptab_walk.specs.declared.words.Source.TheVariants as source
use Rattle.mptab_walk.specs.declared.words.StillCommand.{StillCommand}
use Rattle.mptab_walk.specs.declared.words.StillCommand.TheVariants as still
use Rattle.mptab_walk.specs.declared.words.TablesCommand.{TablesCommand}
use Rattle.mptab_walk.specs.declared.words.TablesCommand.TheVariants as form
use Rattle.mptab_walk.specs.Forms.{Form, Show, Audit, Canon, Raise, Madt, Pirmake, Build, Route, Trace, Boot, Drill, Replay, Madtcmp, Pircmp, Pic, IsForm, IsInRange, form_of_still, Named, Image, Listing, Script, Report, AcpiTable, RoutingTable, Calls, files_of, form_of_tables, file_of_tables, name_of, limit_of, most_asked, named_of, IsRead}
use Rattle.mptab_walk.specs.Commands.{status_of, ImageGives, ListingGives, GivesTables, IsUnderstood, IsRefused, IsText, IsAnswerTo, IsReadyFor, IsDrillDue, no_pointer_line, fault_line}
use Rattle.mptab_walk.specs.Walk.{Outside, IsQuiet, IsDueOf, AsksOf, Reaches, IsFirstRead, most_of, most_of_held}
use Rattle.mptab_walk.specs.Ending.{ending_status, ending_text, answer_status, answer_text, IsEnding, IsUndisturbed, Shelves, shelves}
use Rattle.mptab_walk.specs.declared.answer.Answer.{Answer}
use Rattle.mpt_base.specs.declared.outside.NoMemory.{NoMemory as NoMemoryUnit}

-- no refusal has the status of an absent file
refused_not_absent : (told : Option Files) (file : Named) (status : ℕ) (text : List ℕ) → IsRefused told file status text → status ≡ 3 → ⊥
refused_not_absent told (Image name) status text (inl h) three = omega (arith, three, h.0)
refused_not_absent told (Image name) status text (inr h) three = omega (arith, three, h.0)
refused_not_absent told (Listing name) status text (inl h) three = omega (arith, three, h.0)
refused_not_absent told (Listing name) status text (inr h) three = omega (arith, three, h.0)
refused_not_absent told (Script image name) status text (inl h) three = omega (arith, three, h.0)
refused_not_absent told (Script image name) status text (inr h) three = omega (arith, three, h.0)
refused_not_absent told (Report name) status text h three = omega (arith, three, h.0)
refused_not_absent told (AcpiTable name) status text h three = omega (arith, three, h.0)
refused_not_absent told (RoutingTable name) status text h three = omega (arith, three, h.0)
refused_not_absent told (Calls name) status text h three = omega (arith, three, h.0)

-- where the walk ends at a file that it comes to, that is due; where memory is wanting the first file is to be there
pub ending_at : (told : Option Files) (before after : Outside) (form : Form) (file : Named) (e : Ending) → Reaches told (files_of form) file → (IsRead told file (λ bytes. Unit {0}) → IsFirstRead told (files_of form))
    → IsEnding told (shelves before.misses after.misses before.faults after.faults) file e → IsDueOf told before after form (ending_status e) (ending_text (name_of file) e)
ending_at told before after form file Absent reaches first h = inl (inl (file, reaches, inl (refl, h.0, refl)), ((λ three. h.1), h.2, inl refl))
ending_at told before after form file Unread reaches first h = inr (inl (refl, h, file, reaches, refl))
ending_at told before after form file NoMemory reaches first h = inr (inr (refl, h.1, first h.0, refl))
ending_at told before after form file (TooLarge size) reaches first h = inl (inl (file, reaches, inr (inl (refl, size, h.0, refl))), ((λ three. absurd (omega (arith, three))), h.1.0, inr h.1.1))
ending_at told before after form file (Refused answer) reaches first h = inl (inl (file, reaches, inr (inr h.0)), ((λ three. absurd (refused_not_absent told file answer.status answer.text.items h.0 three)), h.1.0, inr h.1.1))

-- a form over tables has one file
files_are : (c : TablesCommand) → files_of (form_of_tables c) ≡ file_of_tables c ∷ []
files_are (form.Show image) = refl
files_are (form.Audit image) = refl
files_are (form.Canon image) = refl
files_are (form.Raise image) = refl
files_are (form.Madt image elcr) = refl
files_are (form.Pirmake image) = refl
files_are (form.Build listing) = refl
files_are (form.Route image elcr) = refl

one_file : (c : TablesCommand) (file : Named) → file ≡ file_of_tables c → files_of (form_of_tables c) ≡ file ∷ []
one_file c file is = files_are c ∙ ap (λ (f : Named). f ∷ []) (sym is)

-- where the walk ends at that file, that is due
pub IsEnding-due : (told : Option Files) (before after : Outside) (c : TablesCommand) (file : Named) (name : List ℕ) (e : Ending) → file ≡ file_of_tables c → name ≡ name_of file → IsEnding told (shelves before.misses after.misses before.faults after.faults) file e
    → IsDueOf told before after (form_of_tables c) (ending_status e) (ending_text name e)
IsEnding-due told before after c file name e is named h =
    let files = one_file c file is in
    subst (λ (n : List ℕ). IsDueOf told before after (form_of_tables c) (ending_status e) (ending_text n e)) (sym named)
    (ending_at told before after (form_of_tables c) file e (subst (λ (fs : List Named). Reaches told fs file) (sym files) (inl refl)) (λ there. subst (λ (fs : List Named). IsFirstRead told fs) (sym files) there) h)

-- a file of which something is read is there
pub read_there : (files : Files) (file : Named) (P : List ℕ → Type 0) → IsRead (Some files) file P → IsRead (Some files) file (λ bytes. Unit {0})
read_there files file P h = held (files (name_of file)) h
  where
    held : (o : Option (List ℕ)) → IsSomeAnd o (λ bytes. (length bytes ≤ limit_of file) × P bytes) → IsSomeAnd o (λ bytes. (length bytes ≤ limit_of file) × Unit {0})
    held None h = absurd h
    held (Some bytes) h = (h.0, tt)

-- a file that gives tables is there
source_there : (told : Option Files) (s : Source) (tables : Tables) → GivesTables told s tables → IsRead told (named_of s) (λ bytes. Unit {0})
source_there None s tables gives = tt
source_there (Some files) (source.Image name) tables gives = read_there files (Image name.now) (λ image. Describes image tables) gives
source_there (Some files) (source.Listing name) tables gives = read_there files (Listing name.now) (IsListingOf tables) gives.1

-- it is understood
source_understood : (told : Option Files) (s : Source) (tables : Tables) → GivesTables told s tables → IsUnderstood told (named_of s)
source_understood told (source.Image name) tables gives = (tables, gives)
source_understood told (source.Listing name) tables gives = (tables, gives)

-- no answer to tables has the status of an absent file
not_absent : (c : TablesCommand) (tables : Tables) (status : ℕ) (text : List ℕ) → IsAnswerTo c tables status text → status ≡ 3 → ⊥
not_absent (form.Show image) tables status text h three = omega (arith, three, h.0)
not_absent (form.Audit image) tables status text (findings, are, is, t) three = by_findings findings is
  where
    by_findings : (fs : List Finding) → status ≡ status_of fs → ⊥
    by_findings [] e = omega (arith, three, e)
    by_findings (f ∷ fs) e = omega (arith, three, e)
not_absent (form.Canon image) tables status text (inl h) three = omega (arith, three, h.0)
not_absent (form.Canon image) tables status text (inr h) three = omega (arith, three, h.0)
not_absent (form.Raise image) tables status text (inl h) three = omega (arith, three, h.0)
not_absent (form.Raise image) tables status text (inr h) three = omega (arith, three, h.0)
not_absent (form.Madt image elcr) tables status text (inl h) three = omega (arith, three, h.0)
not_absent (form.Madt image elcr) tables status text (inr h) three = omega (arith, three, h.0)
not_absent (form.Pirmake image) tables status text (inl h) three = omega (arith, three, h.0)
not_absent (form.Pirmake image) tables status text (inr h) three = omega (arith, three, h.0)
not_absent (form.Build listing) tables status text h three = omega (arith, three, h.0)
not_absent (form.Route image elcr) tables status text h three = omega (arith, three, h.0)

-- tables that a form's file gives are what the form needs beside well formed
pub IsReadyFor-given : (told : Option Files) (c : TablesCommand) (s : Source) (tables : Tables) → named_of s ≡ file_of_tables c → GivesTables told s tables → IsReadyFor c tables
IsReadyFor-given told (form.Show image) s tables is gives = tt
IsReadyFor-given told (form.Audit image) s tables is gives = tt
IsReadyFor-given told (form.Canon image) s tables is gives = tt
IsReadyFor-given told (form.Raise image) s tables is gives = tt
IsReadyFor-given told (form.Madt image elcr) s tables is gives = tt
IsReadyFor-given told (form.Pirmake image) s tables is gives = tt
IsReadyFor-given told (form.Build listing) (source.Image name) tables is gives = absurd cc
IsReadyFor-given told (form.Build listing) (source.Listing name) tables is gives = gives.0
IsReadyFor-given told (form.Route image elcr) s tables is gives = tt

-- and their answer is the form's text
text_given : (told : Option Files) (c : TablesCommand) (s : Source) (tables : Tables) (status : ℕ) (text : List ℕ) → named_of s ≡ file_of_tables c → GivesTables told s tables → IsWellFormed tables → tables.at < 2 ^ 32
    → IsAnswerTo c tables status text → IsText told (form_of_tables c) status text
text_given told (form.Show image) (source.Image name) tables status text is gives w low h = let same : name.now ≡ image.now = cc in (tables, w, low, subst (λ n. ImageGives told n tables) same gives, h)
text_given told (form.Show image) (source.Listing name) tables status text is gives w low h = absurd cc
text_given told (form.Audit image) (source.Image name) tables status text is gives w low h = let same : name.now ≡ image.now = cc in (tables, w, low, subst (λ n. ImageGives told n tables) same gives, h)
text_given told (form.Audit image) (source.Listing name) tables status text is gives w low h = absurd cc
text_given told (form.Canon image) (source.Image name) tables status text is gives w low h = let same : name.now ≡ image.now = cc in (tables, w, low, subst (λ n. ImageGives told n tables) same gives, h)
text_given told (form.Canon image) (source.Listing name) tables status text is gives w low h = absurd cc
text_given told (form.Raise image) (source.Image name) tables status text is gives w low h = let same : name.now ≡ image.now = cc in (tables, w, low, subst (λ n. ImageGives told n tables) same gives, h)
text_given told (form.Raise image) (source.Listing name) tables status text is gives w low h = absurd cc
text_given told (form.Madt image elcr) (source.Image name) tables status text is gives w low h = let same : name.now ≡ image.now = cc in (tables, w, low, subst (λ n. ImageGives told n tables) same gives, h)
text_given told (form.Madt image elcr) (source.Listing name) tables status text is gives w low h = absurd cc
text_given told (form.Pirmake image) (source.Image name) tables status text is gives w low h = let same : name.now ≡ image.now = cc in (tables, w, low, subst (λ n. ImageGives told n tables) same gives, h)
text_given told (form.Pirmake image) (source.Listing name) tables status text is gives w low h = absurd cc
text_given told (form.Build listing) (source.Image name) tables status text is gives w low h = absurd cc
text_given told (form.Build listing) (source.Listing name) tables status text is gives w low h = let same : name.now ≡ listing.now = cc in (tables, w, low, subst (λ n. ListingGives told n tables) same gives, h)
text_given told (form.Route image elcr) (source.Image name) tables status text is gives w low h = let same : name.now ≡ image.now = cc in (tables, w, low, subst (λ n. ImageGives told n tables) same gives, h)
text_given told (form.Route image elcr) (source.Listing name) tables status text is gives w low h = absurd cc

-- so it is due
IsAnswerTo-due : (told : Option Files) (before after : Outside) (c : TablesCommand) (s : Source) (tables : Tables) (status : ℕ) (text : List ℕ) → named_of s ≡ file_of_tables c → GivesTables told s tables → IsWellFormed tables → tables.at < 2 ^ 32 → IsQuiet before after
    → IsAnswerTo c tables status text → IsDueOf told before after (form_of_tables c) status text
IsAnswerTo-due told before after c s tables status text is gives low_form low kept answer =
    let understood : AllByRecursion (IsUnderstood told) (files_of (form_of_tables c)) = subst (λ (fs : List Named). AllByRecursion (IsUnderstood told) fs) (sym (one_file c (named_of s) is)) (source_understood told s tables gives, tt) in
    inl (inr (understood, text_given told c s tables status text is gives low_form low answer), ((λ three. absurd (not_absent c tables status text answer three)), kept.0, inr kept.1))

-- and so is want of memory for it
pub answer-due : (told : Option Files) (before after : Outside) (c : TablesCommand) (s : Source) (tables : Tables) (r : Result Answer NoMemoryUnit) → named_of s ≡ file_of_tables c → GivesTables told s tables → IsWellFormed tables → tables.at < 2 ^ 32 → IsQuiet before after
    → IfOk r (λ a. IsAnswerTo c tables a.status a.text.items) → IsDueOf told before after (form_of_tables c) (answer_status r) (answer_text r)
answer-due told before after c s tables (Ok a) is gives low_form low kept answer = IsAnswerTo-due told before after c s tables a.status a.text.items is gives low_form low kept answer
answer-due told before after c s tables (Err e) is gives low_form low kept answer = IsEnding-due told before after c (named_of s) (name_of (named_of s)) NoMemory is refl (source_there told s tables gives, kept)

-- that file is all that is asked for
pub AsksOf-source : (told : Option Files) (c : TablesCommand) (file : Named) (before after : ℕ) → file ≡ file_of_tables c → after ≤ before + most_of told file → (n : ℕ) × (after ≤ before + n) × AsksOf told (files_of (form_of_tables c)) n
AsksOf-source told c file before after is asks =
    (most_of told file, asks, subst (λ (fs : List Named). AsksOf told fs (most_of told file)) (sym (one_file c file is)) (inl (omega arith)))

-- ---- an image

-- where the files are told, what is said of a file of a told size within its limit is said of one that is there
pub IsRead-told : (told : Option Files) (file : Named) (size : ℕ) (P : List ℕ → Type 0) → IsSizeTold told (name_of file) (Some size) → size ≤ limit_of file → IfTold told (name_of file) P → IsRead told file P
IsRead-told None file size P is within p = tt
IsRead-told (Some files) file size P is within p = held (files (name_of file)) is p
  where
    held : (o : Option (List ℕ)) → Some size ≡ option_map length o → IfSome o P → IsSomeAnd o (λ bytes. (length bytes ≤ limit_of file) × P bytes)
    held None e q = absurd cc
    held (Some bytes) e q = let same : size ≡ length bytes = cc in (omega (arith, same, within), q)

-- where the files are told, a file of a told size within its limit is there
pub IsRead-there : (told : Option Files) (file : Named) (size : ℕ) → IsSizeTold told (name_of file) (Some size) → size ≤ limit_of file → IsRead told file (λ bytes. Unit {0})
IsRead-there None file size is within = tt
IsRead-there (Some files) file size is within = held (files (name_of file)) is
  where
    held : (o : Option (List ℕ)) → Some size ≡ option_map length o → IsSomeAnd o (λ bytes. (length bytes ≤ limit_of file) × Unit {0})
    held None e = absurd cc
    held (Some bytes) e = let same : size ≡ length bytes = cc in (omega (arith, same, within), tt)

-- a refusal with this status and line, or want of memory for it
pub IsEnding-refused : (told : Option Files) (s : Shelves) (file : Named) (answer : Result Answer NoMemoryUnit) (e : Ending) (status : ℕ) (text : List ℕ) → IsRefused told file status text → IsRead told file (λ bytes. Unit {0}) → IsUndisturbed s
    → IfOk answer (λ a. (a.status ≡ status) × (a.text.items ≡ text)) → IfOk answer (λ a. e ≡ Refused a) → IfErr answer (λ m. e ≡ NoMemory) → IsEnding told s file e
IsEnding-refused told s file (Ok a) e status text refused there kept is ok err =
    subst (IsEnding told s file) (sym ok) (subst (λ (t : List ℕ). IsRefused told file a.status t) (sym is.1) (subst (λ (n : ℕ). IsRefused told file n text) (sym is.0) refused), kept)
IsEnding-refused told s file (Err m) e status text refused there kept is ok err = subst (IsEnding told s file) (sym err) (there, kept)

-- an image with a first fault is refused for it
pub IsRefused-fault : (told : Option Files) (name : List ℕ) (size at : ℕ) (why : Reason) → IsSizeTold told name (Some size) → size ≤ limit_of (Image name) → at < size → IfTold told name (λ image. IsFirstFault image at why) → IsRefused told (Image name) 7 (fault_line at why)
IsRefused-fault told name size at why is within inside first =
    inr (refl, at, why, omega (arith, inside, within), IsRead-told told (Image name) size (λ image. IsFirstFault image at why) is within first, refl)

-- and one without a floating pointer for that
pub IsRefused-none : (told : Option Files) (name : List ℕ) (size : ℕ) → IsSizeTold told name (Some size) → size ≤ limit_of (Image name) → IfTold told name HasNoPointer → IsRefused told (Image name) 6 no_pointer_line
IsRefused-none told name size is within none = inl (refl, IsRead-told told (Image name) size HasNoPointer is within none, refl)

-- of an image within its limit no more is asked for than what the windows may take
pub asks-image-most : (told : Option Files) (name : List ℕ) (size before after : ℕ) → IsSizeTold told name (Some size) → size ≤ limit_of (Image name) → after ≤ before + most_asked (Image name) size → after ≤ before + most_of told (Image name)
asks-image-most None name size before after is within asks = asks
asks-image-most (Some files) name size before after is within asks = of_held (files name) is
  where
    of_held : (o : Option (List ℕ)) → Some size ≡ option_map length o → after ≤ before + most_of_held o (Image name)
    of_held None e = absurd cc
    of_held (Some bytes) e = by_test (nat_lt (limit_of (Image name)) (length bytes)) refl
      where
        by_test : (t : Bool) → nat_lt (limit_of (Image name)) (length bytes) ≡ t → after ≤ before + (if t then 0 else most_asked (Image name) (length bytes))
        by_test true is-large = let same : size ≡ length bytes = cc in let large : limit_of (Image name) < length bytes = ltb-true (limit_of (Image name)) (length bytes) is-large in absurd (omega (arith, same, large, within))
        by_test false is-small = asks

-- where the files are told, what holds of the bytes that were read holds of the file
pub IsRead-bytes : (told : Option Files) (file : Named) (size : ℕ) (bytes : List ℕ) (P : List ℕ → Type 0) → IsSizeTold told (name_of file) (Some size) → size ≤ limit_of file → IfTold told (name_of file) (λ held. held ≡ bytes) → P bytes → IsRead told file P
IsRead-bytes told file size bytes P is within same p =
    IsRead-told told file size P is within (IfTold-map told (name_of file) (λ held. held ≡ bytes) P (λ held e. subst P (sym e) p) same)

-- ---- a drill

-- what a drill comes to is due
pub IsDrillDue-due : (told : Option Files) (before after : Outside) (n status : ℕ) (text : List ℕ) → IsQuiet before after → IsDrillDue n status text → IsDueOf told before after (Drill n) status text
IsDrillDue-due told before after n status text kept (inl h) = inl (inr (tt, h), ((λ three. absurd (omega (arith, three, h.0))), kept.0, inr kept.1))
IsDrillDue-due told before after n status text kept (inr h) = inr (inr (h.0, kept, tt, h.1))

-- its number is in range
pub IsInRange-form : (c : StillCommand) (words : List (List ℕ)) → IsForm (form_of_still c) words → IsInRange c
IsInRange-form (still.OfTables c) words is = tt
IsInRange-form (still.Trace files) words is = tt
IsInRange-form (still.Drill n) words is = is.0
IsInRange-form (still.Replay files) words is = tt
IsInRange-form (still.Madtcmp files) words is = tt
IsInRange-form (still.Pircmp files) words is = tt
IsInRange-form (still.Pic files) words is = tt

-- ---- words

-- two members
pub two_words : {X : Type 0} (bytes : X → List ℕ) (words : List X) (first second : X) → 2 ≤ length words → length words < 3 → first ≡ get_or words 0 first → second ≡ get_or words 1 second
    → map bytes words ≡ bytes first ∷ bytes second ∷ []
two_words bytes [] first second low high f s = absurd (omega arith)
two_words bytes (x ∷ []) first second low high f s = absurd (omega arith)
two_words bytes (x ∷ y ∷ []) first second low high f s = rw (← f, ← s) refl
two_words bytes (x ∷ y ∷ z ∷ zs) first second low high f s = absurd (omega arith)

-- three members
pub three_words : {X : Type 0} (bytes : X → List ℕ) (words : List X) (first second third : X) → 3 ≤ length words → length words < 4 → first ≡ get_or words 0 first → second ≡ get_or words 1 second → third ≡ get_or words 2 third
    → map bytes words ≡ bytes first ∷ bytes second ∷ bytes third ∷ []
three_words bytes [] first second third low high f s t = absurd (omega arith)
three_words bytes (x ∷ []) first second third low high f s t = absurd (omega arith)
three_words bytes (x ∷ y ∷ []) first second third low high f s t = absurd (omega arith)
three_words bytes (x ∷ y ∷ z ∷ []) first second third low high f s t = rw (← f, ← s, ← t) refl
three_words bytes (x ∷ y ∷ z ∷ w ∷ ws) first second third low high f s t = absurd (omega arith)

-- four members
pub four_words : {X : Type 0} (bytes : X → List ℕ) (words : List X) (first second third fourth : X) → 4 ≤ length words → length words < 5 → first ≡ get_or words 0 first → second ≡ get_or words 1 second → third ≡ get_or words 2 third → fourth ≡ get_or words 3 fourth
    → map bytes words ≡ bytes first ∷ bytes second ∷ bytes third ∷ bytes fourth ∷ []
four_words bytes [] first second third fourth low high f s t r = absurd (omega arith)
four_words bytes (x ∷ []) first second third fourth low high f s t r = absurd (omega arith)
four_words bytes (x ∷ y ∷ []) first second third fourth low high f s t r = absurd (omega arith)
four_words bytes (x ∷ y ∷ z ∷ []) first second third fourth low high f s t r = absurd (omega arith)
four_words bytes (x ∷ y ∷ z ∷ w ∷ []) first second third fourth low high f s t r = rw (← f, ← s, ← t, ← r) refl
four_words bytes (x ∷ y ∷ z ∷ w ∷ v ∷ vs) first second third fourth low high f s t r = absurd (omega arith)

-- a form has two words, three or four
few_words : (form : Form) (words : List (List ℕ)) → IsForm form words → (2 ≤ length words) × (length words < 5)
few_words (Show i) words e = let n = ap length e in (omega (arith, n), omega (arith, n))
few_words (Audit i) words e = let n = ap length e in (omega (arith, n), omega (arith, n))
few_words (Canon i) words e = let n = ap length e in (omega (arith, n), omega (arith, n))
few_words (Raise i) words e = let n = ap length e in (omega (arith, n), omega (arith, n))
few_words (Madt i n) words e = let k = ap length e.1 in (omega (arith, k), omega (arith, k))
few_words (Pirmake i) words e = let n = ap length e in (omega (arith, n), omega (arith, n))
few_words (Build i) words e = let n = ap length e in (omega (arith, n), omega (arith, n))
few_words (Route i n) words e = let k = ap length e.1 in (omega (arith, k), omega (arith, k))
few_words (Trace i j) words e = let n = ap length e in (omega (arith, n), omega (arith, n))
few_words (Boot i j) words e = let n = ap length e in (omega (arith, n), omega (arith, n))
few_words (Drill n) words e = let k = ap length e.1 in (omega (arith, k), omega (arith, k))
few_words (Replay i j k) words e = let n = ap length e in (omega (arith, n), omega (arith, n))
few_words (Madtcmp i n m) words e = let k = ap length e.1 in (omega (arith, k), omega (arith, k))
few_words (Pircmp i j) words e = let n = ap length e in (omega (arith, n), omega (arith, n))
few_words (Pic i j k) words e = let n = ap length e in (omega (arith, n), omega (arith, n))

pub no_words : {X : Type 0} (bytes : X → List ℕ) (words : List X) → length words < 2 → (form : Form) → IsForm form (map bytes words) → ⊥
no_words bytes words low form is = let few = few_words form (map bytes words) is in let n = few.0 in omega (arith, n, low, length-map words bytes)

pub many_words : {X : Type 0} (bytes : X → List ℕ) (words : List X) → 5 ≤ length words → (form : Form) → IsForm form (map bytes words) → ⊥
many_words bytes words high form is = let few = few_words form (map bytes words) is in let n = few.1 in omega (arith, n, high, length-map words bytes)
