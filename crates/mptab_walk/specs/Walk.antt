-- What the program answers to words and files: a status and a text. Nothing here names a command.
--     IsListed listed words P               the words are a listed form of which P holds
--     Reaches told files file               the walk over these files comes to that one: each before it is understood
--     EndsAt told file status text          the walk ends there: absent, too large or refused
--     IsAnswer listed told words status text    the answer of the walk
--     IsDueOf ..                            the answer, or a failed read or want of memory in its place
--     IsDelivered ..                        the text came to the sink's end, or a first part of it with status 5
--     Answers ..                            what is due was delivered
--     outside_of S O shelf out              the outside of a shelf and a sink
--     TellsFailures, TellsMisses            no failure, and no file that isn't there, is kept from the caller
-- The outside is seen before and after the call by its counts: which rose, and which stayed. A count rose also where it stands at its last value.
use Rattle.std.specs.Prelude.{◌≡◌, ◌≤◌, ◌<◌, ℕ, ◌+◌, List, [], ◌∷◌, length, map, string_bytes, String, Option, Some, None, ⊤, ◌⊎◌, nat_lt, if◌then◌else◌}
use Rattle.std.specs.Global.{Global}
use Rattle.std.specs.List.{AllByRecursion}
use Rattle.mpt_base.specs.Outside.{Files, Rose, IsSizeTold, Appends, AppendsPrefix}
use Rattle.mpt_base.specs.declared.outside.Shelf.{Ghosts as ShelfOf}
use Rattle.mpt_base.specs.declared.outside.Sink.{Ghosts as SinkOf}
use Rattle.mptab_walk.specs.Texts.{usage_line, no_file_line, cannot_read_line, no_memory_line, too_large_line}
use Rattle.mptab_walk.specs.Forms.{Form, Named, IsForm, files_of, name_of, limit_of, most_asked, IsRead}
use Rattle.mptab_walk.specs.Commands.{IsUnderstood, IsRefused, IsText}

-- the words are a listed form of which P holds
abbrev pub IsListed : (Form → Type 0) → List (List ℕ) → (Form → Type 0) → Type 0
IsListed listed words P = (form : Form) × listed form × IsForm form words × P form

-- the words are no listed form
abbrev pub IsNoForm : (Form → Type 0) → List (List ℕ) → Type 0
IsNoForm listed words = (form : Form) → listed form → ¬ IsForm form words

-- the outside at one moment
pub record Outside : Type 0 where
  -- files that weren't there
  pub misses : ℕ
  -- calls of the shelf that failed
  pub faults : ℕ
  -- bytes that were asked for
  pub asked : ℕ
  -- calls of the sink that failed
  pub sink_faults : ℕ
  -- what was written, where it is told
  pub written : Option (List ℕ)

abbrev pub outside : ℕ → ℕ → ℕ → ℕ → Option (List ℕ) → Outside
outside misses faults asked sink_faults written = record { misses = misses; faults = faults; asked = asked; sink_faults = sink_faults; written = written }

-- the outside of a shelf and a sink
abbrev pub outside_of : {X Y : Type 0} → ShelfOf X → SinkOf Y → X → Y → Outside
outside_of S O shelf out = outside (S.misses shelf) (S.faults shelf) (S.asked shelf) (O.faults out) (O.written out)

-- no call of the shelf failed, and none said that a file isn't there
abbrev pub IsQuiet : Outside → Outside → Type 0
IsQuiet before after = (after.faults ≡ before.faults) × (after.misses ≡ before.misses)

-- a call of the shelf failed, and none said that a file isn't there
abbrev pub HasFailed : Outside → Outside → Type 0
HasFailed before after = Rose before.faults after.faults × (after.misses ≡ before.misses)

-- ---- the walk over files

-- there is no such file
abbrev pub IsAbsent : Option Files → Named → Type 0
IsAbsent told file = IsSizeTold told (name_of file) None

-- the file has this size, and it passes its limit
abbrev pub IsTooLarge : Option Files → Named → ℕ → Type 0
IsTooLarge told file size = IsSizeTold told (name_of file) (Some size) × (limit_of file < size)

-- the walk over these files comes to that one: each before it is understood
abbrev pub Reaches : Option Files → List Named → Named → Type 0
Reaches told [] file = ⊥
Reaches told (f ∷ fs) file = (f ≡ file) ⊎ (IsUnderstood told f × Reaches told fs file)

-- the walk ends at this file: it isn't there, or passes its limit, or is refused
abbrev pub EndsAt : Option Files → Named → ℕ → List ℕ → Type 0
EndsAt told file status text =
    ((status ≡ 3) × IsAbsent told file × (text ≡ no_file_line (name_of file)))
    ⊎ (((status ≡ 10) × (size : ℕ) × IsTooLarge told file size × (text ≡ too_large_line (name_of file) size))
    ⊎ IsRefused told file status text)

-- the answer of a form: that of the file at which the walk ends, or its text where each file is understood
abbrev pub IsAnswerOf : Option Files → Form → ℕ → List ℕ → Type 0
IsAnswerOf told form status text =
    ((file : Named) × Reaches told (files_of form) file × EndsAt told file status text)
    ⊎ (AllByRecursion (IsUnderstood told) (files_of form) × IsText told form status text)

-- the answer to words that are no listed form
abbrev pub IsUsage : (Form → Type 0) → List (List ℕ) → ℕ → List ℕ → Type 0
IsUsage listed words status text = IsNoForm listed words × (status ≡ 2) × (text ≡ usage_line)

-- the answer of the walk over words and files
abbrev pub IsAnswer : (Form → Type 0) → Option Files → List (List ℕ) → ℕ → List ℕ → Type 0
IsAnswer listed told words status text = IsUsage listed words status text ⊎ IsListed listed words (λ form. IsAnswerOf told form status text)

-- ---- what stands in its place

-- the first of these files, if there is one, is there and within its limit
abbrev pub IsFirstRead : Option Files → List Named → Type 0
IsFirstRead told [] = ⊤
IsFirstRead told (file ∷ files) = IsRead told file (λ bytes. ⊤)

-- a failed read of a file that the walk reaches, or want of memory, never before the first file is there and within its limit
abbrev pub IsFailure : Option Files → Outside → Outside → Form → ℕ → List ℕ → Type 0
IsFailure told before after form status text =
    ((status ≡ 4) × HasFailed before after × (file : Named) × Reaches told (files_of form) file × (text ≡ cannot_read_line (name_of file)))
    ⊎ ((status ≡ 9) × IsQuiet before after × IsFirstRead told (files_of form) × (text ≡ no_memory_line))

-- what the shelf counts beside an answer: no failed call, and a file that isn't there where status 3 says so, and nowhere else
abbrev pub IsCounted : Outside → Outside → ℕ → Type 0
IsCounted before after status =
    (status ≡ 3 → Rose before.misses after.misses) × (after.faults ≡ before.faults) × ((status ≡ 3) ⊎ (after.misses ≡ before.misses))

-- what is due to a form: its answer where no read failed, or a failure in its place
abbrev pub IsDueOf : Option Files → Outside → Outside → Form → ℕ → List ℕ → Type 0
IsDueOf told before after form status text = (IsAnswerOf told form status text × IsCounted before after status) ⊎ IsFailure told before after form status text

-- what is due to words
abbrev pub IsDue : (Form → Type 0) → Option Files → Outside → Outside → List (List ℕ) → ℕ → List ℕ → Type 0
IsDue listed told before after words status text =
    (IsUsage listed words status text × IsQuiet before after) ⊎ IsListed listed words (λ form. IsDueOf told before after form status text)

-- ---- what the caller sees

-- the whole text came to what was written and no write failed, or, where one failed, a first part of the text
abbrev pub IsDelivered : Outside → Outside → ℕ → ℕ → List ℕ → Type 0
IsDelivered before after result status text =
    ((result ≡ status) × (after.sink_faults ≡ before.sink_faults) × Appends before.written after.written text)
    ⊎ ((result ≡ 5) × Rose before.sink_faults after.sink_faults × AppendsPrefix before.written after.written text)

-- the texts of the words
abbrev pub texts_of : List (String Global) → List (List ℕ)
texts_of words = map string_bytes words

-- the status and what was written are those of an answer that is due
abbrev pub Answers : (Form → Type 0) → Option Files → Outside → Outside → List (List ℕ) → ℕ → Type 0
Answers listed told before after words result = (status : ℕ) × (text : List ℕ) × IsDue listed told before after words status text × IsDelivered before after result status text

-- an answer of the walk is given whole, or memory ran out
abbrev pub AnswersWhole : (Form → Type 0) → Option Files → Outside → Outside → List (List ℕ) → ℕ → Type 0
AnswersWhole listed told before after words result =
    ((text : List ℕ) × IsAnswer listed told words result text × Appends before.written after.written text)
    ⊎ ((result ≡ 9) × Appends before.written after.written no_memory_line)

-- where no call failed, an answer is given whole, or memory ran out
abbrev pub IsComplete : (Form → Type 0) → Option Files → Outside → Outside → List (List ℕ) → ℕ → Type 0
IsComplete listed told before after words result =
    ¬ Rose before.faults after.faults → ¬ Rose before.sink_faults after.sink_faults → AnswersWhole listed told before after words result

-- no failure is kept from the caller: after a failed read the status is 4 or 5, after a failed write 5
pub record TellsFailures (before after : Outside) (result : ℕ) : Type 0 where
  pub reads : (result ≡ 4) ⊎ ((result ≡ 5) ⊎ (after.faults ≡ before.faults))
  pub writes : (result ≡ 5) ⊎ (after.sink_faults ≡ before.sink_faults)

-- no file that isn't there is kept from the caller: after one the status is 3, or 5 where the line about it couldn't be written
abbrev pub TellsMisses : Outside → Outside → ℕ → Type 0
TellsMisses before after result = (result ≡ 3) ⊎ ((result ≡ 5) ⊎ (after.misses ≡ before.misses))

-- ---- what is asked for

-- the most bytes that are asked for of this file: where the files are told, none where it isn't there or passes its limit
abbrev pub most_of_held : Option (List ℕ) → Named → ℕ
most_of_held None file = 0
most_of_held (Some bytes) file = if nat_lt (limit_of file) (length bytes) then 0 else most_asked file (length bytes)

abbrev pub most_of : Option Files → Named → ℕ
most_of None file = most_asked file (limit_of file)
most_of (Some files) file = most_of_held (files (name_of file)) file

-- so many bytes are asked for of these files at most: of the first, and, where it is understood, of those behind it
abbrev pub AsksOf : Option Files → List Named → ℕ → Type 0
AsksOf told [] n = n ≡ 0
AsksOf told (file ∷ files) n = (n ≤ most_of told file) ⊎ (IsUnderstood told file × (first rest : ℕ) × (n ≡ first + rest) × (first ≤ most_of told file) × AsksOf told files rest)

-- words that are no listed form ask for nothing, and those of one for at most what its walk lets
abbrev pub AsksAtMost : (Form → Type 0) → Option Files → Outside → Outside → List (List ℕ) → Type 0
AsksAtMost listed told before after words =
    (IsNoForm listed words × (after.asked ≡ before.asked)) ⊎ IsListed listed words (λ form. (n : ℕ) × (after.asked ≤ before.asked + n) × AsksOf told (files_of form) n)
