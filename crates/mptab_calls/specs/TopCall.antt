-- What a top call promises, said once for all of them: each is a clause of `run`, of `run_with` and of `run_still`. They speak of the listed forms, of shelf and sink, of the words, of shelf and sink before the call and after it, and of the status.
--     GivesAnswer        status and text are an answer of words and files, or what comes in its place
--     HasCause           the status has its cause
--     IsWhole            where no call fails, an answer comes whole
--     HidesNoFailure     a failed read or write is told by the status
--     HidesNoMiss        and so is a file that isn't there
--     AsksNoMore         no more is asked for than the walk lets
use Rattle.std.specs.Prelude.{ℕ, List, String}
use Rattle.std.specs.Global.{Global}
use Rattle.mpt_base.specs.declared.outside.Shelf.{Ghosts as ShelfOf}
use Rattle.mpt_base.specs.declared.outside.Sink.{Ghosts as SinkOf}
use Rattle.mptab_walk.specs.Forms.{Form}
use Rattle.mptab_walk.specs.Walk.{outside_of, texts_of, Answers, IsComplete, TellsFailures, TellsMisses, AsksAtMost}
use Rattle.mptab_calls.specs.Causes.{Cause}

-- status and text are an answer of words and files; or a read failed, or memory ran out; or, with status 5, a write failed
abbrev pub GivesAnswer : {X Y : Type 0} → (Form → Type 0) → ShelfOf X → SinkOf Y → List (String Global) → X → Y → X → Y → ℕ → Type 0
GivesAnswer listed S O words shelf out shelf' out' result = Answers listed (S.files shelf) (outside_of S O shelf out) (outside_of S O shelf' out') (texts_of words) result

-- the status has its cause
abbrev pub HasCause : {X Y : Type 0} → (Form → Type 0) → ShelfOf X → SinkOf Y → List (String Global) → X → Y → X → Y → ℕ → Type 0
HasCause listed S O words shelf out shelf' out' result = Cause listed (S.files shelf) (outside_of S O shelf out) (outside_of S O shelf' out') (texts_of words) result

-- where no call fails, an answer comes whole, unless memory runs out
abbrev pub IsWhole : {X Y : Type 0} → (Form → Type 0) → ShelfOf X → SinkOf Y → List (String Global) → X → Y → X → Y → ℕ → Type 0
IsWhole listed S O words shelf out shelf' out' result = IsComplete listed (S.files shelf) (outside_of S O shelf out) (outside_of S O shelf' out') (texts_of words) result

-- no failure is kept from the caller
abbrev pub HidesNoFailure : {X Y : Type 0} → ShelfOf X → SinkOf Y → X → Y → X → Y → ℕ → Type 0
HidesNoFailure S O shelf out shelf' out' result = TellsFailures (outside_of S O shelf out) (outside_of S O shelf' out') result

-- no file that isn't there is kept from the caller
abbrev pub HidesNoMiss : {X Y : Type 0} → ShelfOf X → SinkOf Y → X → Y → X → Y → ℕ → Type 0
HidesNoMiss S O shelf out shelf' out' result = TellsMisses (outside_of S O shelf out) (outside_of S O shelf' out') result

-- no more is asked for than the files that the walk comes to let
abbrev pub AsksNoMore : {X Y : Type 0} → (Form → Type 0) → ShelfOf X → SinkOf Y → List (String Global) → X → Y → X → Y → Type 0
AsksNoMore listed S O words shelf out shelf' out' = AsksAtMost listed (S.files shelf) (outside_of S O shelf out) (outside_of S O shelf' out') (texts_of words)
