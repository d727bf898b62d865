-- What a call of the library gives.
--     IsGiven files words status text              the status and the text, whether or not the text fits
--     IsHanded status text before after result     what the caller gets of them in its room
--     Gives files words before after needed result both, and how many bytes the text has
use Rattle.std.specs.Prelude.{◌≡◌, ◌≤◌, ◌<◌, ℕ, List, ◌++◌, drop, length, ◌⊎◌, Some}
use Rattle.mpt_base.specs.Outside.{Files}
use Rattle.mptab_walk.specs.Forms.{IsStill}
use Rattle.mptab_walk.specs.Texts.{no_memory_line}
use Rattle.mptab_walk.specs.Walk.{IsAnswer}

-- the program's answer to these words with these files, or its line for want of memory
abbrev pub IsGiven : Files → List (List ℕ) → ℕ → List ℕ → Type 0
IsGiven files words status text = IsAnswer IsStill (Some files) words status text ⊎ ((status ≡ 9) × (text ≡ no_memory_line))

-- the text lies at the start of the room, and the rest of the room stays; or the text passes the room, which stays whole, with status 64
abbrev pub IsHanded : ℕ → List ℕ → List ℕ → List ℕ → ℕ → Type 0
IsHanded status text before after result =
    ((length text ≤ length before) × (after ≡ text ++ drop (length text) before) × (result ≡ status))
    ⊎ ((length before < length text) × (after ≡ before) × (result ≡ 64))

-- what a caller gets: status, room before and after, and how many bytes the text has
abbrev pub Gives : Files → List (List ℕ) → List ℕ → List ℕ → ℕ → ℕ → Type 0
Gives files words before after needed result =
    (status : ℕ) × (text : List ℕ) × IsGiven files words status text × (needed ≡ length text) × IsHanded status text before after result
