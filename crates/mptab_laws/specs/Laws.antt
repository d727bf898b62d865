-- The words in which the laws of the walk are said.
--     AreBytesTold files      each file is a list of bytes
--     HasOneText form         its text is one
--     HaveOneText words       so it is of the form of these words
--     AreAlike s u t v        two answers have one status, and, where it isn't 0, one text
--     IsReported listed files image script text    the text is the report of a run of the board of image and script
--     HoldsReport files after image script report text  later the report's file holds it, and image and script are as they were
use Rattle.std.specs.Prelude.{◌≡◌, ◌≢◌, ◌⊎◌, ℕ, List, [], ◌∷◌, codes, Some, IfSome, ⊤}
use Rattle.mpt_base.specs.Outside.{Files}
use Rattle.mpt_base.specs.Bytes.{IsByteList}
use Rattle.mptab_walk.specs.Forms.{Form, Show, Audit, Canon, Raise, Madt, Pirmake, Build, Route, Trace, Boot, Drill, Replay, Madtcmp, Pircmp, Pic, IsForm}
use Rattle.mptab_walk.specs.Walk.{IsAnswer}

-- each file is a list of bytes
abbrev pub AreBytesTold : Files → Type 0
AreBytesTold files = (name : List ℕ) → IfSome (files name) IsByteList

-- the form's text is one; a board may have many boots
abbrev pub HasOneText : Form → Type 0
HasOneText (Show image) = ⊤
HasOneText (Audit image) = ⊤
HasOneText (Canon image) = ⊤
HasOneText (Raise image) = ⊤
HasOneText (Madt image elcr) = ⊤
HasOneText (Pirmake image) = ⊤
HasOneText (Build listing) = ⊤
HasOneText (Route image elcr) = ⊤
HasOneText (Trace image script) = ⊤
HasOneText (Boot image script) = ⊥
HasOneText (Drill n) = ⊤
HasOneText (Replay image script report) = ⊤
HasOneText (Madtcmp image elcr madt) = ⊤
HasOneText (Pircmp image table) = ⊤
HasOneText (Pic image script calls) = ⊤

-- words of a form whose text is one, or of none
abbrev pub HaveOneText : List (List ℕ) → Type 0
HaveOneText words = (form : Form) → IsForm form words → HasOneText form

-- two answers with these statuses and texts have one status, and, where it isn't 0, one text
abbrev pub AreAlike : ℕ → ℕ → List ℕ → List ℕ → Type 0
AreAlike s u t v = (s ≡ u) × (s ≢ 0 → t ≡ v)

-- the text is what `trace` or `boot` answers to image and script with status 0
abbrev pub IsReported : (Form → Type 0) → Files → List ℕ → List ℕ → List ℕ → Type 0
IsReported listed files image script text =
    IsAnswer listed (Some files) (codes "trace" ∷ image ∷ script ∷ []) 0 text
    ⊎ IsAnswer listed (Some files) (codes "boot" ∷ image ∷ script ∷ []) 0 text

-- later the report's file holds the text, and image and script are as they were
pub record HoldsReport (files after : Files) (image script report text : List ℕ) : Type 0 where
  pub image_stays : after image ≡ files image
  pub script_stays : after script ≡ files script
  pub holds : after report ≡ Some text
