-- The causes. Statuses 2, 3, 4, 5, 9 and 10 are the walk's own; those of refusals and texts stand beside their causes in `IsRefused` and `IsText`.
--     ComesTo listed told words P    the walk of a listed form comes to a file of which P holds
--     Cause .. result                what the status says of words, files and outside; no status without one is answered
use Rattle.std.specs.Prelude.{◌≡◌, ℕ, List, Option, ⊤}
use Rattle.std.specs.List.{AllByRecursion}
use Rattle.mpt_base.specs.Outside.{Files, Rose}
use Rattle.mptab_walk.specs.Forms.{Form, Named, files_of}
use Rattle.mptab_walk.specs.Commands.{IsUnderstood, IsRefused, IsText}
use Rattle.mptab_walk.specs.Walk.{Outside, IsListed, IsNoForm, IsAbsent, IsTooLarge, Reaches, IsFirstRead}

-- the words are a listed form whose walk comes to a file of which P holds
abbrev pub ComesTo : (Form → Type 0) → Option Files → List (List ℕ) → (Named → Type 0) → Type 0
ComesTo listed told words P = IsListed listed words (λ form. (file : Named) × Reaches told (files_of form) file × P file)

-- the causes: no status without one is answered
pub data Cause (listed : Form → Type 0) (told : Option Files) (before after : Outside) (words : List (List ℕ)) (result : ℕ) : Type 0 where
  Done : IsListed listed words (λ form. AllByRecursion (IsUnderstood told) (files_of form) × (text : List ℕ) × IsText told form result text) → Cause listed told before after words result
  Refused : ComesTo listed told words (λ file. (text : List ℕ) × IsRefused told file result text) → Cause listed told before after words result
  Usage : result ≡ 2 → IsNoForm listed words → Cause listed told before after words result
  NoFile : result ≡ 3 → Rose before.misses after.misses → ComesTo listed told words (IsAbsent told) → Cause listed told before after words result
  CannotRead : result ≡ 4 → Rose before.faults after.faults → ComesTo listed told words (λ file. ⊤) → Cause listed told before after words result
  CannotWrite : result ≡ 5 → Rose before.sink_faults after.sink_faults → Cause listed told before after words result
  NoMemory : result ≡ 9 → IsListed listed words (λ form. IsFirstRead told (files_of form)) → Cause listed told before after words result
  TooLarge : result ≡ 10 → ComesTo listed told words (λ file. (size : ℕ) × IsTooLarge told file size) → Cause listed told before after words result
