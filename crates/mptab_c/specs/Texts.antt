-- What a sink that keeps the whole text is to its callers.
use Rattle.std.specs.Prelude.{ℕ, List, []}

-- the text so far, and how many puts failed
pub record Text : Type 0 where
  pub bytes : List ℕ
  pub faults : ℕ

abbrev pub no_text : Text
no_text = record { bytes = []; faults = 0 }
