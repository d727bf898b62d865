-- What private functions cite: the low words by place and pin.
use Rattle.std.specs.Prelude.{◌≡◌, ℕ, ◌<◌, ◌==◌, ◌&&◌, if◌then◌else◌, List, [], length, Option, Some, None, slice_index_or}
use Rattle.std.specs.Option.{option_or}
use Rattle.mpt_route.specs.declared.route.Route.{Route}
use Rattle.mpt_route.specs.declared.route.Why.TheVariants as why
use Rattle.mpt_route.specs.declared.route.Answer.{Answer}
use Rattle.mpt_route.specs.declared.route.Answer.TheVariants as answer
use Rattle.mpt_route.specs.Routes.{taken_by}

abbrev pub pins_of : List (List (Option ℕ)) → ℕ → List (Option ℕ)
pins_of lows io = slice_index_or lows io []

abbrev pub low_at : List (List (Option ℕ)) → ℕ → ℕ → Option ℕ
low_at lows io pin = slice_index_or (pins_of lows io) pin None

-- four places of 24 pins
pub record HasPins (lows : List (List (Option ℕ))) : Type 0 where
  pub places : length lows ≡ 4
  pub pins : (io : ℕ) → io < 4 → length (pins_of lows io) ≡ 24

-- a row's low word is noted at its pin where none was there
abbrev pub NotesLow : List (List (Option ℕ)) → List (List (Option ℕ)) → Route → Type 0
NotesLow old new row = (io pin : ℕ) → io < 4 → pin < 24 → low_at new io pin ≡ option_or (low_at old io pin) (if (row.io == io) && (row.pin == pin) then Some row.low else None)

-- the answer to a row on a pin
abbrev pub answer_on : Option ℕ → Route → Answer
answer_on None row = answer.Routed row
answer_on (Some low) row = answer.Unrouted row.entry (if low == row.low then why.Shared else why.Clash)

-- the low words are those of the answers
abbrev pub IsLowsOf : List (List (Option ℕ)) → List Answer → Type 0
IsLowsOf lows answers = (io pin : ℕ) → io < 4 → pin < 24 → low_at lows io pin ≡ taken_by io pin answers
