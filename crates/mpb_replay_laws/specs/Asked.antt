-- Which agents are idle, and whether a pin is accounted for, as a computed test. Only laws and private functions cite this.
--     AreIdle f n s               the agents f 0 to f (n - 1) can't step
--     HasPulses c logs            each log is its device's pulses
--     AllAccounted c journal logs    all pins of the board are accounted for
--     starts_new o                the first hit, where there is one, is New
--     has_hit a pin logs          some log has a hit on the pin
--     has_new_start a pin logs    some log's first hit on it is New
--     is_accounted a pin n logs   the pin is accounted for, where it was collected n times
use Rattle.std.specs.Prelude.{◌≡◌, ◌<◌, ◌==◌, length, map, ℕ, Bool, false, not, ◌&&◌, ◌||◌, List, Option, None, Some, is_some}
use Rattle.std.specs.List.{list_any}
use Rattle.mpb_spec.specs.declared.agent.Agent.{Agent}
use Rattle.mpb_spec.specs.State.{BoardState}
use Rattle.mpb_spec.specs.May.{IsIdle}
use Rattle.mpb_spec.specs.declared.pulse.Pulse.{Pulse}
use Rattle.mpb_spec.specs.declared.pulse.Hit.{Hit}
use Rattle.mpb_spec.specs.declared.entry.Entry.{Entry}
use Rattle.mpb_spec.specs.Plan.{Plan}
use Rattle.mpb_spec.specs.Pulses.{pulses_of, is_new, new_hits, first_hit, pulses_in}
use Rattle.mpb_replay_laws.specs.Differences.{IsAccountedAt}

abbrev pub AreIdle : (ℕ → Agent) → ℕ → BoardState → Type 0
AreIdle f n s = (k : ℕ) → k < n → IsIdle s (f k)

abbrev pub HasPulses : Plan → List (List (Pulse × Hit)) → Type 0
HasPulses c logs = map pulses_of logs ≡ map pulses_in c.devices

abbrev pub AllAccounted : Plan → List Entry → List (List (Pulse × Hit)) → Type 0
AllAccounted c journal logs = (a pin : ℕ) → a < length c.ios → pin < 24 → IsAccountedAt a pin journal logs

abbrev pub starts_new : Option Hit → Bool
starts_new None = false
starts_new (Some h) = is_new h

abbrev pub has_hit : ℕ → ℕ → List (List (Pulse × Hit)) → Bool
has_hit a pin logs = list_any (λ log. is_some (first_hit a pin log)) logs

abbrev pub has_new_start : ℕ → ℕ → List (List (Pulse × Hit)) → Bool
has_new_start a pin logs = list_any (λ log. starts_new (first_hit a pin log)) logs

abbrev pub is_accounted : ℕ → ℕ → ℕ → List (List (Pulse × Hit)) → Bool
is_accounted a pin n logs = (new_hits a pin logs == n) && (not (has_hit a pin logs) || has_new_start a pin logs)
