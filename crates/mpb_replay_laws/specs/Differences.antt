-- The first difference of two lists, and the least agent or pin (this project's own).
--     IsFirstDifference xs ys n      the lists are the same up to place n, and differ there
--     IsFirstAble s g                the agent may step, and none before it
--     IsAccountedAt a pin journal logs       the pin's hits are accounted for
--     IsFirstUnaccounted c a pin journal logs   the pin is the least of the board's whose hits aren't
use Rattle.std.specs.Prelude.{◌≡◌, ◌≢◌, ◌<◌, ◌⊎◌, ℕ, List, Some, Any, IsSome, length, slice_get, take}
use Rattle.mpb_spec.specs.declared.agent.Agent.{Agent}
use Rattle.mpb_spec.specs.declared.agent.Agent.TheVariants.{Cpu, Io, Dev}
use Rattle.mpb_spec.specs.declared.entry.Entry.{Entry}
use Rattle.mpb_spec.specs.State.{BoardState}
use Rattle.mpb_spec.specs.May.{MayAny, IsIdle}
use Rattle.mpb_spec.specs.Plan.{Plan}
use Rattle.mpb_spec.specs.declared.pulse.Pulse.{Pulse}
use Rattle.mpb_spec.specs.declared.pulse.Hit.{Hit}
use Rattle.mpb_spec.specs.declared.pulse.Hit.TheVariants.{New}
use Rattle.mpb_spec.specs.Pulses.{new_hits, first_hit}
use Rattle.mpb_robin.specs.Account.{collected_count}

-- the first place at which the lists differ: there one has another item, or has ended
pub record IsFirstDifference {X : Type 0} (xs ys : List X) (n : ℕ) : Type 0 where
  pub same : take n xs ≡ take n ys
  pub other : slice_get xs n ≢ slice_get ys n

-- processors come before I/O APICs, these before devices, each by number
abbrev pub IsBefore : Agent → Agent → Type 0
IsBefore (Cpu i) (Cpu j) = i < j
IsBefore (Cpu i) g = Unit {0}
IsBefore (Io a) (Cpu j) = ⊥
IsBefore (Io a) (Io b) = a < b
IsBefore (Io a) (Dev e) = Unit {0}
IsBefore (Dev d) (Dev e) = d < e
IsBefore (Dev d) g = ⊥

-- the agent may step with some offer, and none before it may
pub record IsFirstAble (s : BoardState) (g : Agent) : Type 0 where
  pub may : MayAny s g
  pub first : (h : Agent) → IsBefore h g → IsIdle s h

-- as many hits on the pin are New as there are collections of it; and where it has a hit, some log's first hit on it is New
pub record IsAccountedAt (a pin : ℕ) (journal : List Entry) (logs : List (List (Pulse × Hit))) : Type 0 where
  pub collections : new_hits a pin logs ≡ collected_count a pin journal
  pub first : Any (λ log. IsSome (first_hit a pin log)) logs → Any (λ log. first_hit a pin log ≡ Some New) logs

-- the pins of the board, by I/O APIC and then by number
abbrev pub IsPinBefore : ℕ → ℕ → ℕ → ℕ → Type 0
IsPinBefore b p a pin = (b < a) ⊎ ((b ≡ a) × (p < pin))

-- the pin is one of the board's, its hits aren't accounted for, and those of each pin before it are
pub record IsFirstUnaccounted (c : Plan) (a pin : ℕ) (journal : List Entry) (logs : List (List (Pulse × Hit))) : Type 0 where
  pub place : a < length c.ios
  pub low : pin < 24
  pub wrong : ¬ IsAccountedAt a pin journal logs
  pub first : (b p : ℕ) → b < length c.ios → p < 24 → IsPinBefore b p a pin → IsAccountedAt b p journal logs
