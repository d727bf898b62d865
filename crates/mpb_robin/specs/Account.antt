-- What a run has to account for: every pulse that a device plans, and every collection (this project's own).
--     collected_count a pin journal  how often the pin was collected
--     AccountsForPulses c journal logs
use Rattle.std.specs.Prelude.{◌≡◌, ◌<◌, ◌==◌, ℕ, Bool, false, ◌&&◌, List, Some, Any, IsSome, map, count_by, length}
use Rattle.std.specs.Int.{bit_at}
use Rattle.mpb_spec.specs.declared.agent.Agent.{Agent}
use Rattle.mpb_spec.specs.declared.agent.Agent.TheVariants.{Io}
use Rattle.mpb_spec.specs.declared.agent.Op.{Op}
use Rattle.mpb_spec.specs.declared.agent.Op.TheVariants.{Collect}
use Rattle.mpb_spec.specs.declared.entry.Entry.{Entry}
use Rattle.mpb_spec.specs.Plan.{Plan}
use Rattle.mpb_spec.specs.declared.pulse.Pulse.{Pulse}
use Rattle.mpb_spec.specs.declared.pulse.Hit.{Hit}
use Rattle.mpb_spec.specs.declared.pulse.Hit.TheVariants.{New}
use Rattle.mpb_spec.specs.Pulses.{pulses_in, pulses_of, new_hits, first_hit}

-- the op of the agent collects the pin of the I/O APIC at place a
abbrev pub collects : ℕ → ℕ → Agent → Op → Bool
collects a pin (Io b) (Collect pins) = (b == a) && (bit_at pins pin == 1)
collects a pin g o = false

-- how often the pin was collected
abbrev pub collected_count : ℕ → ℕ → List Entry → ℕ
collected_count a pin journal = count_by (λ x. collects a pin x.agent x.op) journal

-- the logs account for all pulses: each device's log has its pulses in order; on each pin as many hits are New as there are
-- collections of it; and where a pin has a hit, some log's first hit on it is New
pub record AccountsForPulses (c : Plan) (journal : List Entry) (logs : List (List (Pulse × Hit))) : Type 0 where
  pub pulses : map pulses_of logs ≡ map pulses_in c.devices
  pub collections : (a pin : ℕ) → a < length c.ios → pin < 24 → new_hits a pin logs ≡ collected_count a pin journal
  pub first : (a pin : ℕ) → Any (λ log. IsSome (first_hit a pin log)) logs → Any (λ log. first_hit a pin log ≡ Some New) logs
