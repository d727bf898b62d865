-- What a journal says of each vector at each processor (this project's own; Intel SDM volume 3, section 10.8.4, for the
-- request register).
--     is_requested d v s      processor d has a request of vector v
--     IsAccounted c journal   every vector that was set was taken, or is still requested
use Rattle.std.specs.Prelude.{◌≡◌, ℕ, ◌+◌, Bool, false, List, Option, None, Some, if◌then◌else◌}
use Rattle.mpb_spec.specs.declared.entry.Entry.{Entry}
use Rattle.mpb_spec.specs.Numbers.{has}
use Rattle.mpb_spec.specs.State.{Processor, BoardState, processor_of}
use Rattle.mpb_spec.specs.Plan.{Plan}
use Rattle.mpb_spec.specs.Journal.{final_state_of}
use Rattle.mpb_spec.specs.Requests.{set_count, taken_count}

-- the processor has a request of the vector
abbrev pub is_requested_by : ℕ → Option Processor → Bool
is_requested_by v None = false
is_requested_by v (Some p) = has v p.apic.irr

-- processor d has one
abbrev pub is_requested : ℕ → ℕ → BoardState → Bool
is_requested d v s = is_requested_by v (processor_of d s.processors)

-- at each processor each vector was set as often as it was taken, and once more where it is still requested
abbrev pub IsAccounted : Plan → List Entry → Type 0
IsAccounted c journal = (d v : ℕ) → set_count c journal d v ≡ taken_count journal d v + (if is_requested d v (final_state_of c journal) then 1 else 0)
