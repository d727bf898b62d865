-- Who may step, asked one after another: computed tests, which a law (proofs/Quiet) turns into what may be.
--     any_of s agent    an offer with which the agent may step is found
--     any_step s        one is found for some agent
use Rattle.std.specs.Prelude.{ℕ, ◌*◌, ◌^◌, ◌||◌, Bool, false, not, ◌&&◌, List, [], ◌∷◌, Option, None, Some, is_some, option_map, if◌then◌else◌, nat_lt, slice_get}
use Rattle.mpb_spec.specs.declared.agent.Agent.{Agent}
use Rattle.mpb_spec.specs.declared.agent.Agent.TheVariants.{Cpu, Io, Dev}
use Rattle.mpb_spec.specs.declared.agent.Offer.{Offer}
use Rattle.mpb_spec.specs.declared.agent.Offer.TheVariants as offer
use Rattle.mpb_spec.specs.IoApic.{next_due}
use Rattle.mpb_spec.specs.State.{Processor, Place, Device, BoardState, processor_of, boot_is_through, all_ended}
use Rattle.mpb_spec.specs.Steps.{op_of_processor, op_of_device}

-- the least pin with a collection left, as a mask
abbrev pub least_left : List ℕ → Option ℕ
least_left [] = None
least_left (n ∷ ns) = if nat_lt 0 n then Some 1 else option_map (λ m. 2 * m) (least_left ns)

-- a collection of that pin, a mask below 2 ^ 24
abbrev pub collect_of : Option ℕ → Option Offer
collect_of None = None
collect_of (Some m) = if nat_lt m (2 ^ 24) then Some (offer.Collect m) else None

-- an offer with which an I/O APIC may step
abbrev pub offer_of : Bool → Bool → Place → Option Offer
offer_of through over p =
    if is_some (next_due p.chip) then Some offer.Next
    else (if not p.swept && over then Some offer.Sweep
    else (if through && not p.swept then collect_of (least_left p.left) else None))

-- at the place
abbrev pub offer_at : Bool → Bool → Option Place → Option Offer
offer_at through over None = None
offer_at through over (Some p) = offer_of through over p

-- an offer with which the agent may step is found
abbrev pub any_of : BoardState → Agent → Bool
any_of s (Cpu id) = is_some (op_of_processor (processor_of id s.processors))
any_of s (Dev d) = is_some (op_of_device (boot_is_through s) (slice_get s.devices d))
any_of s (Io a) = is_some (offer_at (boot_is_through s) (all_ended s) (slice_get s.places a))

-- among the I/O APICs
abbrev pub any_place : Bool → Bool → List Place → Bool
any_place through over [] = false
any_place through over (p ∷ ps) = is_some (offer_of through over p) || any_place through over ps

-- among the processors
abbrev pub any_processor : List Processor → List Processor → Bool
any_processor all [] = false
any_processor all (p ∷ ps) = is_some (op_of_processor (processor_of p.id all)) || any_processor all ps

-- among the devices
abbrev pub any_device : Bool → List Device → Bool
any_device through [] = false
any_device through (d ∷ ds) = is_some (op_of_device through (Some d)) || any_device through ds

-- of all agents
abbrev pub any_step : BoardState → Bool
any_step s = any_processor s.processors s.processors || (any_place (boot_is_through s) (all_ended s) s.places || any_device (boot_is_through s) s.devices)
