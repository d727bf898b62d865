-- Who may step (this project's own).
use Rattle.std.specs.Prelude.{◌≡◌, None, Some}
use Rattle.mpb_spec.specs.declared.agent.Agent.{Agent}
use Rattle.mpb_spec.specs.declared.agent.Offer.{Offer}
use Rattle.mpb_spec.specs.declared.agent.Op.{Op}
use Rattle.mpb_spec.specs.State.{BoardState}
use Rattle.mpb_spec.specs.Steps.{next_op}

-- the agent may step with the offer
abbrev pub MayStep : BoardState → Agent → Offer → Type 0
MayStep s g f = (o : Op) × (next_op s g f ≡ Some o)

-- with some offer
abbrev pub MayAny : BoardState → Agent → Type 0
MayAny s g = (f : Offer) × MayStep s g f

-- with none
abbrev pub IsIdle : BoardState → Agent → Type 0
IsIdle s g = (f : Offer) → next_op s g f ≡ None

-- no agent may step with any offer: each processor that runs is at its end or waits for an interrupt, each device has ended,
-- and each I/O APIC has swept and has no pin due
abbrev pub IsQuiescent : BoardState → Type 0
IsQuiescent s = (g : Agent) → IsIdle s g
