-- On a board at rest no agent may step.
use Rattle.std.proofs.Common.{◌≡◌, ℕ, Bool, true, false, cond, ◌&&◌, refl, arith, Option, Some, None, slice_get, ◌⊎◌, inl, inr}
use Rattle.mpb_spec.specs.declared.agent.Agent.{Agent}
use Rattle.mpb_spec.specs.declared.agent.Agent.TheVariants.{Cpu, Io, Dev}
use Rattle.mpb_spec.specs.declared.agent.Offer.{Offer}
use Rattle.mpb_spec.specs.declared.agent.Offer.TheVariants as offer
use Rattle.mpb_spec.specs.declared.agent.Op.{Op}
use Rattle.mpb_spec.specs.declared.agent.Op.TheVariants as op
use Rattle.mpb_spec.specs.State.{Processor, Place, Device, BoardState, runs, processor_of, boot_is_through, all_ended}
use Rattle.mpb_spec.specs.Steps.{next_op, op_of_processor, op_of_device, op_of_place, unless_waiting}
use Rattle.mpb_spec.specs.May.{IsQuiescent}
use Rattle.mpb_start_laws.specs.Rest.{IsDone, AwaitsVector, IsSwept, IsAtRest}
use Rattle.mpb_start_laws.proofs.Lists.{read_here}
use Rattle.mpb_start_laws.proofs.Processors.{found_here}
use Rattle.std.proofs.lemmas.Option.{slice_get_past}

-- a processor that is done or awaits a vector
resting-op : (p : Processor) → (runs p.life ≡ true → IsDone p ⊎ AwaitsVector p) → op_of_processor (Some p) ≡ None
resting-op p rest = go (runs p.life) rest where
  done : IsDone p ⊎ AwaitsVector p → unless_waiting p.apic (slice_get p.program p.position) ≡ None
  done (inl end) = rw (slice_get_past p.program p.position (omega (arith, end))) refl
  done (inr waits) = rw (waits.take, waits.nothing) refl

  go : (b : Bool) → (b ≡ true → IsDone p ⊎ AwaitsVector p) → cond b (unless_waiting p.apic (slice_get p.program p.position)) None ≡ None
  go true rest = done (rest refl)
  go false rest = refl

cpu-quiet : (s : BoardState) (id : ℕ) → IsAtRest s → op_of_processor (processor_of id s.processors) ≡ None
cpu-quiet s id rest = go (processor_of id s.processors) refl where
  go : (r : Option Processor) → processor_of id s.processors ≡ r → op_of_processor r ≡ None
  go None e = refl
  go (Some p) e = resting-op p (rest.processors p (found_here id s.processors p e))

device-quiet : (s : BoardState) (n : ℕ) → IsAtRest s → op_of_device (boot_is_through s) (slice_get s.devices n) ≡ None
device-quiet s n rest = go (slice_get s.devices n) refl where
  go : (r : Option Device) → slice_get s.devices n ≡ r → op_of_device (boot_is_through s) r ≡ None
  go None e = refl
  go (Some d) e = rw (slice_get_past d.program d.position (omega (arith, rest.devices d (read_here s.devices n d e)))) refl

place-quiet : (s : BoardState) (n : ℕ) (f : Offer) → IsAtRest s → op_of_place (boot_is_through s) (all_ended s) f (slice_get s.places n) ≡ None
place-quiet s n f rest = go (slice_get s.places n) refl where
  swept-none : (t over : Bool) (f : Offer) (p : Place) → IsSwept p → op_of_place t over f (Some p) ≡ None
  swept-none t over offer.Next p is = rw is.nothing refl
  swept-none t over (offer.Collect pins) p is = rw is.swept (elim t as (λ b. cond {A = Option Op} (b && false) (Some (op.Collect pins)) None ≡ None) [ true ↦ refl | false ↦ refl ])
  swept-none t over offer.Sweep p is = rw is.swept refl

  go : (r : Option Place) → slice_get s.places n ≡ r → op_of_place (boot_is_through s) (all_ended s) f r ≡ None
  go None e = refl
  go (Some p) e = swept-none (boot_is_through s) (all_ended s) f p (rest.places p (read_here s.places n p e))

pub rest_is_quiet : (s : BoardState) → IsAtRest s → IsQuiescent s
rest_is_quiet s rest = λ g f. go g f where
  go : (g : Agent) (f : Offer) → next_op s g f ≡ None
  go (Cpu id) offer.Next = cpu-quiet s id rest
  go (Cpu id) (offer.Collect pins) = refl
  go (Cpu id) offer.Sweep = refl
  go (Dev n) offer.Next = device-quiet s n rest
  go (Dev n) (offer.Collect pins) = refl
  go (Dev n) offer.Sweep = refl
  go (Io n) f = place-quiet s n f rest
