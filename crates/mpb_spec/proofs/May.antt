-- What an agent may make is the op at its position.
use Rattle.std.proofs.Common.{◌≡◌, ℕ, Bool, true, false, cond, refl, ◌∙◌, Option, Some, None, slice_get, is_some}
use Rattle.mpb_spec.specs.declared.agent.Agent.{Agent}
use Rattle.mpb_spec.specs.declared.agent.Agent.TheVariants.{Cpu, Dev}
use Rattle.mpb_spec.specs.declared.agent.Offer.{Offer}
use Rattle.mpb_spec.specs.declared.agent.Offer.TheVariants as offer
use Rattle.mpb_spec.specs.declared.agent.Op.{Op}
use Rattle.mpb_spec.specs.declared.agent.Op.TheVariants as op
use Rattle.mpb_spec.specs.LocalApic.{LocalApic, next_vector}
use Rattle.mpb_spec.specs.State.{Processor, Device, BoardState, runs, processor_of, op_at, device_op_at, boot_is_through}
use Rattle.mpb_spec.specs.Steps.{next_op, op_of_processor, op_of_device, unless_waiting, unless_early, effect_of_cpu, effect_of_dev}
use Rattle.mpb_spec.proofs.Kept.{kept_op}

waits : (a : LocalApic) (x : Option Op) (o : Op) → unless_waiting a x ≡ Some o → x ≡ Some o
waits a None o e = e
waits a (Some op.Take) o e = go (is_some (next_vector a)) e where
  go : (b : Bool) → cond b (Some op.Take) None ≡ Some o → Some op.Take ≡ Some o
  go true h = h
  go false h = cc
waits a (Some x) o e = e

begins : (b : Bool) (x : Option Op) (o : Op) → unless_early b x ≡ Some o → x ≡ Some o
begins b None o e = e
begins true (Some op.Begin) o e = e
begins false (Some op.Begin) o e = cc
begins b (Some x) o e = e

of_processor : (p : Option Processor) (o : Op) → op_of_processor p ≡ Some o → op_at p ≡ Some o
of_processor None o e = cc
of_processor (Some p) o e = go (runs p.life) e where
  go : (b : Bool) → cond b (unless_waiting p.apic (slice_get p.program p.position)) None ≡ Some o → slice_get p.program p.position ≡ Some o
  go true h = waits p.apic (slice_get p.program p.position) o h
  go false h = cc

of_device : (b : Bool) (d : Option Device) (o : Op) → op_of_device b d ≡ Some o → device_op_at d ≡ Some o
of_device b None o e = cc
of_device b (Some d) o e = begins b (slice_get d.program d.position) o e

pub may_cpu : (s : BoardState) (id : ℕ) (f : Offer) (o : Op) → next_op s (Cpu id) f ≡ Some o → op_at (processor_of id s.processors) ≡ Some o
may_cpu s id offer.Next o e = of_processor (processor_of id s.processors) o e
may_cpu s id (offer.Collect m) o e = cc
may_cpu s id offer.Sweep o e = cc

may_dev : (s : BoardState) (d : ℕ) (f : Offer) (o : Op) → next_op s (Dev d) f ≡ Some o → device_op_at (slice_get s.devices d) ≡ Some o
may_dev s d offer.Next o e = of_device (boot_is_through s) (slice_get s.devices d) o e
may_dev s d (offer.Collect m) o e = cc
may_dev s d offer.Sweep o e = cc

kept_devices : (o : Op) (s : BoardState) → (effect_of_dev o s).devices ≡ s.devices
kept_devices (op.High a pin) s = refl
kept_devices (op.Low a pin) s = refl
kept_devices o s = refl

-- after the effect its op is still there
pub may_advance_cpu : (s : BoardState) (g : Agent) (id : ℕ) (f : Offer) (o : Op) → g ≡ Cpu id → next_op s g f ≡ Some o → op_at (processor_of id (effect_of_cpu id o s).processors) ≡ Some o
may_advance_cpu s g id f o is e = kept_op id o s ∙ may_cpu s id f o (rw is at e)

pub may_advance_dev : (s : BoardState) (g : Agent) (d : ℕ) (f : Offer) (o : Op) → g ≡ Dev d → next_op s g f ≡ Some o → device_op_at (slice_get (effect_of_dev o s).devices d) ≡ Some o
may_advance_dev s g d f o is e = rw (kept_devices o s) (may_dev s d f o (rw is at e))
