-- Where no agent may step, the board is at rest.
use Rattle.std.proofs.Common.{◌≡◌, ℕ, suc, ◌≤◌, Bool, true, false, cond, not, ◌&&◌, List, [], ◌∷◌, length, refl, arith, Option, Some, None, slice_get, is_some, nat_le, ◌⊎◌, inl, inr, subst}
use Rattle.std.specs.List.{AllByRecursion, Contains, list_all}
use Rattle.std.proofs.lemmas.Bool.{le-leb}
use Rattle.mpb_spec.specs.declared.agent.Agent.TheVariants.{Cpu, Io, Dev}
use Rattle.mpb_spec.specs.declared.agent.Offer.{Offer}
use Rattle.mpb_spec.specs.declared.agent.Offer.TheVariants as offer
use Rattle.mpb_spec.specs.declared.agent.Op.{Op}
use Rattle.mpb_spec.specs.declared.agent.Op.TheVariants as op
use Rattle.mpb_spec.specs.declared.apic.Message.{Message}
use Rattle.mpb_spec.specs.declared.entry.Entry.{Entry}
use Rattle.mpb_spec.specs.LocalApic.{LocalApic, next_vector}
use Rattle.mpb_spec.specs.IoApic.{next_due}
use Rattle.mpb_spec.specs.State.{Processor, Place, Device, BoardState, runs, boot_is_through, all_ended}
use Rattle.mpb_spec.specs.Steps.{op_of_processor, op_of_device, op_of_place, unless_waiting, unless_early, send_of}
use Rattle.mpb_spec.specs.Plan.{Plan, initial_state_of}
use Rattle.mpb_spec.specs.Configs.{IsConfig}
use Rattle.mpb_spec.specs.Journal.{IsComplete, final_state_of}
use Rattle.mpb_start_laws.specs.Rest.{IsDone, AwaitsVector, HasEnded, IsSwept}
use Rattle.mpb_start_laws.proofs.Lists.{member, index_of, none_past}
use Rattle.mpb_start_laws.proofs.Through.{idle_at}
use Rattle.mpb_start_laws.proofs.BootStays.{through}
use Rattle.mpb_start_laws.proofs.Within.{IsWithin, run_within, first_within, processor_within}

-- a processor that runs and may not step
waits-why : (a : LocalApic) (r : Option Op) → unless_waiting a r ≡ None → (r ≡ None) ⊎ ((r ≡ Some op.Take) × (next_vector a ≡ None))
waits-why a None e = inl refl
waits-why a (Some op.Take) e = go (next_vector a) refl e where
  go : (v : Option ℕ) → next_vector a ≡ v → cond (is_some v) (Some op.Take) None ≡ None → (Some op.Take ≡ None) ⊎ ((Some op.Take ≡ Some op.Take) × (next_vector a ≡ None))
  go None w e = inr (refl, w)
  go (Some v) w e = cc
waits-why a (Some o) e = cc

rests-at : (p : Processor) → runs p.life ≡ true → p.position ≤ length p.program → op_of_processor (Some p) ≡ None → IsDone p ⊎ AwaitsVector p
rests-at p alive within idle = elim (waits-why p.apic (slice_get p.program p.position) (idle_at p alive idle)) [
  | inl none ↦ inl (omega (arith, within, none_past p.program p.position none))
  | inr take ↦ inr (record { take = take.0; nothing = take.1 })
]

pub processors_rest : (c : Plan) (journal : List Entry) → IsConfig c → IsComplete c journal → (p : Processor) → Contains (final_state_of c journal).processors p → runs p.life ≡ true → IsDone p ⊎ AwaitsVector p
processors_rest c journal is complete p here alive =
    let h = processor_within c journal p is complete.legal here in
    rests-at p alive h.1 (subst (λ (r : Option Processor). op_of_processor r ≡ None) h.0 (complete.quiescent (Cpu p.id) offer.Next))

-- a device that may not step once the boot program is through
early-why : (t : Bool) (r : Option Op) → t ≡ true → unless_early t r ≡ None → r ≡ None
early-why t None through e = refl
early-why true (Some op.Begin) through e = cc
early-why false (Some op.Begin) through e = cc
early-why t (Some o) through e = cc

pub devices_rest : (c : Plan) (journal : List Entry) → IsConfig c → IsComplete c journal → (d : Device) → Contains (final_state_of c journal).devices d → HasEnded d
devices_rest c journal is complete d here =
    let t : BoardState = final_state_of c journal in
    let all : AllByRecursion IsWithin t.devices = run_within (initial_state_of c) journal complete.legal (first_within c.devices) in
    let within : d.position ≤ length d.program = member IsWithin t.devices d all here in
    let at = index_of t.devices d here in
    let idle : op_of_device (boot_is_through t) (Some d) ≡ None = subst (λ (r : Option Device). op_of_device (boot_is_through t) r ≡ None) at.1 (complete.quiescent (Dev at.0) offer.Next) in
    let none : slice_get d.program d.position ≡ None = early-why (boot_is_through t) (slice_get d.program d.position) (through c journal is complete) idle in
    omega (arith, within, none_past d.program d.position none)

-- where each device has ended, all have
all-ended : (ds : List Device) → ((d : Device) → Contains ds d → HasEnded d) → list_all (λ d. nat_le (length d.program) d.position) ds ≡ true
all-ended [] each = refl
all-ended (d ∷ ds) each =
    let first : nat_le (length d.program) d.position ≡ true = le-leb (length d.program) d.position (omega (arith, each d (0, omega arith, refl))) in
    rw first (all-ended ds (λ x h. each x (suc h.0, omega (arith, h.1), h.2)))

-- an I/O APIC that may not step
none-due : (m : Option Message) → send_of m ≡ None → m ≡ None
none-due None e = refl
none-due (Some m) e = cc

is-swept : (b over : Bool) → over ≡ true → cond {A = Option Op} (not b && over) (Some op.Sweep) None ≡ None → b ≡ true
is-swept true over all e = refl
is-swept false true all e = cc
is-swept false false all e = cc

pub places_rest : (c : Plan) (journal : List Entry) → IsConfig c → IsComplete c journal → (p : Place) → Contains (final_state_of c journal).places p → IsSwept p
places_rest c journal is complete p here =
    let t : BoardState = final_state_of c journal in
    let at = index_of t.places p here in
    let over : all_ended t ≡ true = all-ended t.devices (devices_rest c journal is complete) in
    let idle : (f : Offer) → op_of_place (boot_is_through t) (all_ended t) f (Some p) ≡ None = λ f. subst (λ (r : Option Place). op_of_place (boot_is_through t) (all_ended t) f r ≡ None) at.1 (complete.quiescent (Io at.0) f) in
    record {
      swept = is-swept p.swept (all_ended t) over (idle offer.Sweep);
      nothing = none-due (next_due p.chip) (idle offer.Next);
    }
