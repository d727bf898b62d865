-- A device has made as many ops as it has entries in the journal, and its program stays: so where an op is left, some agent may step.
use Rattle.std.proofs.Common.{◌≡◌, ◌==◌, ℕ, ◌+◌, ◌<◌, Bool, true, false, cond, List, [], ◌∷◌, length, get_or, refl, sym, ap, ◌∙◌, subst, arith, Some, slice_get, fold}
use Rattle.std.specs.Option.{option_map}
use Rattle.std.proofs.lemmas.Bool.{eqb-true, eqb-false}
use Rattle.mpb_spec.specs.declared.agent.Agent.{Agent}
use Rattle.mpb_spec.specs.declared.agent.Agent.TheVariants.{Cpu, Io, Dev}
use Rattle.mpb_spec.specs.declared.agent.Op.{Op}
use Rattle.mpb_spec.specs.declared.entry.Entry.{Entry}
use Rattle.mpb_spec.specs.State.{Device, BoardState, change_at}
use Rattle.mpb_spec.specs.Steps.{after}
use Rattle.mpb_spec.specs.Plan.{Plan, device_program, first_device, initial_state_of}
use Rattle.mpb_spec.specs.Configs.{IsConfig}
use Rattle.mpb_spec.specs.May.{IsQuiescent}
use Rattle.mpb_spec.specs.Journal.{IsLegal, after_entry, final_state_of}
use Rattle.mpb_start_laws.proofs.Lists.{read_here}
use Rattle.mpb_start_laws.proofs.Resting.{devices_rest}
use Rattle.mpb_robin.proofs.Places.{at-same, at-other, at-map, is-there, or-get}
use Rattle.mpb_robin.proofs.Frames.{cpu-devices, io-devices, dev-devices, one_on}
use Rattle.mpb_spec.specs.Agents.{is_agent, entries_of}

-- the device at a place has the program of v, and is so many ops further
pub record IsMoved (d n : ℕ) (v : Device) (s : BoardState) : Type 0 where
  pub device : Device
  pub at : slice_get s.devices d ≡ Some device
  pub program : device.program ≡ v.program
  pub position : device.position ≡ v.position + n

stays : (d : ℕ) (v : Device) (s t : BoardState) → slice_get s.devices d ≡ Some v → t.devices ≡ s.devices → IsMoved d 0 v t
stays d v s t at same = record { device = v; at = ap (λ ds. slice_get ds d) same ∙ at; program = refl; position = omega arith }

its-own : (d e : ℕ) (o : Op) (v : Device) (s : BoardState) → slice_get s.devices d ≡ Some v → (b : Bool) → (e == d) ≡ b → IsMoved d (cond b 1 0) v (after (Dev e) o s)
its-own d e o v s at true w =
    let same : e ≡ d = eqb-true e d w in
    record {
      device = one_on v;
      at = ap (λ ds. slice_get ds d) (dev-devices e o s)
          ∙ subst (λ (k : ℕ). slice_get (change_at k one_on s.devices) d ≡ Some (one_on v)) (sym same) (at-same one_on d s.devices ∙ ap (λ r. option_map one_on r) at);
      program = refl;
      position = omega arith;
    }
its-own d e o v s at false w = record {
  device = v;
  at = ap (λ ds. slice_get ds d) (dev-devices e o s) ∙ (at-other one_on e d s.devices (λ same. eqb-false e d w (sym same)) ∙ at);
  program = refl;
  position = omega arith;
}

step : (d : ℕ) (g : Agent) (o : Op) (v : Device) (s : BoardState) → slice_get s.devices d ≡ Some v → IsMoved d (cond (is_agent g (Dev d)) 1 0) v (after g o s)
step d (Cpu id) o v s at = stays d v s (after (Cpu id) o s) at (cpu-devices id o s)
step d (Io a) o v s at = stays d v s (after (Io a) o s) at (io-devices a o s)
step d (Dev e) o v s at = its-own d e o v s at (e == d) refl

counted : (b : Bool) (x : Entry) (xs : List Entry) → length (cond b (x ∷ xs) xs) ≡ cond b 1 0 + length xs
counted true x xs = omega arith
counted false x xs = omega arith

run : (d : ℕ) (v : Device) (s : BoardState) (xs : List Entry) → slice_get s.devices d ≡ Some v → IsMoved d (length (entries_of (Dev d) xs)) v (fold after_entry s xs)
run d v s [] at = record { device = v; at = at; program = refl; position = omega arith }
run d v s (x ∷ xs) at =
    let one = step d x.agent x.op v s at in
    let rest = run d one.device (after_entry s x) xs one.at in
    record {
      device = rest.device;
      at = rest.at;
      program = rest.program ∙ one.program;
      position = omega (arith, rest.position, one.position, counted (is_agent x.agent (Dev d)) x (entries_of (Dev d) xs));
    }

pub device_after : (c : Plan) (journal : List Entry) (d : ℕ) → d < length c.devices → IsMoved d (length (entries_of (Dev d) journal)) (first_device (get_or c.devices d [])) (final_state_of c journal)
device_after c journal d lt =
    let x = is-there d c.devices lt in
    let same : get_or c.devices d [] ≡ x.0 = or-get d c.devices x.0 [] x.1 in
    run d (first_device (get_or c.devices d [])) (initial_state_of c) journal
    (at-map first_device d c.devices ∙ (ap (λ o. option_map first_device o) x.1 ∙ ap (λ ws. Some (first_device ws)) (sym same)))

-- while a device has an op left, some agent may step
pub busy : (c : Plan) (journal : List Entry) (d : ℕ) → IsConfig c → IsLegal c journal → d < length c.devices
    → length (entries_of (Dev d) journal) < length (device_program (get_or c.devices d [])) → ¬ IsQuiescent (final_state_of c journal)
busy c journal d config legal lt more quiet =
    let m = device_after c journal d lt in
    let done : m.device.position ≡ length m.device.program =
    devices_rest c journal config (record { legal = legal; quiescent = quiet }) m.device (read_here (final_state_of c journal).devices d m.device m.at) in
    absurd (omega (arith, done, m.position, ap (λ (p : List Op). length p) m.program, more))
