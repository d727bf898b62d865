-- The opening is a run, and every turn keeps what holds of one.
use Rattle.std.proofs.Common.{◌≡◌, ◌≢◌, ◌==◌, ◌&&◌, ℕ, zero, suc, ◌+◌, ◌^◌, ◌<◌, ◌≤◌, Bool, true, false, cond, List, [], ◌∷◌, ◌++◌, length, map, take, get_or, replicate, slice_get, sum_by, count_by, refl, sym, ap, ◌∙◌, subst, arith, Option, None, Some}
use Rattle.std.specs.Int.{bit_at}
use Rattle.std.proofs.lemmas.Bool.{lt-leb}
use Rattle.std.proofs.lemmas.Nat.Bits.{bit_at-zero}
use Rattle.std.proofs.lemmas.List.{length-replicate}
use Rattle.std.proofs.lemmas.List.Sums.{sum_by-cons}
use Rattle.mpb_spec.specs.declared.agent.Agent.{Agent}
use Rattle.mpb_spec.specs.declared.agent.Agent.TheVariants.{Cpu, Io, Dev}
use Rattle.mpb_spec.specs.declared.agent.Offer.TheVariants.{Collect}
use Rattle.mpb_spec.specs.declared.config.DevWord.{DevWord}
use Rattle.mpb_spec.specs.State.{Place, Device}
use Rattle.mpb_spec.specs.May.{MayStep}
use Rattle.mpb_spec.specs.Configs.{IsConfig}
use Rattle.mpb_spec.specs.Plan.{Plan, plan_size, first_device, first_places, first_place, device_program}
use Rattle.mpb_spec.specs.declared.pulse.Pulse.{Pulse}
use Rattle.mpb_spec.specs.declared.pulse.Hit.{Hit}
use Rattle.mpb_spec.specs.Pulses.{new_hits, new_hits_in, hits}
use Rattle.mpb_spec.specs.PlainLatch.{pins_at}
use Rattle.mpb_robin.specs.RoundRobin.{Run, state_in, turn, first_run, acts_of}
use Rattle.mpb_robin.specs.Rest.{IsRun, IsDeviceRun, IsAgentOf, is_over}
use Rattle.mpb_robin.proofs.Places.{at-map, by-option, or-get}
use Rattle.mpb_robin.proofs.Acts.{program-of_acts}
use Rattle.mpb_robin.proofs.StepsKeep.{cpu_keeps, io_keeps}
use Rattle.mpb_robin.proofs.DevicesKeep.{dev_keeps}

zeros-at : (n k : ℕ) → ◌≡◌ {A = ℕ} (get_or (replicate n 0) k 0) 0
zeros-at zero k = refl
zeros-at (suc n) zero = refl
zeros-at (suc n) (suc k) = zeros-at n k

logs-at : (n k : ℕ) → ◌≡◌ {A = List (Pulse × Hit)} (get_or (replicate n []) k []) []
logs-at zero k = refl
logs-at (suc n) zero = refl
logs-at (suc n) (suc k) = logs-at n k

sum-none : (f : List (Pulse × Hit) → ℕ) (n : ℕ) → f [] ≡ 0 → sum_by f (replicate n []) ≡ 0
sum-none f zero z = refl
sum-none f (suc n) z = let h = sum-none f n z in rw (sum_by-cons f [] (replicate n [])) (omega arith)

none-over : (ds : List (List DevWord)) → count_by is_over (map first_device ds) ≡ 0
none-over [] = refl
none-over (ws ∷ ds) =
    let h = none-over ds in
    let e = sum_by-cons (λ v. cond {A = ℕ} (is_over v) 1 0) (first_device ws) (map first_device ds) in
    let z : cond {A = ℕ} (is_over (first_device ws)) 1 0 ≡ 0 = ap (λ b. cond {A = ℕ} b 1 0) (lt-leb (length (device_program ws)) 0 (omega arith)) in
    omega arith

none-swept : (ds : List (List DevWord)) (k : ℕ) (ids : List ℕ) (a : ℕ) (p : Place) → slice_get (first_places ds k ids) a ≡ Some p → p.swept ≡ false
none-swept ds k [] a p e = cc
none-swept ds k (id ∷ ids) zero p e = let same : first_place ds k id ≡ p = cc in ap (λ (q : Place). q.swept) (sym same)
none-swept ds k (id ∷ ids) (suc a) p e = none-swept ds (k + 1) ids a p e

rows-at : (n a : ℕ) → a < n → ◌≡◌ {A = List ℕ} (get_or (replicate n (replicate 24 0)) a []) (replicate 24 0)
rows-at zero a l = absurd (omega arith)
rows-at (suc n) zero l = refl
rows-at (suc n) (suc a) l = rows-at n a (omega arith)

each-first : (c : Plan) (d : ℕ) (v : Device) → slice_get (map first_device c.devices) d ≡ Some v → (v.position ≡ 0) × IsDeviceRun (acts_of (get_or c.devices d [])) (get_or (replicate (length c.devices) 0) d 0) (get_or (replicate (length c.devices) []) d []) v
each-first c d v e =
    let h = by-option first_device (slice_get c.devices d) v (sym (at-map first_device d c.devices) ∙ e) in
    let words : get_or c.devices d [] ≡ h.0 = or-get d c.devices h.0 [] h.1 in
    let first : IsDeviceRun (acts_of h.0) 0 [] (first_device h.0) = record { program = program-of_acts h.0; within = omega arith; position = refl; pulses = refl } in
    let pos : (first_device h.0).position ≡ 0 = refl in (
      ap (λ (u : Device). u.position) (sym h.2) ∙ pos,
      subst (λ (u : Device). IsDeviceRun (acts_of (get_or c.devices d [])) (get_or (replicate (length c.devices) 0) d 0) (get_or (replicate (length c.devices) []) d []) u) h.2
          (subst (λ (ws : List DevWord). IsDeviceRun (acts_of ws) (get_or (replicate (length c.devices) 0) d 0) (get_or (replicate (length c.devices) []) d []) (first_device h.0)) (sym words)
          (subst (λ (q : ℕ × List (Pulse × Hit)). IsDeviceRun (acts_of h.0) q.0 q.1 (first_device h.0)) (λ i. (sym (zeros-at (length c.devices) d) i, sym (logs-at (length c.devices) d) i)) first)),
    )

pub first_is : (c : Plan) → IsConfig c → plan_size c < 2 ^ 32 → IsRun (first_run c)
first_is c config small = record {
  config = config;
  small = small;
  legal = tt;
  words = length-replicate (length c.ios) 0;
  counts = length-replicate (length c.ios) (replicate 24 0);
  made = length-replicate (length c.devices) 0;
  logs = length-replicate (length c.devices) [];
  total = refl;
  ended = sym (none-over c.devices);
  each = λ d v e. (each-first c d v e).1;
  begun = λ d v e ne. absurd (ne (each-first c d v e).0);
  latched = λ a ne. absurd (ne (zeros-at (length c.ios) a));
  narrow = λ a. subst (λ n. n < 2 ^ 24) (sym (zeros-at (length c.ios) a)) (omega arith);
  swept = λ a p e w. absurd (Rattle.std.proofs.Common.true≢false (sym w ∙ none-swept c.devices 0 c.ios a p e));
  balance = λ a pin l m. (let z : new_hits a pin (replicate (length c.devices) []) ≡ 0 = sum-none (new_hits_in a pin) (length c.devices) refl in let b : bit_at (get_or (replicate (length c.ios) 0) a 0) pin ≡ 0 = ap (λ n. bit_at n pin) (zeros-at (length c.ios) a) ∙ bit_at-zero pin in omega arith);
  counted = λ a pin l m. ap (λ xs. get_or xs pin 0) (rows-at (length c.ios) a l) ∙ zeros-at 24 pin;
  wide = λ a l. ap (λ xs. length xs) (rows-at (length c.ios) a l);
  first = λ a pin some. absurd (let z = sum-none (hits a pin) (length c.devices) refl in omega arith);
}

module _ (may_collect : (r : Run) (a : ℕ) → IsRun r → a < length r.plan.ios → pins_at a r.latch ≢ 0 → MayStep (state_in r) (Io a) (Collect (pins_at a r.latch))) where
  pub turn_keeps_if : (r : Run) (g : Agent) → IsRun r → IsAgentOf r.plan g → IsRun (turn g r)
  turn_keeps_if r (Cpu id) ok here = cpu_keeps r id ok
  turn_keeps_if r (Io a) ok here = io_keeps may_collect r a ok here
  turn_keeps_if r (Dev d) ok here = dev_keeps r d ok here
