-- A run at whose end no agent may step is complete, and accounts for all pulses.
use Rattle.std.proofs.Common.{◌≡◌, ℕ, suc, ◌<◌, ◌≤◌, Bool, true, false, List, [], ◌∷◌, length, map, get_or, refl, sym, ap, ap₂, ◌∙◌, arith, Option, Some, None, slice_get}
use Rattle.std.specs.Prelude.{Any, IsSome}
use Rattle.std.specs.Int.{bit_at}
use Rattle.std.proofs.lemmas.Bool.{le-leb}
use Rattle.std.proofs.lemmas.Nat.Bits.{bit_at-zero}
use Rattle.mpb_spec.specs.declared.agent.Agent.TheVariants.{Io, Dev}
use Rattle.mpb_spec.specs.declared.agent.Offer.TheVariants as offer
use Rattle.mpb_spec.specs.declared.agent.Op.{Op}
use Rattle.mpb_spec.specs.State.{Device, boot_is_through, all_ended}
use Rattle.mpb_spec.specs.Steps.{op_of_device, op_of_place, unless_early}
use Rattle.mpb_spec.specs.May.{IsQuiescent}
use Rattle.mpb_spec.specs.Journal.{IsComplete}
use Rattle.mpb_start_laws.proofs.BootStays.{through}
use Rattle.mpb_spec.specs.declared.pulse.Pulse.{Pulse}
use Rattle.mpb_spec.specs.declared.pulse.Hit.{Hit}
use Rattle.mpb_spec.specs.declared.pulse.Hit.TheVariants.{New}
use Rattle.mpb_spec.specs.Pulses.{pulses_of, new_hits, first_hit, hits, starts, pulses_in}
use Rattle.mpb_spec.specs.PlainLatch.{pins_at}
use Rattle.mpb_spec.proofs.Logs.{first_hits, first_new, starts_le}
use Rattle.mpb_spec.proofs.Lists.{sum_above, any_above}
use Rattle.mpb_robin.specs.Account.{AccountsForPulses, collected_count}
use Rattle.mpb_robin.specs.RoundRobin.{Run, state_in}
use Rattle.mpb_robin.specs.Rest.{IsRun, is_over}
use Rattle.mpb_robin.proofs.DeviceActs.{over_is_done, done_has_all}
use Rattle.mpb_robin.proofs.Collects.{place_at, device_at}
use Rattle.mpb_robin.proofs.Stuck.{all_from, none_beyond, swept}

pub complete : (r : Run) → IsRun r → IsQuiescent (state_in r) → IsComplete r.plan r.journal
complete r is quiet = record { legal = is.legal; quiescent = quiet }

pub through_at : (r : Run) → IsRun r → IsQuiescent (state_in r) → boot_is_through (state_in r) ≡ true
through_at r is quiet = through r.plan r.journal is.config (complete r is quiet)

-- ---- devices

none-early : (t : Bool) (o : Option Op) → t ≡ true → unless_early t o ≡ None → o ≡ None
none-early t None through e = refl
none-early false o through e = cc
none-early true (Some Rattle.mpb_spec.specs.declared.agent.Op.TheVariants.Begin) through e = cc
none-early true (Some o) through e = cc

-- each device is at its end
over-at : (r : Run) (d : ℕ) (v : Device) → IsRun r → IsQuiescent (state_in r) → slice_get (state_in r).devices d ≡ Some v → length v.program ≤ v.position
over-at r d v is quiet at =
    let idle : unless_early (boot_is_through (state_in r)) (slice_get v.program v.position) ≡ None = ap (λ q. op_of_device (boot_is_through (state_in r)) q) (sym at) ∙ quiet (Dev d) offer.Next in
    none_beyond v.position v.program (none-early (boot_is_through (state_in r)) (slice_get v.program v.position) (through_at r is quiet) idle)

-- and has made all its pulses
has-all : (r : Run) (d : ℕ) → IsRun r → IsQuiescent (state_in r) → d < length r.plan.devices → pulses_of (get_or r.logs d []) ≡ pulses_in (get_or r.plan.devices d [])
has-all r d is quiet lt =
    let v = device_at r d lt in
    let one = is.each d v.0 v.1 in
    let all = over_is_done (get_or r.plan.devices d []) (get_or r.made d 0) (get_or r.logs d []) v.0 one (over-at r d v.0 is quiet v.1) in
    done_has_all (get_or r.plan.devices d []) (get_or r.made d 0) (get_or r.logs d []) v.0 one all

same-maps : {X Y Z : Type 0} (f : X → Z) (g : Y → Z) (xs : List X) (ys : List Y) (d : X) (e : Y) → length xs ≡ length ys → ((k : ℕ) → k < length xs → f (get_or xs k d) ≡ g (get_or ys k e)) → map f xs ≡ map g ys
same-maps f g [] [] d e same each = refl
same-maps f g [] (y ∷ ys) d e same each = absurd (omega (arith, same))
same-maps f g (x ∷ xs) [] d e same each = absurd (omega (arith, same))
same-maps {Z = Z} f g (x ∷ xs) (y ∷ ys) d e same each =
    ap₂ (λ (z : Z) (zs : List Z). z ∷ zs) (each 0 (omega arith)) (same-maps f g xs ys d e (omega (arith, same)) (λ k lt. each (suc k) (omega (arith, lt))))

-- ---- I/O APICs

all-over : (r : Run) → IsRun r → IsQuiescent (state_in r) → all_ended (state_in r) ≡ true
all-over r is quiet = all_from is_over (state_in r).devices (λ d v at. le-leb (length v.program) v.position (over-at r d v is quiet at))

-- each has swept, and has nothing latched
nothing-latched : (r : Run) (a : ℕ) → IsRun r → IsQuiescent (state_in r) → a < length r.plan.ios → pins_at a r.latch ≡ 0
nothing-latched r a is quiet lt =
    let p = place_at r a lt in
    let idle : op_of_place (boot_is_through (state_in r)) (all_ended (state_in r)) offer.Sweep (Some p.0) ≡ None =
    ap (λ q. op_of_place (boot_is_through (state_in r)) (all_ended (state_in r)) offer.Sweep q) (sym p.1) ∙ quiet (Io a) offer.Sweep in
    (is.swept a p.0 p.1 (swept (boot_is_through (state_in r)) (all_ended (state_in r)) p.0 (all-over r is quiet) idle)).1

collected-all : (r : Run) (a pin : ℕ) → IsRun r → IsQuiescent (state_in r) → a < length r.plan.ios → pin < 24 → new_hits a pin r.logs ≡ collected_count a pin r.journal
collected-all r a pin is quiet lt low =
    let none : bit_at (pins_at a r.latch) pin ≡ 0 = ap (λ n. bit_at n pin) (nothing-latched r a is quiet lt) ∙ bit_at-zero pin in
    omega (arith, is.balance a pin lt low, none)

-- ---- first hits

any-map : {X : Type 0} (P Q : X → Type 0) (xs : List X) → ((x : X) → P x → Q x) → Any P xs → Any Q xs
any-map P Q xs f any = (any.0, any.1, any.2, any.3, f any.1 any.4)

first-new : (r : Run) (a pin : ℕ) → IsRun r → Any (λ log. IsSome (first_hit a pin log)) r.logs → Any (λ log. first_hit a pin log ≡ Some New) r.logs
first-new r a pin is some =
    let hit = sum_above (hits a pin) r.logs (any-map (λ (log : List (Pulse × Hit)). IsSome (first_hit a pin log)) (λ (log : List (Pulse × Hit)). 0 < hits a pin log) r.logs (first_hits a pin) some) in
    any-map (λ (log : List (Pulse × Hit)). 0 < starts a pin log) (λ (log : List (Pulse × Hit)). first_hit a pin log ≡ Some New) r.logs
    (λ log more. first_new a pin log (omega (arith, more, starts_le a pin log))) (any_above (starts a pin) r.logs (is.first a pin hit))

pub accounts : (r : Run) → IsRun r → IsQuiescent (state_in r) → AccountsForPulses r.plan r.journal r.logs
accounts r is quiet = record {
  pulses = same-maps pulses_of pulses_in r.logs r.plan.devices [] [] is.logs (λ d lt. has-all r d is quiet (omega (arith, lt, is.logs)));
  collections = λ a pin lt low. collected-all r a pin is quiet lt low;
  first = λ a pin some. first-new r a pin is some;
}
