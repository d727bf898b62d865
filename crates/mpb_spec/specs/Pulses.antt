-- Pulses on pins of the I/O APICs, and the logs that have them with their answers: this project's own.
--
--     IsInRange            a pulse is on a pin that there is
--     is_on                a pulse is on this pin
--     pulses_in            the pulses of a device, in order
--     planned              how many pulses on a pin the plans have
--     pulses_of            the pulses of a log, in order
--     FollowsPlan          a log has the first pulses of a plan
--     hit_of               the answer to a pulse, by the pin's bit before it
--     new_hits             how many hits on a pin are New in all logs
--     hits, starts         how many hits on a pin a log has, and 1 where the first of them is New
--     first_hit            the answer to the first pulse on a pin in a log
--     logs_of, counts_of   the two parts of an account as lists
--     HasCountsFor         an account has 24 counts for each I/O APIC
--     with_pins            the counts of the pins after a collection
--
-- A set of pins is a number: pin n is in it where bit n is 1.
use Rattle.std.specs.Prelude.{◌≡◌, ℕ, zero, suc, ◌+◌, ◌<◌, ◌&&◌, ◌==◌, Bool, true, false, List, [], ◌∷◌, Option, None, Some, map, filter_map, take, length, All, sum_by, count_by, find, if◌then◌else◌}
use Rattle.std.specs.Option.{option_map}
use Rattle.std.specs.Int.{bit_at}
use Rattle.mpb_spec.specs.declared.account.Account.{Account}
use Rattle.mpb_spec.specs.declared.config.DevWord.{DevWord}
use Rattle.mpb_spec.specs.declared.config.DevWord.TheVariants as word
use Rattle.mpb_spec.specs.declared.pulse.Pulse.{Pulse}
use Rattle.mpb_spec.specs.declared.pulse.Hit.{Hit}
use Rattle.mpb_spec.specs.declared.pulse.Hit.TheVariants.{New, Merged}
use Rattle.mpb_spec.specs.Lists.{one_if}

-- the pulse is on a pin of one of so many I/O APICs
abbrev pub IsInRange : ℕ → Pulse → Type 0
IsInRange ios p = (p.io < ios) × (p.pin < 24)

-- the pulse is on this pin of this I/O APIC
abbrev pub is_on : ℕ → ℕ → Pulse → Bool
is_on io pin p = (p.io == io) && (p.pin == pin)

-- a pulse word is a pulse
abbrev pub pulse_of : DevWord → Option Pulse
pulse_of (word.Pulse a pin) = Some (record { io = a; pin = pin })
pulse_of w = None

-- the pulses of a device, in order: its plan on the latch
abbrev pub pulses_in : List DevWord → List Pulse
pulses_in words = filter_map pulse_of words

-- how many pulses of a plan are on the pin
abbrev pub planned_in : ℕ → ℕ → List Pulse → ℕ
planned_in io pin plan = count_by (is_on io pin) plan

-- how many pulses of all plans are on the pin
abbrev pub planned : ℕ → ℕ → List (List Pulse) → ℕ
planned io pin plans = sum_by (planned_in io pin) plans

-- the pulses of a log, in order
abbrev pub pulses_of : List (Pulse × Hit) → List Pulse
pulses_of log = map (λ x. x.0) log

-- the log has the first pulses of the plan, as many as it has
abbrev pub FollowsPlan : List (Pulse × Hit) → List Pulse → Type 0
FollowsPlan log plan = pulses_of log ≡ take (length log) plan

-- a pulse is New where the pin's bit was 0 before it
abbrev pub hit_of : ℕ → Hit
hit_of zero = New
hit_of (suc n) = Merged

abbrev pub is_new : Hit → Bool
is_new New = true
is_new Merged = false

-- how many hits on the pin are New in a log
abbrev pub new_hits_in : ℕ → ℕ → List (Pulse × Hit) → ℕ
new_hits_in io pin log = count_by (λ x. is_on io pin x.0 && is_new x.1) log

-- how many hits on the pin are New in all logs
abbrev pub new_hits : ℕ → ℕ → List (List (Pulse × Hit)) → ℕ
new_hits io pin logs = sum_by (new_hits_in io pin) logs

-- how many hits on the pin a log has
abbrev pub hits : ℕ → ℕ → List (Pulse × Hit) → ℕ
hits io pin log = count_by (λ x. is_on io pin x.0) log

-- 1 where the log's first hit on the pin is New
abbrev pub starts : ℕ → ℕ → List (Pulse × Hit) → ℕ
starts io pin [] = 0
starts io pin (x ∷ xs) = if is_on io pin x.0 then one_if (is_new x.1) else starts io pin xs

-- the answer to the first pulse on the pin, where the log has one
abbrev pub first_hit : ℕ → ℕ → List (Pulse × Hit) → Option Hit
first_hit io pin log = option_map (λ x. x.1) (find (λ x. is_on io pin x.0) log)

-- the devices' logs
abbrev pub logs_of : Account → List (List (Pulse × Hit))
logs_of account = map (λ log. log.items) account.logs.items

-- the counts of each I/O APIC's pins
abbrev pub counts_of : Account → List (List ℕ)
counts_of account = map (λ counts. counts.items) account.collected.items

-- 24 counts for each of so many I/O APICs
abbrev pub HasCountsFor : ℕ → Account → Type 0
HasCountsFor ios account = (length account.collected.items ≡ ios) × All (λ counts. length counts.items ≡ 24) account.collected.items

-- the counts from pin n on, each with the bit of its pin added
abbrev pub with_pins_from : ℕ → ℕ → List ℕ → List ℕ
with_pins_from pins n [] = []
with_pins_from pins n (c ∷ cs) = (c + bit_at pins n) ∷ with_pins_from pins (suc n) cs

-- the counts of the pins after these were collected once more
abbrev pub with_pins : ℕ → List ℕ → List ℕ
with_pins pins counts = with_pins_from pins 0 counts
