-- The rule of the shared latch, which only this crate's private functions cite: this project's own.
-- Word 0 counts the devices that have ended, and word i + 1 is the set of the latched pins of the I/O APIC at place i.
use Rattle.std.specs.Prelude.{◌≡◌, ℕ, ◌+◌, ◌<◌, ◌≤◌, ◌^◌, ◌&&◌, ◌||◌, ◌==◌, ◌⊎◌, if◌then◌else◌, Bool, true, false, List, [], ◌∷◌, ◌++◌, map, length, replicate, slice_index, slice_index_or, All, sum_by}
use Rattle.std.specs.List.{range_with_len}
use Rattle.std.specs.Int.{bit_at}
use mathlib.Core.Option.{some}
use lib.ListN.{get_elem?}
use Rattle.atomic_table.specs.Seated.{TableId}
use Rattle.atomic_table.specs.Table.{State, Me, Step}
use Rattle.mpb_spec.specs.declared.pulse.Pulse.{Pulse}
use Rattle.mpb_latch.specs.declared.view.DeviceView.{DeviceView}
use Rattle.mpb_latch.specs.declared.view.CollectorView.{CollectorView}
use Rattle.mpb_latch.specs.declared.view.SeatView.{SeatView}
use Rattle.mpb_spec.specs.Lists.{one_if, rest_of, first_of_list}
use Rattle.mpb_spec.specs.Pulses.{planned_in, new_hits_in, FollowsPlan, hit_of, with_pins_from, hits, starts}
use Rattle.mpb_latch.specs.Seats.{DeviceSeat, CollectorSeat}

abbrev pub Plans : Type 0
Plans = List (List Pulse)

-- what stands where a list has no such place
abbrev pub no_pulse : Pulse
no_pulse = record { io = 0; pin = 0 }

abbrev pub no_device : DeviceView
no_device = record { plan = []; log = []; ended = false }

abbrev pub no_collector : CollectorView
no_collector = record { io = 0; plans = []; counts = []; swaps = 0; looks = 0; full = false; dry = false }

-- the views of one device, of one collector, and of none
abbrev pub device : DeviceView → SeatView
device d = record { devices = d ∷ []; collectors = [] }

abbrev pub collector : CollectorView → SeatView
collector c = record { devices = []; collectors = c ∷ [] }

abbrev pub nobody : SeatView
nobody = record { devices = []; collectors = [] }

-- the first device and the first collector of a view
abbrev pub device_of : SeatView → DeviceView
device_of v = slice_index_or v.devices 0 no_device

abbrev pub collector_of : SeatView → CollectorView
collector_of v = slice_index_or v.collectors 0 no_collector

-- what the seats show of them
abbrev pub shown_device : TableId → DeviceView → DeviceSeat
shown_device latch d = record { latch = latch; plan = d.plan; log = d.log; ended = d.ended }

abbrev pub shown_collector : TableId → CollectorView → CollectorSeat
shown_collector latch c = record { latch = latch; io = c.io; plans = c.plans; counts = c.counts; swaps = c.swaps; looks = c.looks; full = c.full; dry = c.dry }

-- what is known of them, by what the seats show
abbrev pub known_device : DeviceSeat → DeviceView
known_device s = record { plan = s.plan; log = s.log; ended = s.ended }

abbrev pub known_collector : CollectorSeat → CollectorView
known_collector s = record { io = s.io; plans = s.plans; counts = s.counts; swaps = s.swaps; looks = s.looks; full = s.full; dry = s.dry }

-- the next pulse of the plan
abbrev pub next_of : DeviceView → Pulse
next_of d = slice_index_or d.plan (length d.log) no_pulse

-- the views after each step, which found n in its word
abbrev pub after_pulse : ℕ → DeviceView → DeviceView
after_pulse n d = record { plan = d.plan; log = d.log ++ (next_of d, hit_of (bit_at n (next_of d).pin)) ∷ []; ended = d.ended }

abbrev pub after_end : DeviceView → DeviceView
after_end d = record { plan = d.plan; log = d.log; ended = true }

abbrev pub after_collect : ℕ → CollectorView → CollectorView
after_collect n c = record { io = c.io; plans = c.plans; counts = with_pins_from n 0 c.counts; swaps = c.swaps + 1; looks = c.looks; full = c.full; dry = c.dry || (c.full && (n == 0)) }

abbrev pub after_look : Bool → CollectorView → CollectorView
after_look b c = record { io = c.io; plans = c.plans; counts = c.counts; swaps = c.swaps; looks = c.looks + 1; full = b; dry = c.dry }

-- a seat: its view, and the slots that it holds, of which there are none
abbrev Sat : Type 0
Sat = Me (Unit {0}) SeatView

-- what each step tells its caller: the view after it and, of a collection, that it found 24 bits, none where the collector was dry, and no more than the plans have
abbrev pub Pulses : Step (Unit {0}) → Sat → ℕ → Sat → Type 0
Pulses st m n m' = m' ≡ (device (after_pulse n (device_of m.0)), m.1)

abbrev pub Ends : Step (Unit {0}) → Sat → ℕ → Sat → Type 0
Ends st m n m' = m' ≡ (device (after_end (device_of m.0)), m.1)

abbrev pub Collects : Step (Unit {0}) → Sat → ℕ → Sat → Type 0
Collects st m n m' = (m' ≡ (collector (after_collect n (collector_of m.0)), m.1)) × (n < 2 ^ 24) × ((collector_of m.0).dry ≡ true → n ≡ 0)
    × ((pin : ℕ) → pin < 24 → slice_index (with_pins_from n 0 (collector_of m.0).counts) pin ≤ sum_by (planned_in (collector_of m.0).io pin) (collector_of m.0).plans)

abbrev pub Looks : Step (Unit {0}) → Sat → ℕ → Sat → Type 0
Looks st m n m' = m' ≡ (collector (after_look (n == length (collector_of m.0).plans) (collector_of m.0)), m.1)

-- the two parts of a view that is cut behind its first device, or behind its first collector
abbrev pub without_device : SeatView → SeatView
without_device v = record { devices = rest_of v.devices; collectors = v.collectors }

abbrev pub first_device : SeatView → SeatView
first_device v = record { devices = first_of_list v.devices; collectors = [] }

abbrev pub without_collector : SeatView → SeatView
without_collector v = record { devices = v.devices; collectors = rest_of v.collectors }

abbrev pub first_collector : SeatView → SeatView
first_collector v = record { devices = []; collectors = first_of_list v.collectors }

-- two views put together
abbrev pub together : SeatView → SeatView → SeatView
together v w = record { devices = v.devices ++ w.devices; collectors = v.collectors ++ w.collectors }

-- the first view, of all devices and of a collector for each I/O APIC
abbrev pub fresh_device : List Pulse → DeviceView
fresh_device plan = record { plan = plan; log = []; ended = false }

abbrev pub fresh_collector : Plans → ℕ → CollectorView
fresh_collector plans io = record { io = io; plans = plans; counts = replicate 24 0; swaps = 0; looks = 0; full = false; dry = false }

abbrev pub fresh_collectors : ℕ → Plans → List CollectorView
fresh_collectors ios plans = map (fresh_collector plans) (range_with_len 0 ios)

abbrev pub opening_view : ℕ → Plans → SeatView
opening_view ios plans = record { devices = map fresh_device plans; collectors = fresh_collectors ios plans }

-- something of each device, or of each collector, added up over all views
abbrev pub over_devices : (DeviceView → ℕ) → List SeatView → ℕ
over_devices f views = sum_by (λ v. sum_by f v.devices) views

abbrev pub over_collectors : (CollectorView → ℕ) → List SeatView → ℕ
over_collectors f views = sum_by (λ v. sum_by f v.collectors) views

-- how often the pin was collected, where the collector is that of this I/O APIC
abbrev pub count_at : ℕ → ℕ → CollectorView → ℕ
count_at io pin c = if c.io == io then slice_index c.counts pin else 0

-- the log has the first pulses of the plan, and all of them where the device has ended
abbrev pub DeviceFits : DeviceView → Type 0
DeviceFits d = FollowsPlan d.log d.plan × (d.ended ≡ true → length d.log ≡ length d.plan)

-- a collector knows the plans; where it is full all devices have ended, and where it is dry its word is 0 besides
abbrev pub CollectorFits : Plans → List ℕ → CollectorView → Type 0
CollectorFits plans words c = (c.plans ≡ plans) × (length c.counts ≡ 24) × (c.full ≡ true → slice_index words 0 ≡ length plans) × (c.dry ≡ true → (c.full ≡ true) × (slice_index words (c.io + 1) ≡ 0))

-- the rule: for each pin the New hits of all devices are what was collected and the pin's bit, and where a pin has a hit, some device's first hit on it is New
pub record IsBalanced (ios : ℕ) (plans : Plans) (s : State (Unit {0}) SeatView) : Type 0 where
  pub wide : length s.words ≡ ios + 1
  pub short : length plans < 2 ^ 64
  pub devices : over_devices (λ d. 1) s.views ≡ length plans
  pub collectors : over_collectors (λ c. 1) s.views ≡ ios
  pub ended : slice_index s.words 0 ≡ over_devices (λ d. one_if d.ended) s.views
  pub narrow : (io : ℕ) → io < ios → slice_index s.words (io + 1) < 2 ^ 24
  pub balance : (io pin : ℕ) → io < ios → pin < 24 → over_devices (λ d. new_hits_in io pin d.log) s.views ≡ over_collectors (count_at io pin) s.views + bit_at (slice_index s.words (io + 1)) pin
  pub planned_all : (io pin : ℕ) → over_devices (λ d. planned_in io pin d.plan) s.views ≡ sum_by (planned_in io pin) plans
  pub started : (io pin : ℕ) → 0 < over_devices (λ d. hits io pin d.log) s.views → 0 < over_devices (λ d. starts io pin d.log) s.views
  pub each_device : (id : ℕ) (v : SeatView) → get_elem? s.views id ≡ some v → All DeviceFits v.devices
  pub each_collector : (id : ℕ) (v : SeatView) → get_elem? s.views id ≡ some v → All (CollectorFits plans s.words) v.collectors

-- the New hits on a pin are as many as were collected, or one more; exactly as many where the collector is dry
abbrev pub Settles : ℕ → ℕ → Bool → Type 0
Settles found counted dry = ((found ≡ counted) ⊎ (found ≡ counted + 1)) × (dry ≡ true → found ≡ counted)

-- the same of the logs of all devices, and the counts and the dryness of the I/O APIC's collector
abbrev pub SettlesAt : ℕ → ℕ → List DeviceView → List CollectorView → Type 0
SettlesAt io pin devices collectors = Settles (sum_by (λ d. new_hits_in io pin d.log) devices) (slice_index (slice_index_or collectors io no_collector).counts pin) (slice_index_or collectors io no_collector).dry
