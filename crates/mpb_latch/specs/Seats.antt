-- What a shared latch and its seats show to their callers: this project's own.
use Rattle.std.specs.Prelude.{ℕ, Bool, false, List, [], replicate}
use Rattle.atomic_table.specs.Seated.{TableId}
use Rattle.mpb_spec.specs.declared.pulse.Pulse.{Pulse}
use Rattle.mpb_spec.specs.declared.pulse.Hit.{Hit}

-- a latch: which one it is, how many I/O APICs it has, and the plan of each device
pub record SharedLatch : Type 0 where
  pub latch : TableId
  pub ios : ℕ
  pub plans : List (List Pulse)

-- a device's seat: of which latch, the plan, the pulses made so far with their answers, and whether the device has ended
pub record DeviceSeat : Type 0 where
  pub latch : TableId
  pub plan : List Pulse
  pub log : List (Pulse × Hit)
  pub ended : Bool

-- a collector's seat: of which latch, the place of the I/O APIC, the plans of all devices, how often each pin was collected, how often it collected and looked, whether the last look found that all devices had ended, and whether a collection after such a look took nothing
pub record CollectorSeat : Type 0 where
  pub latch : TableId
  pub io : ℕ
  pub plans : List (List Pulse)
  pub counts : List ℕ
  pub swaps : ℕ
  pub looks : ℕ
  pub full : Bool
  pub dry : Bool

-- a device that has done nothing yet
abbrev pub fresh_device_seat : TableId → List Pulse → DeviceSeat
fresh_device_seat latch plan = record { latch = latch; plan = plan; log = []; ended = false }

-- a collector that has done nothing yet
abbrev pub fresh_collector_seat : TableId → List (List Pulse) → ℕ → CollectorSeat
fresh_collector_seat latch plans io = record { latch = latch; io = io; plans = plans; counts = replicate 24 0; swaps = 0; looks = 0; full = false; dry = false }
