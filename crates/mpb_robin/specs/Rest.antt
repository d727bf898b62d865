-- What holds of a run between any two turns of the round robin. Only laws and private functions cite this.
--     IsRun r        what holds of it
--     IsAgentOf c g  the agent is one of the board
--     done_in r      how much is done
use Rattle.std.specs.Prelude.{◌≡◌, ◌≢◌, ◌≤◌, ◌<◌, ◌^◌, ℕ, ◌+◌, Bool, true, List, [], Option, None, Some, nat_le, take, filter_map, length, count_by, sum_by, slice_get, slice_index, slice_index_or}
use Rattle.std.specs.Int.{bit_at}
use Rattle.mpb_spec.specs.declared.agent.Agent.{Agent}
use Rattle.mpb_spec.specs.declared.agent.Agent.TheVariants.{Cpu, Io, Dev}
use Rattle.mpb_spec.specs.declared.agent.Op.{Op}
use Rattle.mpb_spec.specs.declared.agent.Op.TheVariants as op
use Rattle.mpb_robin.specs.declared.act.Act.{Act}
use Rattle.mpb_robin.specs.declared.act.Act.TheVariants as act
use Rattle.mpb_spec.specs.State.{Device, Place, BoardState, boot_is_through}
use Rattle.mpb_spec.specs.Plan.{Plan, op_of_word, plan_size}
use Rattle.mpb_spec.specs.Configs.{IsConfig}
use Rattle.mpb_spec.specs.Journal.{IsLegal}
use Rattle.mpb_spec.specs.declared.pulse.Pulse.{Pulse}
use Rattle.mpb_spec.specs.declared.pulse.Hit.{Hit}
use Rattle.mpb_spec.specs.Pulses.{pulses_of, new_hits, hits, starts, pulse_of}
use Rattle.mpb_spec.specs.PlainLatch.{pins_at}
use Rattle.mpb_robin.specs.Account.{collected_count}
use Rattle.mpb_robin.specs.RoundRobin.{Run, state_in, acts_of}

-- the op of an act, and its pulse
abbrev pub op_of_act : Act → Option Op
op_of_act act.Begin = Some op.Begin
op_of_act (act.Word w) = op_of_word w
op_of_act act.End = Some op.End

abbrev pub pulse_of_act : Act → Option Pulse
pulse_of_act act.Begin = None
pulse_of_act (act.Word w) = pulse_of w
pulse_of_act act.End = None

-- a device that has done n of these acts, and its log
pub record IsDeviceRun (acts : List Act) (n : ℕ) (log : List (Pulse × Hit)) (v : Device) : Type 0 where
  pub program : v.program ≡ filter_map op_of_act acts
  pub within : n ≤ length acts
  pub position : v.position ≡ length (filter_map op_of_act (take n acts))
  pub pulses : pulses_of log ≡ filter_map pulse_of_act (take n acts)

-- the device is at its end
abbrev pub is_over : Device → Bool
is_over v = nat_le (length v.program) v.position

-- the agent is one of the board
abbrev pub IsAgentOf : Plan → Agent → Type 0
IsAgentOf c (Cpu id) = Unit {0}
IsAgentOf c (Io a) = a < length c.ios
IsAgentOf c (Dev d) = d < length c.devices

-- how much is done: the entries, and the pulses
abbrev pub done_in : Run → ℕ
done_in r = length r.journal + sum_by length r.logs

-- what holds of a run whose journal leaves the state s
pub record IsRunAt (r : Run) (s : BoardState) : Type 0 where
  pub config : IsConfig r.plan
  pub small : plan_size r.plan < 2 ^ 32
  pub legal : IsLegal r.plan r.journal
  -- what is kept is kept for each I/O APIC and each device
  pub words : length r.latch.pins ≡ length r.plan.ios
  pub counts : length r.counts ≡ length r.plan.ios
  pub made : length r.made ≡ length r.plan.devices
  pub logs : length r.logs ≡ length r.plan.devices
  pub total : r.latch.devices ≡ length r.plan.devices
  -- the latch has so many ends as devices are at theirs
  pub ended : r.latch.ended ≡ count_by is_over s.devices
  pub each : (d : ℕ) (v : Device) → slice_get s.devices d ≡ Some v → IsDeviceRun (acts_of (slice_index_or r.plan.devices d [])) (slice_index r.made d) (slice_index_or r.logs d []) v
  -- a device has begun only where the boot program is through, and only then are pins latched
  pub begun : (d : ℕ) (v : Device) → slice_get s.devices d ≡ Some v → v.position ≢ 0 → boot_is_through s ≡ true
  pub latched : (a : ℕ) → pins_at a r.latch ≢ 0 → boot_is_through s ≡ true
  pub narrow : (a : ℕ) → pins_at a r.latch < 2 ^ 24
  -- an I/O APIC sweeps when all devices have ended and nothing is latched
  pub swept : (a : ℕ) (p : Place) → slice_get s.places a ≡ Some p → p.swept ≡ true → (r.latch.ended ≡ r.latch.devices) × (pins_at a r.latch ≡ 0)
  -- New hits are collected or still latched; each count is that of the journal
  pub balance : (a pin : ℕ) → a < length r.plan.ios → pin < 24 → new_hits a pin r.logs ≡ collected_count a pin r.journal + bit_at (pins_at a r.latch) pin
  pub counted : (a pin : ℕ) → a < length r.plan.ios → pin < 24 → slice_index (slice_index_or r.counts a []) pin ≡ collected_count a pin r.journal
  pub wide : (a : ℕ) → a < length r.plan.ios → length (slice_index_or r.counts a []) ≡ 24
  -- where a pin has a hit, some log's first hit on it is New
  pub first : (a pin : ℕ) → 0 < sum_by (hits a pin) r.logs → 0 < sum_by (starts a pin) r.logs

-- what holds of a run
abbrev pub IsRun : Run → Type 0
IsRun r = IsRunAt r (state_in r)
