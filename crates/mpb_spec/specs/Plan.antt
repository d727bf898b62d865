-- What a config says: its lists, without the memory that holds them. Two configs of one plan are one board.
--     Plan                       the fields of a config
--     device_program words       a device's program
--     plan_size c                the ops and pulses in all
--     initial_state_of c         the opening state of the board
use Rattle.std.specs.Prelude.{◌==◌, ℕ, ◌+◌, Bool, false, List, [], ◌∷◌, ◌++◌, Option, None, Some, map, filter_map, sum_by, length, if◌then◌else◌}
use Rattle.std.specs.List.{range_with_len}
use Rattle.mpb_spec.specs.declared.agent.Op.{Op}
use Rattle.mpb_spec.specs.declared.agent.Op.TheVariants as op
use Rattle.mpb_spec.specs.declared.config.DevWord.{DevWord}
use Rattle.mpb_spec.specs.declared.config.DevWord.TheVariants.{Pulse, High, Low}
use Rattle.mpb_spec.specs.declared.config.Imcr.TheVariants as imcr
use Rattle.mpb_spec.specs.declared.config.Life.TheVariants.{Asleep, First}
use Rattle.mpb_spec.specs.LocalApic.{reset}
use Rattle.mpb_spec.specs.IoApic.{reset_chip}
use Rattle.mpb_spec.specs.Pulses.{planned, pulses_in}
use Rattle.mpb_spec.specs.State.{Processor, Place, Device, BoardState}

-- a processor: its local APIC's id and version, and its program
pub record CpuPlan : Type 0 where
  pub id : ℕ
  pub version : ℕ
  pub program : List Op

-- the board: the boot processor's id, the length of the boot program, the ids of the I/O APICs by place, whether it has an
-- interrupt mode register, and the words of each device
pub record Plan : Type 0 where
  pub boot : ℕ
  pub boot_len : ℕ
  pub cpus : List CpuPlan
  pub ios : List ℕ
  pub imcr : Bool
  pub devices : List (List DevWord)

-- a high or a low word is an op, a pulse is none
abbrev pub op_of_word : DevWord → Option Op
op_of_word (Pulse a pin) = None
op_of_word (High a pin) = Some (op.High a pin)
op_of_word (Low a pin) = Some (op.Low a pin)

-- a device's program: Begin, its high and low words in order, End
abbrev pub device_program : List DevWord → List Op
device_program words = op.Begin ∷ (filter_map op_of_word words ++ op.End ∷ [])

-- the ops of all programs and the pulses: a device has its words, Begin and End
abbrev pub plan_size : Plan → ℕ
plan_size c = sum_by (λ p. length p.program) c.cpus + sum_by (λ words. length words + 2) c.devices

-- a processor at first: the boot processor runs, the others are asleep
abbrev pub first_processor : ℕ → CpuPlan → Processor
first_processor boot p = record { id = p.id; version = p.version; program = p.program; position = 0; life = if p.id == boot then First else Asleep; apic = reset }

-- an I/O APIC at first: each planned pulse is to be collected
abbrev pub first_place : List (List DevWord) → ℕ → ℕ → Place
first_place devices a id = record { chip = reset_chip id; swept = false; left = map (λ pin. planned a pin (map pulses_in devices)) (range_with_len 0 24) }

-- a device at first
abbrev pub first_device : List DevWord → Device
first_device words = record { program = device_program words; position = 0 }

-- the places from the a-th on
abbrev pub first_places : List (List DevWord) → ℕ → List ℕ → List Place
first_places devices a [] = []
first_places devices a (id ∷ ids) = first_place devices a id ∷ first_places devices (a + 1) ids

-- the opening state: PIC mode where there is an interrupt mode register, and no warm-reset vector
abbrev pub initial_state_of : Plan → BoardState
initial_state_of c = record {
  processors = map (first_processor c.boot) c.cpus;
  places = first_places c.devices 0 c.ios;
  devices = map first_device c.devices;
  imcr = if c.imcr then imcr.Pic else imcr.Absent;
  warm = None;
  boot = c.boot;
  boot_len = c.boot_len;
}
