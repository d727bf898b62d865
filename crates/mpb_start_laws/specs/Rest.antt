-- What a board is where no agent may step (this project's own).
--     IsDone p          the processor is at the end of its program
--     AwaitsVector p    the processor is at a Take, with no vector to take
--     HasEnded d        the device is at the end of its program
--     IsSwept p         the I/O APIC has nothing more to collect or to send
--     IsAtRest s        each processor that runs is done or waits, each device has ended, each I/O APIC is swept
use Rattle.std.specs.Prelude.{◌≡◌, ◌⊎◌, length, None, Some, true}
use Rattle.std.specs.List.{Contains}
use Rattle.mpb_spec.specs.declared.agent.Op.TheVariants.{Take}
use Rattle.mpb_spec.specs.LocalApic.{next_vector}
use Rattle.mpb_spec.specs.IoApic.{next_due}
use Rattle.mpb_spec.specs.State.{Processor, Place, Device, BoardState, runs, op_at}

-- the processor is at the end of its program
abbrev pub IsDone : Processor → Type 0
IsDone p = p.position ≡ length p.program

-- the processor is at a Take, with no vector to take
pub record AwaitsVector (p : Processor) : Type 0 where
  pub take : op_at (Some p) ≡ Some Take
  pub nothing : next_vector p.apic ≡ None

-- the device is at the end of its program
abbrev pub HasEnded : Device → Type 0
HasEnded d = d.position ≡ length d.program

-- the I/O APIC has swept, and no pin of it is due
pub record IsSwept (p : Place) : Type 0 where
  pub swept : p.swept ≡ true
  pub nothing : next_due p.chip ≡ None

-- each processor that runs is done or awaits a vector, each device has ended, and each I/O APIC is swept
pub record IsAtRest (s : BoardState) : Type 0 where
  pub processors : (p : Processor) → Contains s.processors p → runs p.life ≡ true → IsDone p ⊎ AwaitsVector p
  pub devices : (d : Device) → Contains s.devices d → HasEnded d
  pub places : (p : Place) → Contains s.places p → IsSwept p
