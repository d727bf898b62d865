-- How long a journal can get (this project's own). Each entry spends of what a state has to spend, its cost, and the room is
-- the cost of the opening state.
--     room c      the bound on every journal of the plan
--     cost n s    what a state has to spend, where n pins are there in all
use Rattle.std.specs.Prelude.{ℕ, suc, ◌+◌, ◌*◌, Bool, true, false, List, sum, sum_by, count_by, length, drop, if◌then◌else◌}
use Rattle.mpb_spec.specs.declared.agent.Op.{Op}
use Rattle.mpb_spec.specs.declared.agent.Op.TheVariants.{IoWin, High, Eoi}
use Rattle.mpb_spec.specs.declared.config.DevWord.{DevWord}
use Rattle.mpb_spec.specs.declared.config.DevWord.TheVariants as word
use Rattle.mpb_spec.specs.Plan.{Plan, device_program}
use Rattle.mpb_spec.specs.State.{Processor, Place, Device, BoardState}

-- the sends that an op can make due, where n pins are there in all
abbrev pub sends_by : ℕ → Op → ℕ
sends_by n (IoWin a v) = 1
sends_by n (High a pin) = 1
sends_by n Eoi = n
sends_by n o = 0

-- an entry for each op that is left, and for each send that it can make due
abbrev pub program_cost : ℕ → List Op → ℕ
program_cost n ops = sum_by (λ o. suc (sends_by n o)) ops

-- of what is left of a processor's program
abbrev pub processor_cost : ℕ → Processor → ℕ
processor_cost n p = program_cost n (drop p.position p.program)

-- of what is left of a device's program
abbrev pub device_cost : ℕ → Device → ℕ
device_cost n d = program_cost n (drop d.position d.program)

-- the pins that are due
abbrev pub due_pins : Place → ℕ
due_pins p = count_by (λ q. q.due) p.chip.pins

-- a send for each pin that is due, a collection and a send for each pulse that is left, and a sweep
abbrev pub place_cost : Place → ℕ
place_cost p = due_pins p + 2 * sum p.left + (if p.swept then 0 else 1)

-- the pins of all I/O APICs
abbrev pub pins_in : List Place → ℕ
pins_in places = sum_by (λ p. length p.chip.pins) places

-- what the state has to spend
abbrev pub cost : ℕ → BoardState → ℕ
cost n s = sum_by (processor_cost n) s.processors + sum_by (device_cost n) s.devices + sum_by place_cost s.places

-- the ops of all programs; of devices their Begin and End too, and not the pulses
abbrev pub ops_in : Plan → ℕ
ops_in c = sum_by (λ p. length p.program) c.cpus + sum_by (λ words. length (device_program words)) c.devices

-- the word is a pulse
abbrev pub is_pulse : DevWord → Bool
is_pulse (word.Pulse a pin) = true
is_pulse w = false

-- the word asserts a line
abbrev pub is_high : DevWord → Bool
is_high (word.High a pin) = true
is_high w = false

-- the op writes a register
abbrev pub is_write : Op → Bool
is_write (IoWin a v) = true
is_write o = false

-- the op ends an interrupt
abbrev pub is_eoi : Op → Bool
is_eoi Eoi = true
is_eoi o = false

-- how many words of all devices pass a test
abbrev pub words_by : (DevWord → Bool) → Plan → ℕ
words_by f c = sum_by (λ words. count_by f words) c.devices

-- how many ops of all processors pass a test
abbrev pub ops_by : (Op → Bool) → Plan → ℕ
ops_by f c = sum_by (λ p. count_by f p.program) c.cpus

-- the bound on every journal: an entry for each op, a collection and a send for each pulse, a send for each high word and each
-- write, for each end of interrupt one for each pin, and a sweep for each I/O APIC
abbrev pub room : Plan → ℕ
room c = ops_in c + 2 * words_by is_pulse c + words_by is_high c + ops_by is_write c + 24 * length c.ios * ops_by is_eoi c + length c.ios
