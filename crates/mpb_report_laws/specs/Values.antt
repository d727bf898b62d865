-- The numbers that the ops of a plan can have: bytes, and values and times of 32 bits.
--     IsOpValue o      the numbers of an op
--     HasOpValues c    those of every program
use Rattle.std.specs.Prelude.{◌^◌, ◌<◌, ⊤}
use Rattle.std.specs.List.{AllByRecursion}
use Rattle.mpb_spec.specs.declared.agent.Op.{Op}
use Rattle.mpb_spec.specs.declared.agent.Op.TheVariants as op
use Rattle.mpb_spec.specs.Plan.{Plan}

-- the numbers of an op fit their types
abbrev pub IsOpValue : Op → Type 0
IsOpValue (op.Warm page) = page < 256
IsOpValue (op.Init d) = d < 256
IsOpValue (op.Startup d page) = (d < 256) × (page < 256)
IsOpValue (op.Check d) = d < 256
IsOpValue (op.Ipi d v) = (d < 256) × (v < 256)
IsOpValue (op.Ipl d v) = (d < 256) × (v < 256)
IsOpValue (op.Nmi d) = d < 256
IsOpValue (op.Tpr n) = n < 256
IsOpValue (op.Ldr n) = n < 256
IsOpValue (op.Dfr n) = n < 256
IsOpValue (op.IoSel a r) = (a < 256) × (r < 256)
IsOpValue (op.IoWin a v) = (a < 256) × (v < 2 ^ 32)
IsOpValue (op.IoRead a) = a < 256
IsOpValue (op.Pause t) = t < 2 ^ 32
IsOpValue (op.High a pin) = (a < 256) × (pin < 256)
IsOpValue (op.Low a pin) = (a < 256) × (pin < 256)
IsOpValue (op.Collect pins) = pins < 2 ^ 32
IsOpValue (op.Send pin) = pin < 256
IsOpValue o = ⊤

-- all ops of all processors have such numbers
abbrev pub HasOpValues : Plan → Type 0
HasOpValues c = AllByRecursion (λ p. AllByRecursion IsOpValue p.program) c.cpus
