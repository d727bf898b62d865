-- The values of a script's words.
--     IsCpuWord op        an operation that a processor's word may say, with its numbers in range
--     IsDeviceWord word   likewise of a device's word
use Rattle.std.specs.Prelude.{◌≡◌, ◌⊎◌, ◌<◌, ◌≤◌, ◌^◌, ⊤}
use Rattle.mpb_spec.specs.declared.agent.Op.{Op}
use Rattle.mpb_spec.specs.declared.agent.Op.TheVariants as op
use Rattle.mpb_spec.specs.declared.config.DevWord.{DevWord}
use Rattle.mpb_spec.specs.declared.config.DevWord.TheVariants as dev

-- an operation that a processor's word may say: places below 4, bytes below 256, a model of 0 or 15, at most a second of pause
abbrev pub IsCpuWord : Op → Type 0
IsCpuWord (op.Ipi d v) = (d < 256) × (v < 256)
IsCpuWord (op.Ipl d v) = (d < 256) × (v < 256)
IsCpuWord (op.Nmi d) = d < 256
IsCpuWord op.Take = ⊤
IsCpuWord op.Poll = ⊤
IsCpuWord op.Eoi = ⊤
IsCpuWord (op.Tpr n) = n < 256
IsCpuWord (op.Ldr n) = n < 256
IsCpuWord (op.Dfr n) = (n ≡ 0) ⊎ (n ≡ 15)
IsCpuWord (op.IoSel a r) = (a < 4) × (r < 256)
IsCpuWord (op.IoWin a v) = (a < 4) × (v < 2 ^ 32)
IsCpuWord (op.IoRead a) = a < 4
IsCpuWord (op.Pause us) = us ≤ 1000000
IsCpuWord _ = ⊥

-- what a device's word may say: a place below 4 and a pin below 24
abbrev pub IsDeviceWord : DevWord → Type 0
IsDeviceWord (dev.Pulse a pin) = (a < 4) × (pin < 24)
IsDeviceWord (dev.High a pin) = (a < 4) × (pin < 24)
IsDeviceWord (dev.Low a pin) = (a < 4) × (pin < 24)
