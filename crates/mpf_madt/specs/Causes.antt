-- Why a platform has no MADT. Want of memory has no cause here.
use Rattle.std.specs.Prelude.{◌≡◌, ◌<◌, length, ⊤}
use Rattle.mpt_route.specs.declared.platform.Platform.{Platform}
use Rattle.mpf_madt.specs.declared.translation.TranslateFault.{TranslateFault}
use Rattle.mpf_madt.specs.declared.translation.TranslateFault.TheVariants as fault

-- too many processors: there are more than 255, and the number is theirs
abbrev pub IsTranslateCause : Platform → TranslateFault → Type 0
IsTranslateCause p (fault.ManyProcessors n) = (255 < length p.processors) × (n ≡ length p.processors)
IsTranslateCause p fault.NoMemory = ⊤
