use Rattle.std.proofs.Common.{refl}
use Rattle.mpb_core_laws.proofs.PinLaws.{low-edge, low-level}
use Rattle.mpb_core_laws.proofs.ioapic.write_of_a_low_half_settles_remote_irr.Goals as goal

pub returns : goal.returns
returns c = record { edge = low-edge; level = low-level; line = λ p value. refl }
