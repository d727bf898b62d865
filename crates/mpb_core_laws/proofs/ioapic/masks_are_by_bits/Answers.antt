use Rattle.mpb_core_laws.proofs.PinLaws.{mask_by-bit}
use Rattle.mpb_core_laws.proofs.ioapic.masks_are_by_bits.Goals as goal

pub returns : goal.returns
returns c = record { mask = mask_by-bit }
