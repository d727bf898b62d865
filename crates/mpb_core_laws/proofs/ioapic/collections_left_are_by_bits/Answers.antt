use Rattle.mpb_core_laws.proofs.PinLaws.{all_left-named, all_left-beyond, left_after-get}
use Rattle.mpb_core_laws.proofs.ioapic.collections_left_are_by_bits.Goals as goal

pub returns : goal.returns
returns c = record { named = all_left-named; beyond = all_left-beyond; spent = left_after-get }
