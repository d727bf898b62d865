use Rattle.mpb_core_laws.proofs.PinLaws.{due-again, not_before, cleared}
use Rattle.mpb_core_laws.proofs.ioapic.asserted_level_pin_is_due_again.Goals as goal

pub returns : goal.returns
returns c = record { again = due-again; not_before = not_before; cleared = cleared }
