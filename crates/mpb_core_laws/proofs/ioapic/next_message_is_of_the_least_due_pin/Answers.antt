use Rattle.mpb_core_laws.proofs.PinLaws.{next_due-some, next_due-none}
use Rattle.mpb_core_laws.proofs.ioapic.next_message_is_of_the_least_due_pin.Goals as goal

pub returns : goal.returns
returns c = record { some = next_due-some; none = next_due-none }
