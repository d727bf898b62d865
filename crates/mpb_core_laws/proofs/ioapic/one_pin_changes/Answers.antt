use Rattle.mpb_core_laws.proofs.PinLaws.{change_pin-itself, change_pin-others}
use Rattle.mpb_core_laws.proofs.ioapic.one_pin_changes.Goals as goal

pub returns : goal.returns
returns c = record { itself = change_pin-itself; others = change_pin-others }
