use Rattle.std.proofs.Common.{refl}
use Rattle.mpb_core_laws.proofs.PinLaws.{quiet-low, quiet-high, quiet-line, quiet-pulse, quiet-sent, quiet-eoi}
use Rattle.mpb_core_laws.proofs.ioapic.masked_pin_is_never_due.Goals as goal

pub returns : goal.returns
returns c = record { reset = λ e. refl; low = quiet-low; high = quiet-high; line = quiet-line; pulse = quiet-pulse; sent = quiet-sent; eoi = quiet-eoi }
