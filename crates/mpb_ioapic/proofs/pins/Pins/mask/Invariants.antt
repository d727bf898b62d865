use Rattle.std.proofs.Common.{◌≡◌, drop}
use Rattle.mpb_spec.specs.IoApic.{mask_by}
use Rattle.mpb_ioapic.specs.Signs.{shows}
use Rattle.mpb_ioapic.proofs.pins.Pins.mask.Given as goal

-- the mask of the pins from this one on
abbrev pub invariant-loop-number : goal.invariant-loop-number
invariant-loop-number l = l.mask ≡ mask_by (shows l.sign) (drop l.number l.self)
