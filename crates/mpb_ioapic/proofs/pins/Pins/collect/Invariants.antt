use Rattle.std.proofs.Common.{◌≡◌, ◌++◌, ◌/◌, ◌^◌, take, drop}
use Rattle.mpb_spec.specs.IoApic.{pulsed, pulsed_due, pulsed_joined}
use Rattle.mpb_ioapic.proofs.pins.Pins.collect.Given as goal

-- the pins from this one on are done
abbrev pub invariant-loop-number : goal.invariant-loop-number
invariant-loop-number l = record {
  pins : l.self ≡ take l.number l.initial.self ++ pulsed (l.mask / 2 ^ l.number) (drop l.number l.initial.self);
  due : l.due ≡ pulsed_due (l.mask / 2 ^ l.number) (drop l.number l.initial.self);
  joined : l.joined ≡ pulsed_joined (l.mask / 2 ^ l.number) (drop l.number l.initial.self);
}
