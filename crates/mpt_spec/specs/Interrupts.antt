-- What the fields of an interrupt entry say (MultiProcessor Specification 1.4, sections 4.3.4 and D.3).
use Rattle.std.specs.Prelude.{ℕ, ◌/◌, ◌%◌, ◌==◌, if◌then◌else◌, Option, Some, None}
use Rattle.mpt_spec.specs.declared.interrupt.Kind.{Kind}
use Rattle.mpt_spec.specs.declared.interrupt.Kind.TheVariants as kind
use Rattle.mpt_spec.specs.declared.interrupt.Polarity.{Polarity}
use Rattle.mpt_spec.specs.declared.interrupt.Polarity.TheVariants as polarity
use Rattle.mpt_spec.specs.declared.interrupt.Trigger.{Trigger}
use Rattle.mpt_spec.specs.declared.interrupt.Trigger.TheVariants as trigger

-- the interrupt type of a kind byte: 0 INT, 1 NMI, 2 SMI, 3 ExtINT, and none above
abbrev pub kind_of : ℕ → Option Kind
kind_of n = if n == 0 then Some kind.Int else (if n == 1 then Some kind.Nmi else (if n == 2 then Some kind.Smi else (if n == 3 then Some kind.ExtInt else None)))

-- the polarity of two bits: 00 conforms to the bus, 01 active high, 10 reserved, 11 active low
abbrev pub polarity_of_bits : ℕ → Polarity
polarity_of_bits n = if n == 0 then polarity.Conforms else (if n == 1 then polarity.High else (if n == 2 then polarity.Reserved else polarity.Low))

-- the polarity of an entry's flags: bits 0 to 1
abbrev pub polarity_of : ℕ → Polarity
polarity_of flags = polarity_of_bits (flags % 4)

-- the trigger mode of two bits: 00 conforms to the bus, 01 edge, 10 reserved, 11 level
abbrev pub trigger_of_bits : ℕ → Trigger
trigger_of_bits n = if n == 0 then trigger.Conforms else (if n == 1 then trigger.Edge else (if n == 2 then trigger.Reserved else trigger.Level))

-- the trigger mode of an entry's flags: bits 2 to 3
abbrev pub trigger_of : ℕ → Trigger
trigger_of flags = trigger_of_bits (flags / 4 % 4)
