-- Polarity and trigger (MultiProcessor Specification 1.4, sections 4.3.2 and 4.3.4; the ELCR is the EISA chip set's).
use Rattle.std.specs.Prelude.{ℕ, ◌==◌, ◌&&◌, ◌/◌, ◌%◌, ◌^◌, nat_lt, Bool, true, false, if◌then◌else◌, List, codes}
use Rattle.std.specs.Cmp.Lexicographic.{pointwise}
use Rattle.mpt_spec.specs.declared.interrupt.Polarity.{Polarity}
use Rattle.mpt_spec.specs.declared.interrupt.Polarity.TheVariants as polarity
use Rattle.mpt_spec.specs.declared.interrupt.Trigger.{Trigger}
use Rattle.mpt_spec.specs.declared.interrupt.Trigger.TheVariants as trigger
use Rattle.mpt_route.specs.declared.bus.BusKind.{BusKind}
use Rattle.mpt_route.specs.declared.bus.BusKind.TheVariants as bus

abbrev pub is_named : List ℕ → List ℕ → Bool
is_named name text = pointwise (λ a b. a == b) name text

-- the type of a bus by its name
abbrev pub bus_kind_of : List ℕ → BusKind
bus_kind_of name =
    if is_named name (codes "ISA   ") then bus.Isa
    else (if is_named name (codes "EISA  ") then bus.Eisa
    else (if is_named name (codes "PCI   ") then bus.Pci
    else (if is_named name (codes "MCA   ") then bus.Mca else bus.Other)))

-- whether a conforming field is level or low, and not edge or high
abbrev pub is_level_low : BusKind → ℕ → ℕ → Bool
is_level_low bus.Isa irq elcr = false
is_level_low bus.Eisa irq elcr = nat_lt irq 16 && (elcr / 2 ^ irq % 2 == 1)
is_level_low bus.Pci irq elcr = true
is_level_low bus.Mca irq elcr = true
is_level_low bus.Other irq elcr = false

abbrev pub is_low : Polarity → Bool → Bool
is_low polarity.Conforms conforming = conforming
is_low polarity.High conforming = false
is_low polarity.Reserved conforming = false
is_low polarity.Low conforming = true

abbrev pub is_level : Trigger → Bool → Bool
is_level trigger.Conforms conforming = conforming
is_level trigger.Edge conforming = false
is_level trigger.Reserved conforming = false
is_level trigger.Level conforming = true

abbrev pub is_reserved : Polarity → Trigger → Bool
is_reserved polarity.Reserved t = true
is_reserved _ trigger.Reserved = true
is_reserved _ _ = false

abbrev pub conforms : Polarity → Trigger → Bool
conforms polarity.Conforms t = true
conforms _ trigger.Conforms = true
conforms _ _ = false
