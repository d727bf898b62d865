-- What the low bits of the flags say (MultiProcessor Specification 1.4, sections 4.3.1 and 4.3.3).
use Rattle.std.specs.Prelude.{◌==◌, ◌/◌, ◌%◌, Bool}
use Rattle.mpt_spec.specs.declared.entry.Processor.{Processor}
use Rattle.mpt_spec.specs.declared.entry.IoApic.{IoApic}

-- EN, bit 0: the processor is usable
abbrev pub is_enabled_processor : Processor → Bool
is_enabled_processor e = e.flags % 2 == 1

-- BP, bit 1: the processor boots
abbrev pub has_boot_flag : Processor → Bool
has_boot_flag e = e.flags / 2 % 2 == 1

-- EN and BP
abbrev pub is_boot_processor : Processor → Bool
is_boot_processor e = e.flags % 4 == 3

-- BP without EN
abbrev pub is_disabled_boot : Processor → Bool
is_disabled_boot e = e.flags % 4 == 2

-- EN, bit 0: the I/O APIC is usable
abbrev pub is_enabled_io_apic : IoApic → Bool
is_enabled_io_apic io = io.flags % 2 == 1
