use Rattle.mpb_core_laws.proofs.PinLaws.{pulsed-get, pulsed_due-bit, pulsed_joined-bit}
use Rattle.mpb_core_laws.proofs.ioapic.collection_is_by_bits.Goals as goal

pub returns : goal.returns
returns c = record { pins = pulsed-get; due = pulsed_due-bit; joined = pulsed_joined-bit }
