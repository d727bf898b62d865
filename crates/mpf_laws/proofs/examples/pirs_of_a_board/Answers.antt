use Rattle.std.proofs.Common.{refl, ap, arith}
use Rattle.std.specs.Prelude.{slice_index}
use Rattle.mpf_laws.specs.Examples.{pir_bytes_with}
use Rattle.mpf_laws.proofs.PirJudgment.{none_before_signature}
use Rattle.mpf_laws.proofs.examples.pirs_of_a_board.Goals as goal

pub returns-clause-table : goal.returns-clause-table
returns-clause-table c = record {
  header = record { signature = refl; version = refl; size = refl; router_bus = refl; router_function = refl; exclusive = refl; compatible = refl; miniport = refl; reserved = refl };
  checksum = refl;
  slots = (record { bus = refl; device = refl; links = refl; irqs = refl; number = refl; reserved = refl }, refl);
}

pub returns-clause-moved : goal.returns-clause-moved
returns-clause-moved c = record {
  header = record { signature = refl; version = refl; size = refl; router_bus = refl; router_function = refl; exclusive = refl; compatible = refl; miniport = refl; reserved = refl };
  checksum = refl;
  slots = (record { bus = refl; device = refl; links = refl; irqs = refl; number = refl; reserved = refl }, refl);
}

pub returns-clause-device_2 : goal.returns-clause-device_2
returns-clause-device_2 c = record { on_pin = record { bus = omega arith; device = omega arith; pin = omega arith }; odd = (record { dest = 0; pin = 0x10 }, refl, refl) }

pub returns-clause-device_3 : goal.returns-clause-device_3
returns-clause-device_3 c = record { on_pin = record { bus = omega arith; device = omega arith; pin = omega arith }; odd = (1, refl, refl) }

pub returns-clause-signature : goal.returns-clause-signature
returns-clause-signature c = record {
  stands = (refl, omega arith, λ e. omega (arith, ap (λ xs. slice_index xs 0) e));
  least = none_before_signature (pir_bytes_with 0x25 0xAF 0x10) (omega arith);
}
