use Rattle.std.proofs.Common.{refl, arith}
use Rattle.std.specs.Prelude.{take}
use Rattle.mpf_madt.proofs.FaultLemmas.{none_before_length}
use Rattle.mpf_laws.specs.Examples.{board_madt}
use Rattle.mpf_laws.proofs.examples.other_madts_of_a_board.Goals as goal

pub returns-clause-table : goal.returns-clause-table
returns-clause-table c = record {
  whole = omega arith;
  size = refl;
  checksum = refl;
  header = record { signature = refl; revision = refl; oem = refl; table = refl; oem_revision = refl; creator = refl; creator_revision = refl; local_address = refl; flags = refl };
  entries = (
    record { type_byte = refl; length_byte = refl; uid_there = refl; apic_there = refl; flags_there = refl },
    (
      record { type_byte = refl; length_byte = refl; uid_there = refl; apic_there = refl; flags_there = refl },
      (
        record { type_byte = refl; length_byte = refl; id_there = refl; reserved_there = refl; address_there = refl; base_there = refl },
        (
          record { type_byte = refl; length_byte = refl; bus_there = refl; source_there = refl; gsi_there = refl; flags_there = refl },
          (record { type_byte = refl; length_byte = refl; uid_there = refl; flags_there = refl; lint_there = refl }, refl),
        ),
      ),
    ),
  );
}

pub returns-clause-line_0 : goal.returns-clause-line_0
returns-clause-line_0 c = refl

pub returns-clause-line_1 : goal.returns-clause-line_1
returns-clause-line_1 c = refl

pub returns-clause-cut : goal.returns-clause-cut
returns-clause-cut c = record { stands = (refl, omega arith, λ e. omega (arith, e)); least = none_before_length (take 87 board_madt) (omega arith) refl }
