use Rattle.std.proofs.Common.{sym, subst}
use Rattle.std.specs.Prelude.{IsTrue, ◌↔◌}
use Rattle.mpt_rules.specs.Places.{HoldsNowhere}
use Rattle.mpt_rules.specs.Entries.{IsBootProcessor, IsEnabledIoApic}
use Rattle.mpt_rules.specs.Rules.{BreaksTableRule}
use Rattle.mpt_rules.proofs.table_rules.breaks.Goals as goal

pub returns-in-NoBootProcessor : goal.returns-in-NoBootProcessor
returns-in-NoBootProcessor c =
    subst (λ r. IsTrue c.lacks_boot_processor.result ↔ BreaksTableRule c.args.pointer.now c.args.table.now r) (sym c.in-NoBootProcessor.is)
    (subst (λ es. IsTrue c.lacks_boot_processor.result ↔ HoldsNowhere IsBootProcessor es) c.as_slice.ensures c.lacks_boot_processor.ensures)

pub returns-in-NoIoApic : goal.returns-in-NoIoApic
returns-in-NoIoApic c =
    subst (λ r. IsTrue c.lacks_io_apic.result ↔ BreaksTableRule c.args.pointer.now c.args.table.now r) (sym c.in-NoIoApic.is)
    (subst (λ es. IsTrue c.lacks_io_apic.result ↔ HoldsNowhere IsEnabledIoApic es) c.as_slice-in-NoIoApic.ensures c.lacks_io_apic.ensures)
