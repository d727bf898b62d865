use Rattle.std.proofs.Common.{sym, subst}
use Rattle.mpt_rules.specs.Places.{IsOther}
use Rattle.mpt_rules.specs.Rules.{BreaksBaseRule}
use Rattle.mpt_rules.proofs.base_rules.other_of.Goals as goal

pub returns-in-SecondBootFlag : goal.returns-in-SecondBootFlag
returns-in-SecondBootFlag c = subst (λ r. IsOther (BreaksBaseRule c.args.entries.now r c.args.entry.now c.args.i) c.second_boot_flag.result) (sym c.in-SecondBootFlag.is) c.second_boot_flag.ensures

pub returns-in-DuplicateProcessorId : goal.returns-in-DuplicateProcessorId
returns-in-DuplicateProcessorId c = subst (λ r. IsOther (BreaksBaseRule c.args.entries.now r c.args.entry.now c.args.i) c.duplicate_processor_id.result) (sym c.in-DuplicateProcessorId.is) c.duplicate_processor_id.ensures

pub returns-in-DuplicateIoApicId : goal.returns-in-DuplicateIoApicId
returns-in-DuplicateIoApicId c = subst (λ r. IsOther (BreaksBaseRule c.args.entries.now r c.args.entry.now c.args.i) c.duplicate_io_apic_id.result) (sym c.in-DuplicateIoApicId.is) c.duplicate_io_apic_id.ensures

pub returns-in-SharedId : goal.returns-in-SharedId
returns-in-SharedId c = subst (λ r. IsOther (BreaksBaseRule c.args.entries.now r c.args.entry.now c.args.i) c.shared_id.result) (sym c.in-SharedId.is) c.shared_id.ensures

pub returns-in-TypeBelow : goal.returns-in-TypeBelow
returns-in-TypeBelow c = subst (λ r. IsOther (BreaksBaseRule c.args.entries.now r c.args.entry.now c.args.i) c.type_below.result) (sym c.in-TypeBelow.is) c.type_below.ensures

pub returns-in-DuplicateSource : goal.returns-in-DuplicateSource
returns-in-DuplicateSource c = subst (λ r. IsOther (BreaksBaseRule c.args.entries.now r c.args.entry.now c.args.i) c.duplicate_source.result) (sym c.in-DuplicateSource.is) c.duplicate_source.ensures

pub returns-in-OtherSense : goal.returns-in-OtherSense
returns-in-OtherSense c = subst (λ r. IsOther (BreaksBaseRule c.args.entries.now r c.args.entry.now c.args.i) c.other_sense.result) (sym c.in-OtherSense.is) c.other_sense.ensures
