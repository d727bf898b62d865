use Rattle.std.proofs.Common.{sym, ◌∙◌}
use Rattle.mpt_spec.proofs.CallerLemmas.{IsFloatingPointer-fields}
use Rattle.mpt_spec.proofs.FirstFaultLemmas.{IsFirstFault-of_table, IsFirstFault-of_pointer}
use Rattle.mpt_table.proofs.PointerFaults.{HasRightPointer-no_fault, IsPointerFault-first}
use Rattle.mpt_table.proofs.reading.tables_at.Goals as goal

pub unreachable-requires : goal.unreachable-requires
unreachable-requires c = c.in_default.ensures.none c.requires.first.holds.0 c.requires.first.holds.1

pub returns-in-Some-pointer_fault-clause-refused : goal.returns-in-Some-pointer_fault-clause-refused
returns-in-Some-pointer_fault-clause-refused c =
    let f = c.in-Some-pointer_fault.fault in
    let least = IsPointerFault-first c.in-Some.pointer c.args.image.now c.args.at f.at f.why c.in-Some.ensures.some c.in-Some-pointer_fault.ensures.some in
    IsFirstFault-of_pointer c.args.image.now c.args.at f.at f.why c.requires.first least.stands least.least

pub returns-in-Err-Fault-clause-refused : goal.returns-in-Err-Fault-clause-refused
returns-in-Err-Fault-clause-refused c =
    let image = c.args.image.now in
    let p = c.in-Some.pointer in
    let there = c.in-Some.ensures.some in
    let fields = IsFloatingPointer-fields p image c.args.at there in
    let right = c.in_default-pointer_fault.ensures.none in
    let h = rw c.in-Err-Fault.field-0-is at c.in-Err-Fault.ensures in
    let f = c.in-Err-Fault.fault in
    rw c.in-Err-Fault.field-0-is (IsFirstFault-of_table image c.args.at f.at f.why c.requires.first (HasRightPointer-no_fault p image c.args.at there right) (sym fields.default ∙ h.listed) (rw fields.address at h.fault.stands) (rw fields.address at h.fault.least))
