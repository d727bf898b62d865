use Rattle.std.proofs.Common.{refl}
use Rattle.mpf_answers.specs.FaultLines.{madt_fault_line}
use Rattle.mptab_walk.specs.Limited.{RefusesMadt}
use Rattle.mptab_walk.proofs.LimitedLemmas.{refused_by}
use Rattle.mptab_walk.proofs.firmware.madt_in.Goals as goal

pub returns-in-Err-Fault-clause-refused : goal.returns-in-Err-Fault-clause-refused
returns-in-Err-Fault-clause-refused c =
    let facts = rw c.in-Err-Fault.field-0-is at c.in-Err-Fault.ensures in
    refused_by c.bad_madt.result c.refused.result (RefusesMadt c.args.bytes.now) 13 (madt_fault_line c.in-Err-Fault.at c.in-Err-Fault.why) (refl, c.in-Err-Fault.at, c.in-Err-Fault.why, facts.fault, refl) c.bad_madt.ensures c.refused.ensures.refused c.refused.ensures.no_memory
