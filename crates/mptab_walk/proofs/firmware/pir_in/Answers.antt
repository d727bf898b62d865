use Rattle.std.proofs.Common.{refl}
use Rattle.mpf_answers.specs.FaultLines.{pir_fault_line}
use Rattle.mptab_walk.specs.Limited.{RefusesPir}
use Rattle.mptab_walk.proofs.LimitedLemmas.{refused_by}
use Rattle.mptab_walk.proofs.firmware.pir_in.Goals as goal

pub returns-in-Err-Fault-clause-refused : goal.returns-in-Err-Fault-clause-refused
returns-in-Err-Fault-clause-refused c =
    let facts = rw c.in-Err-Fault.field-0-is at c.in-Err-Fault.ensures in
    refused_by c.bad_pir.result c.refused.result (RefusesPir c.args.bytes.now) 15 (pir_fault_line c.in-Err-Fault.at c.in-Err-Fault.why) (refl, c.in-Err-Fault.at, c.in-Err-Fault.why, facts.fault, refl) c.bad_pir.ensures c.refused.ensures.refused c.refused.ensures.no_memory
