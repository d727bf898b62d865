use Rattle.mpt_spec.proofs.FirstFaultLemmas.{IsBaseFaultIn-first}
use Rattle.mpt_table.proofs.TableFaults.{HasRightHeader-sound, stands_of_base_fault}
use Rattle.mpt_table.proofs.reading.read_table.Goals as goal

pub returns-in-Err-base-clause-fault : goal.returns-in-Err-base-clause-fault
returns-in-Err-base-clause-fault c =
    let f = c.in-Err-base.fault in
    let right = c.in_default.ensures.none in
    let there = rw c.in-Err-base.is at c.in-Ok.ensures.fault in
    record {
      stands = stands_of_base_fault c.args.image.now c.args.at f.at f.why right.inside there;
      least = IsBaseFaultIn-first c.args.image.now c.args.at f.at f.why (HasRightHeader-sound c.args.image.now c.args.at right c.in_default-ext_header_fault.ensures.none) there;
    }
