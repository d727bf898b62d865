use Rattle.mpt_spec.proofs.FirstFaultLemmas.{IsExtFaultIn-first}
use Rattle.mpt_table.proofs.TableFaults.{HasRightHeader-sound, stands_of_ext_fault}
use Rattle.mpt_table.proofs.reading.with_ext.Goals as goal

pub returns-in-Err-Fault-clause-fault : goal.returns-in-Err-Fault-clause-fault
returns-in-Err-Fault-clause-fault c =
    let f = c.in-Err-Fault.fault in
    let there = rw (c.base_length.ensures, c.ext_length.ensures) at (rw c.in-Err-Fault.field-0-is at c.in-Err-Fault.ensures).fault in
    record {
      stands = stands_of_ext_fault c.args.image.now c.args.at f.at f.why c.requires.ext_part.inside there;
      least =
          let entries = c.requires.entries in
          IsExtFaultIn-first c.args.image.now c.args.at f.at f.why c.args.base.items (HasRightHeader-sound c.args.image.now c.args.at c.requires.header c.requires.ext_part) entries (c.requires.count c.args.base.items entries) there;
    }
