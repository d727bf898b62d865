use Rattle.std.proofs.Common.{◌≡◌, ◌≤◌, arith}
use Rattle.mpt_spec.specs.Table.{default_number}
use Rattle.mpt_parse.proofs.TableLines.{listed_fault, default_fault}
use Rattle.mpt_parse.proofs.parsing.read_body.Goals as goal

pub returns-in-Err-clause-fault : goal.returns-in-Err-clause-fault
returns-in-Err-clause-fault c =
    let number : default_number c.args.pointer.now ≡ 0 = c.if-number-eq0.true in
    listed_fault c.args.pointer.now number (c.requires.address number) c.args.text.now 2 c.in-Err.fault c.in-Err.ensures.fault

pub returns-in-Some-clause-fault : goal.returns-in-Some-clause-fault
returns-in-Some-clause-fault c =
    let low : 1 ≤ default_number c.args.pointer.now = omega (arith, c.if-number-eq0.false) in
    default_fault c.args.pointer.now low c.requires.low c.args.text.now 2 c.in-Some.fault c.in-Some.ensures.some
