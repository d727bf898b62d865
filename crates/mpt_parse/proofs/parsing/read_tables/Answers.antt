use Rattle.std.proofs.Common.{arith}
use Rattle.mpt_parse.proofs.ListingLines.{title_stop, title_fault, pointer_stop, pointer_fault, behind_short, listing_whole}
use Rattle.mpt_parse.proofs.parsing.read_tables.Goals as goal

pub returns-in_default-clause-fault : goal.returns-in_default-clause-fault
returns-in_default-clause-fault c = title_stop c.args.text.now c.unfinished.result c.in_default.ensures.none c.unfinished.ensures

pub returns-in_default-read_pointer_line-clause-fault : goal.returns-in_default-read_pointer_line-clause-fault
returns-in_default-read_pointer_line-clause-fault c =
    title_fault c.args.text.now c.in-Some.behind.now c.unfinished-in_default-read_pointer_line.result c.in-Some.ensures.some
    (pointer_stop c.in-Some.behind.now 1 c.unfinished-in_default-read_pointer_line.result c.in_default-read_pointer_line.ensures.none c.unfinished-in_default-read_pointer_line.ensures)

pub read_body-requires-clause-size : goal.read_body-requires-clause-size
read_body-requires-clause-size c =
    omega (arith, behind_short c.in-Some-read_pointer_line.line c.args.text.now c.in-Some.behind.now c.in-Some-read_pointer_line.rest.now c.in-Some.ensures.some c.in-Some-read_pointer_line.ensures.some)

pub read_body-requires-clause-low : goal.read_body-requires-clause-low
read_body-requires-clause-low c = c.in-Some-read_pointer_line.ensures.some.right.number

pub read_body-requires-clause-address : goal.read_body-requires-clause-address
read_body-requires-clause-address c = c.in-Some-read_pointer_line.ensures.some.right.address

pub returns-in-Ok-clause-tables : goal.returns-in-Ok-clause-tables
returns-in-Ok-clause-tables c =
    listing_whole c.in-Some-read_pointer_line.line c.in-Ok.body c.args.text.now c.in-Some.behind.now c.in-Some-read_pointer_line.rest.now c.in-Some.ensures.some c.in-Some-read_pointer_line.ensures.some
    c.in-Ok.ensures.value c.in-Ok.ensures.right c.in-Ok.ensures.whole

pub returns-in-Err-clause-fault : goal.returns-in-Err-clause-fault
returns-in-Err-clause-fault c =
    title_fault c.args.text.now c.in-Some.behind.now c.in-Err.fault c.in-Some.ensures.some
    (pointer_fault c.in-Some-read_pointer_line.line c.in-Some.behind.now c.in-Some-read_pointer_line.rest.now 1 c.in-Err.fault c.in-Some-read_pointer_line.ensures.some c.in-Err.ensures.fault)
