use Rattle.std.proofs.Common.{arith}
use Rattle.mpb_report_parse.proofs.ReportLines.{title_stop, count_stop, ok_whole, err_fault, behind_short}
use Rattle.mpb_report_parse.proofs.parsing.read_report.Goals as goal

pub returns-in_default-clause-fault : goal.returns-in_default-clause-fault
returns-in_default-clause-fault c = title_stop c.args.text.now c.unfinished.result c.in_default.ensures.none c.unfinished.ensures

pub returns-in_default-read_entry_count_line-clause-fault : goal.returns-in_default-read_entry_count_line-clause-fault
returns-in_default-read_entry_count_line-clause-fault c =
    count_stop c.args.text.now c.in-Some.behind.now c.unfinished-in_default-read_entry_count_line.result c.in-Some.ensures.some c.in_default-read_entry_count_line.ensures.none c.unfinished-in_default-read_entry_count_line.ensures

pub read_behind_count-requires : goal.read_behind_count-requires
read_behind_count-requires c =
    let s = c.in-Some-read_entry_count_line.ensures.some in
    omega (arith, behind_short s.0 c.args.text.now c.in-Some.behind.now c.in-Some-read_entry_count_line.rest.now c.in-Some.ensures.some s.2, c.requires)

pub returns-clause-report : goal.returns-clause-report
returns-clause-report c =
    let s = c.in-Some-read_entry_count_line.ensures.some in
    ok_whole c.read_behind_count.result s.0 c.in-Some-read_entry_count_line.count c.args.text.now c.in-Some.behind.now c.in-Some-read_entry_count_line.rest.now c.in-Some.ensures.some (s.1, s.2)
    c.read_behind_count.ensures.report c.read_behind_count.ensures.whole c.read_behind_count.ensures.few

pub returns-clause-fault : goal.returns-clause-fault
returns-clause-fault c =
    let s = c.in-Some-read_entry_count_line.ensures.some in
    err_fault c.read_behind_count.result s.0 c.args.text.now c.in-Some.behind.now c.in-Some-read_entry_count_line.rest.now c.in-Some.ensures.some s.2 (c.read_behind_count.ensures.fault s.0 s.1)
