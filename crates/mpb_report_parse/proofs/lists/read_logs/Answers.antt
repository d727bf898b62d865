use Rattle.std.proofs.Common.{◌<◌, ◌≤◌, arith}
use Rattle.mpt_line.specs.Lines.{BeginsWith, BeginsWithNone}
use Rattle.mpb_report_spec.specs.LogLines.{log_line}
use Rattle.mpb_report_line.specs.Values.{IsRightLog}
use Rattle.mpb_report_parse.specs.Languages.{IsLogAt}
use Rattle.mpb_report_parse.proofs.ListLemmas.{up_more, up_first, below_four, none_below_four, none_at_four}
use Rattle.mpb_report_parse.proofs.lists.read_logs.Goals as goal

pub returns-in_default : goal.returns-in_default
returns-in_default c =
    let none : BeginsWithNone (log_line c.loop-number.number) IsRightLog c.loop-number.rest.now = rw c.in_default.is at c.in_ok-log.ensures.none in
    up_first log_line IsLogAt c.loop-number.logs.items c.args.text.now c.loop-number.rest.now c.loop-number.number c.loop-number.invariant
    (none_below_four (log_line c.loop-number.number) IsRightLog c.loop-number.number c.loop-number.rest.now none)

pub loop-number-preserved : goal.loop-number-preserved
loop-number-preserved c =
    let low : c.loop-number.number < 4 = omega (arith, c.loop-number-test.true) in
    let t : BeginsWith (log_line c.loop-number.number) IsRightLog c.loop-number.rest.now c.in-Some.log c.in-Some.after.now = rw c.in-Some.is at c.in_ok-log.ensures.some in
    rw c.in_ok-push.ensures.items
    (up_more log_line IsLogAt c.loop-number.logs.items c.in-Some.log c.args.text.now c.loop-number.rest.now c.in-Some.after.now c.loop-number.number c.loop-number.invariant
    (below_four (log_line c.loop-number.number) IsRightLog c.loop-number.number c.loop-number.rest.now c.in-Some.log c.in-Some.after.now low t))

pub returns : goal.returns
returns c =
    let end : 4 ≤ c.loop-number.number = omega (arith, c.loop-number-test.false) in
    up_first log_line IsLogAt c.loop-number.logs.items c.args.text.now c.loop-number.rest.now c.loop-number.number c.loop-number.invariant
    (none_at_four (log_line c.loop-number.number) IsRightLog c.loop-number.number c.loop-number.rest.now end)
