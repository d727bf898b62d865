use Rattle.std.proofs.Common.{◌<◌, ◌≤◌, arith}
use Rattle.mpb_report_line.specs.Lines.{io_text}
use Rattle.mpb_report_line.specs.Values.{IsRightIo}
use Rattle.mpb_report_parse.specs.Languages.{IsIoAt}
use Rattle.mpb_report_parse.proofs.ListLemmas.{up_more, up_first, below_four, none_below_four, none_at_four}
use Rattle.mpb_report_parse.proofs.lists.read_ios.Goals as goal

pub returns-in_default : goal.returns-in_default
returns-in_default c =
    up_first io_text IsIoAt c.loop-place.ios.items c.args.text.now c.loop-place.rest.now c.loop-place.place c.loop-place.invariant
    (none_below_four (io_text c.loop-place.place) IsRightIo c.loop-place.place c.loop-place.rest.now c.in_default.ensures.none)

pub loop-place-preserved : goal.loop-place-preserved
loop-place-preserved c =
    let low : c.loop-place.place < 4 = omega (arith, c.loop-place-test.true) in
    rw c.in_ok-push.ensures.items
    (up_more io_text IsIoAt c.loop-place.ios.items c.in-Some.io c.args.text.now c.loop-place.rest.now c.in-Some.after.now c.loop-place.place c.loop-place.invariant
    (below_four (io_text c.loop-place.place) IsRightIo c.loop-place.place c.loop-place.rest.now c.in-Some.io c.in-Some.after.now low c.in-Some.ensures.some))

pub returns : goal.returns
returns c =
    let end : 4 ≤ c.loop-place.place = omega (arith, c.loop-place-test.false) in
    up_first io_text IsIoAt c.loop-place.ios.items c.args.text.now c.loop-place.rest.now c.loop-place.place c.loop-place.invariant
    (none_at_four (io_text c.loop-place.place) IsRightIo c.loop-place.place c.loop-place.rest.now end)
