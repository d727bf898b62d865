use Rattle.std.proofs.Common.{◌+◌, ◌^◌, ◌<◌, arith}
use Rattle.mpb_report_parse.proofs.ListLemmas.{entry_more, entry_room}
use Rattle.mpb_report_parse.proofs.lists.read_entries.Goals as goal

pub overflow_add-number : goal.overflow_add-number
overflow_add-number c =
    let room : c.loop-rest.number + 1 < 2 ^ 32 = entry_room c.loop-rest.entries.items c.in-Some.entry c.args.text.now c.loop-rest.rest.now c.in-Some.after.now c.loop-rest.number c.args.count c.loop-rest.invariant c.in-Some.ensures.some c.requires in
    omega arith

pub loop-rest-preserved : goal.loop-rest-preserved
loop-rest-preserved c =
    let less : c.loop-rest.number < c.args.count = omega (arith, c.loop-rest-test.true, c.from.ensures) in
    rw c.in_ok-push.ensures.items
    (entry_more c.loop-rest.entries.items c.in-Some.entry c.args.text.now c.loop-rest.rest.now c.in-Some.after.now c.loop-rest.number c.args.count c.loop-rest.invariant less c.in-Some.ensures.some)
