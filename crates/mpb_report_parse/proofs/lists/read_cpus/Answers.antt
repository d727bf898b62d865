use Rattle.std.proofs.Common.{◌<◌, ◌≤◌, arith}
use Rattle.mpt_line.specs.Lines.{BeginsWith}
use Rattle.mpb_report_line.specs.Lines.{cpu_text}
use Rattle.mpb_report_line.specs.Values.{IsRightCpu}
use Rattle.mpb_report_parse.proofs.ListLemmas.{cpu_more, cpu_low, cpu_shorter}
use Rattle.mpb_report_parse.proofs.lists.read_cpus.Goals as goal

pub loop-cpus-smaller : goal.loop-cpus-smaller
loop-cpus-smaller c =
    let t : BeginsWith cpu_text IsRightCpu c.loop-cpus.rest.now c.in-Some.cpu c.in-Some.after.now = rw c.in-Some.is at c.in_ok-cpu.ensures.some in
    cpu_shorter c.in-Some.cpu c.loop-cpus.rest.now c.in-Some.after.now t

pub returns-then-from-low : goal.returns-then-from-low
returns-then-from-low c =
    let t : BeginsWith cpu_text IsRightCpu c.loop-cpus.rest.now c.in-Some.cpu c.in-Some.after.now = rw c.in-Some.is at c.in_ok-cpu.ensures.some in
    let less : c.in-Some.cpu.id < c.loop-cpus.low = omega (arith, c.if-from-low.true, c.from.ensures) in
    cpu_low c.loop-cpus.cpus.items c.in-Some.cpu c.args.text.now c.loop-cpus.rest.now c.in-Some.after.now c.loop-cpus.low c.loop-cpus.invariant less t

pub loop-cpus-preserved : goal.loop-cpus-preserved
loop-cpus-preserved c =
    let t : BeginsWith cpu_text IsRightCpu c.loop-cpus.rest.now c.in-Some.cpu c.in-Some.after.now = rw c.in-Some.is at c.in_ok-cpu.ensures.some in
    let high : c.loop-cpus.low ≤ c.in-Some.cpu.id = omega (arith, c.if-from-low.false, c.from.ensures) in
    rw (c.in_ok-push.ensures.items, c.from-low.ensures)
    (cpu_more c.loop-cpus.cpus.items c.in-Some.cpu c.args.text.now c.loop-cpus.rest.now c.in-Some.after.now c.loop-cpus.low c.loop-cpus.invariant high t)
