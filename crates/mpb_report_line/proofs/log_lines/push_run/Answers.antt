use Rattle.std.proofs.Common.{◌≡◌, ◌+◌, ◌-◌, length, refl, arith}
use Rattle.mpb_report_line.specs.Forms.{pulse_in}
use Rattle.mpb_report_line.proofs.RunLemmas.{run_more, run_stop, run_all}
use Rattle.mpb_report_line.proofs.log_lines.push_run.Goals as goal

pub loop-i-init : goal.loop-i-init
loop-i-init c =
    let n = length c.args.line.now in
    let e : n - 0 ≡ n = omega arith in
    rw e (record { items_are = refl; end_is = refl })

pub returns-in_default-clause-pulses : goal.returns-in_default-clause-pulses
returns-in_default-clause-pulses c = (run_stop pulse_in (length c.args.line.now - c.loop-i._i) (length c.args.line.now - (c.loop-i._i + 1)) _ _ _ _ (omega arith) c.loop-i.invariant c.in_default.ensures).0

pub returns-in_default-clause-rest : goal.returns-in_default-clause-rest
returns-in_default-clause-rest c = (run_stop pulse_in (length c.args.line.now - c.loop-i._i) (length c.args.line.now - (c.loop-i._i + 1)) _ _ _ _ (omega arith) c.loop-i.invariant c.in_default.ensures).1

pub loop-i-preserved : goal.loop-i-preserved
loop-i-preserved c =
    rw c.in-Ok.ensures.items
    (run_more pulse_in (length c.args.line.now - c.loop-i._i) (length c.args.line.now - (c.loop-i._i + 1)) c.loop-i.pulses.items c.in-Some.pulse c.loop-i.rest.now c.in-Some.after.now _ _ (omega arith) c.loop-i.invariant c.in-Some.ensures)

pub returns-clause-pulses : goal.returns-clause-pulses
returns-clause-pulses c = (run_all pulse_in (length c.args.line.now - c.loop-i._i) _ _ _ _ (omega arith) c.loop-i.invariant).0

pub returns-clause-rest : goal.returns-clause-rest
returns-clause-rest c = (run_all pulse_in (length c.args.line.now - c.loop-i._i) _ _ _ _ (omega arith) c.loop-i.invariant).1
