use Rattle.std.proofs.Common.{◌≡◌, ◌+◌, ◌-◌, refl, arith}
use Rattle.mpt_line.proofs.RunLemmas.{run_more, run_stop, run_all}
use Rattle.mpt_line.proofs.ext_lines.push_run.Goals as goal

pub loop-i-init : goal.loop-i-init
loop-i-init c =
    let e : c.args.limit - 0 ≡ c.args.limit = omega arith in
    rw e (record { bytes_are = refl; end_is = refl })

pub returns-in_default-clause-bytes : goal.returns-in_default-clause-bytes
returns-in_default-clause-bytes c = (run_stop (c.args.limit - c.loop-i._i) (c.args.limit - (c.loop-i._i + 1)) _ _ _ _ (omega arith) c.loop-i.invariant c.in_default.ensures).0

pub returns-in_default-clause-rest : goal.returns-in_default-clause-rest
returns-in_default-clause-rest c = (run_stop (c.args.limit - c.loop-i._i) (c.args.limit - (c.loop-i._i + 1)) _ _ _ _ (omega arith) c.loop-i.invariant c.in_default.ensures).1

pub loop-i-preserved : goal.loop-i-preserved
loop-i-preserved c =
    rw c.in-Ok.ensures.items
    (run_more (c.args.limit - c.loop-i._i) (c.args.limit - (c.loop-i._i + 1)) c.loop-i.out.items c.in-Some.byte c.loop-i.rest.now c.in-Some.after.now _ _ (omega arith) c.loop-i.invariant c.in-Some.ensures)

pub returns-clause-bytes : goal.returns-clause-bytes
returns-clause-bytes c = (run_all (c.args.limit - c.loop-i._i) _ _ _ _ (omega arith) c.loop-i.invariant).0

pub returns-clause-rest : goal.returns-clause-rest
returns-clause-rest c = (run_all (c.args.limit - c.loop-i._i) _ _ _ _ (omega arith) c.loop-i.invariant).1
