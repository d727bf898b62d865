use Rattle.std.proofs.Common.{◌+◌, ◌-◌, ◌∷◌, [], length-append, arith}
use Rattle.mpb_report_line.specs.Forms.{outcome_in}
use Rattle.mpb_report_line.proofs.RunLemmas.{run_more, run_stop, run_all}
use Rattle.mpb_report_line.proofs.outcomes.read_run.Goals as goal

pub returns-in_default-clause-outcomes : goal.returns-in_default-clause-outcomes
returns-in_default-clause-outcomes c = (run_stop outcome_in (8 - c.loop-i._i) (8 - (c.loop-i._i + 1)) _ _ _ _ (omega arith) c.loop-i.invariant.0 c.in_default.ensures).0

pub returns-in_default-clause-rest : goal.returns-in_default-clause-rest
returns-in_default-clause-rest c = (run_stop outcome_in (8 - c.loop-i._i) (8 - (c.loop-i._i + 1)) _ _ _ _ (omega arith) c.loop-i.invariant.0 c.in_default.ensures).1

pub loop-i-preserved : goal.loop-i-preserved
loop-i-preserved c =
    rw c.push.ensures.items (
      run_more outcome_in (8 - c.loop-i._i) (8 - (c.loop-i._i + 1)) c.loop-i.outcomes.items c.in-Some.outcome c.loop-i.rest.now c.in-Some.after.now _ _ (omega arith) c.loop-i.invariant.0 c.in-Some.ensures,
      omega (arith, length-append c.loop-i.outcomes.items (c.in-Some.outcome ∷ []), c.loop-i.invariant.1),
    )

pub returns-clause-outcomes : goal.returns-clause-outcomes
returns-clause-outcomes c = (run_all outcome_in (8 - c.loop-i._i) _ _ _ _ (omega arith) c.loop-i.invariant.0).0

pub returns-clause-rest : goal.returns-clause-rest
returns-clause-rest c = (run_all outcome_in (8 - c.loop-i._i) _ _ _ _ (omega arith) c.loop-i.invariant.0).1
