use Rattle.std.proofs.Common.{◌+◌, ◌-◌, refl, arith}
use Rattle.std.specs.Prelude.{codes}
use Rattle.mpt_line.specs.Reading.{field_in}
use Rattle.mpb_report_line.proofs.RunLemmas.{run_more, run_stop, run_all}
use Rattle.mpb_report_line.proofs.vectors.push_run.Goals as goal

pub loop-i-init : goal.loop-i-init
loop-i-init c = record { items_are = refl; end_is = refl }

pub returns-in_default-clause-vectors : goal.returns-in_default-clause-vectors
returns-in_default-clause-vectors c = (run_stop (field_in (codes ",") 2) (255 - c.loop-i._i) (255 - (c.loop-i._i + 1)) _ _ _ _ (omega arith) c.loop-i.invariant c.in_default.ensures).0

pub returns-in_default-clause-rest : goal.returns-in_default-clause-rest
returns-in_default-clause-rest c = (run_stop (field_in (codes ",") 2) (255 - c.loop-i._i) (255 - (c.loop-i._i + 1)) _ _ _ _ (omega arith) c.loop-i.invariant c.in_default.ensures).1

pub loop-i-preserved : goal.loop-i-preserved
loop-i-preserved c =
    rw c.in-Ok.ensures.items
    (run_more (field_in (codes ",") 2) (255 - c.loop-i._i) (255 - (c.loop-i._i + 1)) c.loop-i.vectors.items c.in-Some.vector c.loop-i.rest.now c.in-Some.after.now _ _ (omega arith) c.loop-i.invariant c.in-Some.ensures)

pub returns-clause-vectors : goal.returns-clause-vectors
returns-clause-vectors c = (run_all (field_in (codes ",") 2) (255 - c.loop-i._i) _ _ _ _ (omega arith) c.loop-i.invariant).0

pub returns-clause-rest : goal.returns-clause-rest
returns-clause-rest c = (run_all (field_in (codes ",") 2) (255 - c.loop-i._i) _ _ _ _ (omega arith) c.loop-i.invariant).1
