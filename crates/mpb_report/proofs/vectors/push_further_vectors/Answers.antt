use Rattle.mpt_base.proofs.AppendLemmas.{appended_more, appended_all}
use Rattle.mpb_report_spec.specs.StateLines.{further_vector}
use Rattle.mpb_report.proofs.vectors.push_further_vectors.Goals as goal

pub loop-vector-preserved : goal.loop-vector-preserved
loop-vector-preserved c = appended_more further_vector c.args.vectors.now c.loop-vector.vector-index 0 c.args.out.now.items _ _ c.loop-vector-test.true c.loop-vector.invariant c.in_default.ensures

pub returns : goal.returns
returns c = appended_all further_vector c.args.vectors.now c.loop-vector.vector-index c.args.out.now.items _ c.loop-vector-test.false c.loop-vector.invariant
