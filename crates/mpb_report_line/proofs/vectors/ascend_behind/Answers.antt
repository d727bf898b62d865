use Rattle.std.proofs.Common.{refl, sym, ◌∙◌}
use Rattle.mpb_report_line.proofs.VectorLemmas.{ascends_more, ascends_stop}
use Rattle.mpb_report_line.proofs.vectors.ascend_behind.Goals as goal

pub loop-vector-preserved : goal.loop-vector-preserved
loop-vector-preserved c = sym (ascends_more c.loop-vector.last c.args.vectors.now c.loop-vector.vector-index _ c.loop-vector-test.true refl c.if-vector-last.false) ∙ c.loop-vector.invariant

pub returns-then-vector-last : goal.returns-then-vector-last
returns-then-vector-last c = sym (ascends_stop c.loop-vector.last c.args.vectors.now c.loop-vector.vector-index _ c.loop-vector-test.true refl c.if-vector-last.true) ∙ c.loop-vector.invariant
