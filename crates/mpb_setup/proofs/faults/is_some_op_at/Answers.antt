use Rattle.std.proofs.Common.{sym, ◌∙◌}
use Rattle.std.proofs.lemmas.List.Folds.{list_any_at}
use Rattle.mpb_setup.specs.Faults.{is_op_at}
use Rattle.mpb_setup.proofs.PushLemmas.{none_passes}
use Rattle.mpb_setup.proofs.faults.is_some_op_at.Goals as goal

pub loop-op-preserved : goal.loop-op-preserved
loop-op-preserved c = none_passes (is_op_at c.args.place) c.args.ops.now c.loop-op.op-index _ c.loop-op-test.true (sym c.is_op_at.ensures ∙ c.if-is_op_at.false) c.loop-op.invariant

pub returns-then-is_op_at : goal.returns-then-is_op_at
returns-then-is_op_at c = sym (list_any_at (is_op_at c.args.place) c.args.ops.now c.loop-op.op-index _ c.loop-op-test.true (sym c.is_op_at.ensures ∙ c.if-is_op_at.true))
