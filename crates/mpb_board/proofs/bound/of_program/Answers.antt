use Rattle.std.proofs.Common.{◌∙◌, ap, count_by, take_all}
use Rattle.mpb_spec.specs.Room.{is_write, is_eoi}
use Rattle.mpb_board.proofs.bound.of_program.Goals as goal

pub returns-clause-writes : goal.returns-clause-writes
returns-clause-writes c = c.loop-op.invariant.writes ∙ ap (count_by is_write) (take_all c.loop-op.op-index c.args.program.now c.loop-op-test.false)

pub returns-clause-ends : goal.returns-clause-ends
returns-clause-ends c = c.loop-op.invariant.ends ∙ ap (count_by is_eoi) (take_all c.loop-op.op-index c.args.program.now c.loop-op-test.false)
