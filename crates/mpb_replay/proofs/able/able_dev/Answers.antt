use Rattle.std.proofs.Common.{below_more}
use Rattle.mpb_spec.specs.declared.agent.Agent.TheVariants.{Dev}
use Rattle.mpb_spec.specs.May.{IsIdle}
use Rattle.mpb_board.specs.BoardView.{state_of}
use Rattle.mpb_replay.proofs.able.able_dev.Goals as goal

pub loop-number-preserved : goal.loop-number-preserved
loop-number-preserved c = below_more (λ k. IsIdle (state_of c.args.board.now) (Dev k)) c.loop-number.number c.loop-number.invariant c.if-can_any.ensures.idle
