use Rattle.std.proofs.Common.{below_more}
use Rattle.mpb_spec.specs.declared.agent.Agent.TheVariants.{Io}
use Rattle.mpb_spec.specs.May.{IsIdle}
use Rattle.mpb_board.specs.BoardView.{state_of}
use Rattle.mpb_replay.proofs.able.able_io.Goals as goal

pub loop-place-preserved : goal.loop-place-preserved
loop-place-preserved c = below_more (λ k. IsIdle (state_of c.args.board.now) (Io k)) c.loop-place.place c.loop-place.invariant c.if-can_any.ensures.idle
