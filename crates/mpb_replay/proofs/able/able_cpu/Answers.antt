use Rattle.std.proofs.Common.{below_more}
use Rattle.mpb_spec.specs.declared.agent.Agent.TheVariants.{Cpu}
use Rattle.mpb_spec.specs.May.{IsIdle}
use Rattle.mpb_board.specs.BoardView.{state_of}
use Rattle.mpb_replay.proofs.able.able_cpu.Goals as goal

pub loop-id-preserved : goal.loop-id-preserved
loop-id-preserved c = below_more (λ k. IsIdle (state_of c.args.board.now) (Cpu k)) c.loop-id.id c.loop-id.invariant c.if-can_any.ensures.idle
