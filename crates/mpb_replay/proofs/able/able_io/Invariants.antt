use Rattle.mpb_spec.specs.declared.agent.Agent.TheVariants.{Io}
use Rattle.mpb_board.specs.BoardView.{state_of}
use Rattle.mpb_replay_laws.specs.Asked.{AreIdle}
use Rattle.mpb_replay.proofs.able.able_io.Given as goal

abbrev pub invariant-loop-place : goal.invariant-loop-place
invariant-loop-place l = AreIdle Io l.place (state_of l.board)
