use Rattle.mpb_spec.specs.Journal.{final_state_of}
use Rattle.mpb_board.proofs.BoardLemmas.{quiet_law}
use Rattle.mpb_board.proofs.board.Board.quiet.Goals as goal

pub returns-clause-quiet : goal.returns-clause-quiet
returns-clause-quiet c = rw (← c.self.view_is) (quiet_law (final_state_of c.self.inside.config c.self.inside.journal.items) c.quiet.result (rw c.self.invariant.state at c.quiet.ensures))
