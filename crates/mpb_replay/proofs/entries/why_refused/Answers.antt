use Rattle.std.proofs.Common.{sym, ap, ◌∙◌}
use Rattle.mpb_spec.specs.Plan.{Plan}
use Rattle.mpb_board.specs.BoardView.{state_of}
use Rattle.mpb_replay_laws.specs.Wrong.{has_agent}
use Rattle.mpb_replay_laws.proofs.Reasons.{refused}
use Rattle.mpb_replay.proofs.entries.why_refused.Goals as goal

pub returns-else-has_to_wait : goal.returns-else-has_to_wait
returns-else-has_to_wait c =
    let board = c.args.board.now in
    let x = c.args.entry.now in
    refused board.plan (state_of board) x
    (sym (ap (λ (p : Plan). has_agent p x.agent) c.config.ensures.same) ∙ sym c.has_agent.ensures ∙ c.if-not-has_agent.false)
    (sym c.has_to_wait.ensures ∙ c.if-has_to_wait.false) c.requires.refused
