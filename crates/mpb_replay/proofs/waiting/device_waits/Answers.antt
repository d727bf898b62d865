use Rattle.std.proofs.Common.{◌∙◌}
use Rattle.mpb_spec.specs.State.{boot_is_through}
use Rattle.mpb_board.specs.BoardView.{state_of}
use Rattle.mpb_replay.proofs.WaitLemmas.{device_waits_by, same_first}
use Rattle.mpb_replay.proofs.waiting.device_waits.Goals as goal

pub returns : goal.returns
returns c =
    let board = c.args.board.now in
    c.waits_first.ensures ∙ same_first _ _ _ _ _ c.is_begin.ensures c.is_through.ensures
    ∙ device_waits_by board.plan board.journal c.journal.result.now c.args.number c.made_by-made.result c.args.op (boot_is_through (state_of board)) c.requires.there c.journal.ensures.journal c.made_by-made.ensures.count
