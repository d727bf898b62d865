use Rattle.std.proofs.Common.{ap, ◌∙◌, not, is_some}
use Rattle.mpb_replay.proofs.WaitLemmas.{processor_waits_by, same_at, flipped}
use Rattle.mpb_replay_laws.specs.Wrong.{is_take}
use Rattle.mpb_replay.proofs.waiting.processor_waits.Goals as goal

pub returns : goal.returns
returns c =
    let board = c.args.board.now in
    c.waits_at.ensures
    ∙ same_at _ _ _ _ _ _ _ _ c.runs.ensures c.is_take.ensures (c.is_take-2.ensures ∙ ap is_take c.next_op-next.ensures) (flipped _ _ c.is_none-nothing.ensures ∙ ap (λ r. not (is_some r)) c.next.ensures.answer)
    ∙ processor_waits_by board.plan board.journal c.args.id c.args.op c.in-Some.life c.in-Some-lapic.lapic.now c.in-Some.ensures.life c.in-Some-lapic.ensures.lapic
