use Rattle.std.proofs.Common.{map, ap, ◌∙◌}
use Rattle.mpb_spec.specs.Plan.{Plan}
use Rattle.mpb_replay.proofs.MadeLemmas.{all_ended_by}
use Rattle.mpb_replay.proofs.made.all_ended.Goals as goal

pub returns : goal.returns
returns c =
    let board = c.args.board.now in
    all_ended_by board.plan board.journal c.journal.result.now (map (λ words. words.items) c.as_slice-devices.result.now) c.all_made.result c.journal.ensures.journal
    (ap (λ ds. map (λ words. words.items) ds) c.as_slice-devices.ensures.value ∙ ap (λ (p : Plan). p.devices) (c.behind-board.view_is ∙ c.config.ensures.same)) c.all_made.ensures
