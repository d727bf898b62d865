use Rattle.std.proofs.Common.{ap, ◌∙◌}
use Rattle.mpb_spec.specs.Plan.{Plan}
use Rattle.mpb_replay.proofs.MadeLemmas.{through_by}
use Rattle.mpb_replay.proofs.made.is_through.Goals as goal

pub returns : goal.returns
returns c =
    let board = c.args.board.now in
    let plan = c.config.view_is ∙ c.config-config.ensures.same in
    through_by board.plan board.journal c.journal.result.now c.config.inside.boot c.config.inside.boot_len c.made_by-made.result c.config-config.ensures.kept
    (ap (λ (p : Plan). p.boot) plan) (ap (λ (p : Plan). p.boot_len) plan) c.journal.ensures.journal c.made_by-made.ensures.count
