use Rattle.std.proofs.Common.{subst, ◌∙◌}
use Rattle.mpb_spec.specs.Journal.{IsLegal, final_state_of}
use Rattle.mpb_replay_laws.specs.Differences.{IsFirstAble}
use Rattle.mpb_replay_laws.proofs.Verdicts.{unfinished}
use Rattle.mpb_replay.proofs.replaying.judge.Goals as goal

pub returns-in-Some : goal.returns-in-Some
returns-in-Some c =
    let plan = c.args.board.now.plan in
    let r = c.args.report.now in
    unfinished plan r c.in-Some.agent (subst (IsLegal plan) (c.journal.ensures.journal ∙ c.requires.played) c.journal.ensures.legal)
    (subst (λ js. IsFirstAble (final_state_of plan js) c.in-Some.agent) c.requires.played c.in-Some.ensures)
