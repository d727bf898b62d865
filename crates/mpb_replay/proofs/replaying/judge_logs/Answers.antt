use Rattle.std.proofs.Common.{◌≡◌, map, ap, subst, ◌∙◌}
use Rattle.mpb_spec.specs.Journal.{IsComplete}
use Rattle.mpb_spec.specs.Pulses.{pulses_of, pulses_in}
use Rattle.mpb_replay_laws.specs.Differences.{IsFirstDifference}
use Rattle.mpb_replay_laws.proofs.Verdicts.{log}
use Rattle.mpb_replay.proofs.replaying.judge_logs.Goals as goal

pub returns-in-Some : goal.returns-in-Some
returns-in-Some c =
    let plan = c.args.board.now.plan in
    let r = c.args.report.now in
    let devices : map (λ words. words.items) c.as_slice-devices.result.now ≡ plan.devices = ap (map (λ words. words.items)) c.as_slice-devices.ensures.value ∙ ap (λ p. p.devices) (c.behind-board.view_is ∙ c.config.ensures.same) in
    log plan r c.in-Some.device (subst (IsComplete plan) c.requires.played c.requires.complete)
    (subst (λ ds. IsFirstDifference (map pulses_of r.logs) (map pulses_in ds) c.in-Some.device) devices
    (subst (λ ls. IsFirstDifference (map pulses_of ls) (map pulses_in (map (λ words. words.items) c.as_slice-devices.result.now)) c.in-Some.device) c.as_slice.ensures c.in-Some.ensures))
