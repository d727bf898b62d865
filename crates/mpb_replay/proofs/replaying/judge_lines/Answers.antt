use Rattle.std.proofs.Common.{◌≡◌, subst}
use Rattle.mpb_spec.specs.Journal.{IsComplete, final_state_of}
use Rattle.mpb_replay_laws.specs.Asked.{AllAccounted}
use Rattle.mpb_replay_laws.specs.Differences.{IsFirstDifference}
use Rattle.mpb_replay_laws.specs.Lines.{lines_in, lines_of}
use Rattle.mpb_replay_laws.proofs.Verdicts.{state, legal}
use Rattle.mpb_replay.proofs.replaying.judge_lines.Goals as goal

pub returns-in-Some : goal.returns-in-Some
returns-in-Some c =
    let plan = c.args.board.now.plan in
    let r = c.args.report.now in
    state plan r c.in-Some.line (subst (IsComplete plan) c.requires.played c.requires.complete) c.requires.pulses
    (subst (λ js. AllAccounted plan js r.logs) c.requires.played c.requires.accounted)
    (subst (λ js. IsFirstDifference (lines_in r) (lines_of (final_state_of plan js)) c.in-Some.line) c.requires.played c.in-Some.ensures)

pub returns-in-None : goal.returns-in-None
returns-in-None c =
    let plan = c.args.board.now.plan in
    let r = c.args.report.now in
    legal plan r (subst (IsComplete plan) c.requires.played c.requires.complete) c.requires.pulses
    (subst (λ js. AllAccounted plan js r.logs) c.requires.played c.requires.accounted)
    (subst (λ js. lines_in r ≡ lines_of (final_state_of plan js)) c.requires.played c.in-None.ensures)
