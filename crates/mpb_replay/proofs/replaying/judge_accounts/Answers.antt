use Rattle.std.proofs.Common.{◌≡◌, ◌<◌, ℕ, length, ap, sym, subst, ◌∙◌, arith}
use Rattle.mpb_spec.specs.Journal.{IsComplete}
use Rattle.mpb_replay_laws.proofs.Verdicts.{accounts}
use Rattle.mpb_replay.specs.Compared.{AreAccounted, IsFirstPinOf}
use Rattle.mpb_replay.proofs.HitLemmas.{first_of, all_of}
use Rattle.mpb_replay.proofs.replaying.judge_accounts.Goals as goal

pub judge_lines-requires-clause-accounted : goal.judge_lines-requires-clause-accounted
judge_lines-requires-clause-accounted c =
    let plan = c.args.board.now.plan in
    let r = c.args.report.now in
    let ios : length c.behind-board.inside.ios.items ≡ length plan.ios = ap (λ p. length p.ios) (c.behind-board.view_is ∙ c.config.ensures.same) in
    all_of plan c.len-ios.result c.args.board.now.journal r.logs (omega (arith, ios, c.len-ios.ensures))
    (subst (λ js. (io : ℕ) → io < c.len-ios.result → AreAccounted io 24 js r.logs) (sym c.requires.played)
    (subst (λ js. (io : ℕ) → io < c.len-ios.result → AreAccounted io 24 js r.logs) c.as_slice.ensures
    (subst (λ ls. (io : ℕ) → io < c.len-ios.result → AreAccounted io 24 c.as_slice.result.now ls) c.as_slice-2.ensures c.in-None.ensures)))

pub returns-in-Some : goal.returns-in-Some
returns-in-Some c =
    let plan = c.args.board.now.plan in
    let r = c.args.report.now in
    let ios : length c.behind-board.inside.ios.items ≡ length plan.ios = ap (λ p. length p.ios) (c.behind-board.view_is ∙ c.config.ensures.same) in
    accounts plan r c.in-Some.at.io c.in-Some.at.pin (subst (IsComplete plan) c.requires.played c.requires.complete) c.requires.pulses
    (first_of plan c.len-ios.result c.in-Some.at r.entries r.logs (omega (arith, ios, c.len-ios.ensures))
    (subst (λ js. IsFirstPinOf c.len-ios.result c.in-Some.at js r.logs) c.as_slice.ensures
    (subst (λ ls. IsFirstPinOf c.len-ios.result c.in-Some.at c.as_slice.result.now ls) c.as_slice-2.ensures c.in-Some.ensures)))
