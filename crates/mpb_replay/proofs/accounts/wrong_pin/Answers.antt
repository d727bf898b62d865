use Rattle.std.proofs.Common.{below_more, get_or, ap, ◌∙◌, ℕ}
use Rattle.mpb_replay_laws.specs.Differences.{IsAccountedAt}
use Rattle.mpb_replay.proofs.HitLemmas.{told_by}
use Rattle.mpb_replay.proofs.accounts.wrong_pin.Goals as goal

pub loop-pin-preserved : goal.loop-pin-preserved
loop-pin-preserved c =
    let logs = c.args.logs.now in
    below_more (λ pin. IsAccountedAt c.args.io pin c.args.entries.now logs) c.loop-pin.pin c.loop-pin.invariant
    (told_by c.args.io c.loop-pin.pin _ c.args.entries.now logs c.is_accounted.result _ (ap (λ (k : ℕ). get_or c.collections-counts.result k 0) c.from.ensures ∙ c.collections-counts.ensures.counts c.loop-pin.pin c.loop-pin-test.true) c.is_accounted.ensures c.if-not-is_accounted.false)

pub returns-then-not-is_accounted : goal.returns-then-not-is_accounted
returns-then-not-is_accounted c =
    let logs = c.args.logs.now in
    record {
      low = c.loop-pin-test.true;
      wrong = told_by c.args.io c.loop-pin.pin _ c.args.entries.now logs c.is_accounted.result _ (ap (λ (k : ℕ). get_or c.collections-counts.result k 0) c.from.ensures ∙ c.collections-counts.ensures.counts c.loop-pin.pin c.loop-pin-test.true) c.is_accounted.ensures c.if-not-is_accounted.true;
      first = c.loop-pin.invariant;
    }
