use Rattle.std.proofs.Common.{◌∙◌}
use Rattle.mpb_replay.proofs.HitLemmas.{test_is}
use Rattle.mpb_replay.proofs.accounts.is_accounted.Goals as goal

pub returns : goal.returns
returns c = c.holds.ensures ∙ test_is c.args.at.io c.args.at.pin c.args.count c.new_hits-hits.result c.args.logs.now c.has_hit.result c.has_new_start.result c.new_hits-hits.ensures c.has_hit.ensures c.has_new_start.ensures
