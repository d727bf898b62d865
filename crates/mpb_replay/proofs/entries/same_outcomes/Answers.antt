use Rattle.mpb_replay_laws.proofs.Equality.{outcomes_decide}
use Rattle.mpb_replay.proofs.EntryLemmas.{match_of}
use Rattle.mpb_replay.proofs.entries.same_outcomes.Goals as goal

pub returns : goal.returns
returns c = match_of c.eq.result _ (outcomes_decide c.args.one.now c.args.other.now c.eq.result c.eq.ensures)
