use Rattle.mpb_replay_laws.proofs.Equality.{op_decides}
use Rattle.mpb_replay.proofs.EntryLemmas.{match_of}
use Rattle.mpb_replay.proofs.entries.same_op.Goals as goal

pub returns : goal.returns
returns c = match_of c.eq.result _ (op_decides c.args.one c.args.other c.eq.result c.eq.ensures)
