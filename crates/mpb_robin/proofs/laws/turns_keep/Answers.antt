use Rattle.mpb_robin.proofs.TurnsKeep.{first_is}
use Rattle.mpb_robin.proofs.Rounds.{turn_keeps}
use Rattle.mpb_robin.proofs.laws.turns_keep.Goals as goal

pub returns-clause-first : goal.returns-clause-first
returns-clause-first c = first_is

pub returns-clause-turns : goal.returns-clause-turns
returns-clause-turns c = turn_keeps
