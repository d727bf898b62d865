use Rattle.mpb_core_laws.proofs.TargetLemmas.{one-target}
use Rattle.mpb_core_laws.proofs.targets.lowest_priority_has_one_target.Goals as goal

pub returns : goal.returns
returns c = one-target
