use Rattle.mpb_core_laws.proofs.TargetLemmas.{same-state, same-outcomes}
use Rattle.mpb_core_laws.proofs.targets.lowest_priority_wants_a_running_target.Goals as goal

pub returns : goal.returns
returns c = record { state = same-state; outcomes = same-outcomes }
