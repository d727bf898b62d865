use Rattle.std.proofs.Common.{◌≡◌, take}
use Rattle.mpb_spec.proofs.entry.same_outcomes.Given as goal

abbrev pub invariant-loop-outcome : goal.invariant-loop-outcome
invariant-loop-outcome l = l.outcomes.items ≡ take l.outcome-index l.list
