use Rattle.std.proofs.Common.{◌≡◌, take, find, None}
use Rattle.mpb_spec.specs.Pulses.{is_on}
use Rattle.mpb_replay.proofs.accounts.first_hit.Given as goal

abbrev pub invariant-loop-made : goal.invariant-loop-made
invariant-loop-made l = find (λ x. is_on l.at.io l.at.pin x.0) (take l.made-index l.log) ≡ None
