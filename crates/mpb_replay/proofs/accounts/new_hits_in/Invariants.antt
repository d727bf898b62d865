use Rattle.std.proofs.Common.{◌≡◌, ◌≤◌, take}
use Rattle.mpb_spec.specs.Pulses.{new_hits_in}
use Rattle.mpb_replay.proofs.accounts.new_hits_in.Given as goal

abbrev pub invariant-loop-made : goal.invariant-loop-made
invariant-loop-made l = (l.count ≡ new_hits_in l.at.io l.at.pin (take l.made-index l.log)) × (l.count ≤ l.made-index)
