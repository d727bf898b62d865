use Rattle.std.proofs.Common.{◌≡◌, ◌≤◌, ◌*◌, take}
use Rattle.mpb_spec.specs.Pulses.{new_hits}
use Rattle.mpb_replay.proofs.accounts.new_hits.Given as goal

abbrev pub invariant-loop-log : goal.invariant-loop-log
invariant-loop-log l = (l.count ≡ new_hits l.at.io l.at.pin (take l.log-index l.logs)) × (l.count ≤ 4611686018427387903 * l.log-index)
