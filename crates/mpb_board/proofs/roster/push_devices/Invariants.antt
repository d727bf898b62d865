use Rattle.std.proofs.Common.{◌≡◌, ◌++◌, map}
use Rattle.std.specs.List.{range_with_len}
use Rattle.mpb_spec.specs.declared.agent.Agent.TheVariants.{Dev}
use Rattle.mpb_board.proofs.roster.push_devices.Given as goal

abbrev pub invariant-loop-device : goal.invariant-loop-device
invariant-loop-device l = l.agents.items ≡ l.initial.agents.items ++ map Dev (range_with_len 0 l.device)
