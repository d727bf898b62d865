use Rattle.std.proofs.Common.{◌≡◌, ◌++◌, map}
use Rattle.std.specs.List.{range_with_len}
use Rattle.mpb_spec.specs.declared.agent.Agent.TheVariants.{Io}
use Rattle.mpb_board.proofs.roster.push_ios.Given as goal

abbrev pub invariant-loop-place : goal.invariant-loop-place
invariant-loop-place l = l.agents.items ≡ l.initial.agents.items ++ map Io (range_with_len 0 l.place)
